-- `tile::TileState::reconstruct_to_rgba` meets its contract. Assumes nothing.
use mathlib.Core.Path.{◌≡◌}
use Rattle.std.specs.Prelude.{None}
use Rattle.answer.proofs.Refusing.{none_given}
use Rattle.tile.specs.Tile.{numbers_refusal}
use Rattle.tile.proofs.TileState.reconstruct_to_rgba.Goals as goal

pub returns : goal.returns
returns c =
    let none : numbers_refusal c.args.self.now ≡ None = none_given (numbers_refusal c.args.self.now) tt c.in_ok-check_numbers.ensures in
    let e = c.reconstruct_to_rgba.ensures in
    record { answer = simp none e.answer; pixels = simp none e.pixels }
