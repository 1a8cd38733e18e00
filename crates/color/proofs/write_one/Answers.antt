-- `color::write_one` meets its contract. Assumes nothing.
use mathlib.Core.Path.{◌≡◌, refl, ◌∙◌}
use Prim.Native.Nat.{◌+◌}
use lib.IntN.{pos}
use lib.ListN.{get_or}
use mir.Syntax.{w16}
use mir.Val.{to_z, of_z}
use borrow.Author.Rules.{rules}
use Rattle.color.proofs.Picture.{pixel_turn}
use Rattle.color.proofs.write_one.Goals as goal

pub returns : goal.returns
returns c =
    let a = c.args in
    let y : to_z w16 (of_z w16 (get_or a.y.now a.at (pos 0))) ≡ get_or a.y.now a.at (pos 0) = search rules in
    let b : to_z w16 (of_z w16 (get_or a.cb.now a.at (pos 0))) ≡ get_or a.cb.now a.at (pos 0) = search rules in
    let r : to_z w16 (of_z w16 (get_or a.cr.now a.at (pos 0))) ≡ get_or a.cr.now a.at (pos 0) = search rules in
    pixel_turn a.y.now a.cb.now a.cr.now a.pixels.now _ a.at (a.at + 1) c.four.result c.requires.0 c.requires.1
    (c.four.ensures ∙ rw (c.red_green.ensures, c.blue_full.ensures, y, b, r)) refl c.put_word.ensures
