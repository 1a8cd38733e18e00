-- `pixels::write_samples` meets its contract. Assumes nothing.
use mathlib.Core.Path.{sym, ap, ◌∙◌}
use mathlib.Core.List.{◌++◌}
use Prim.Native.Nat.{ℕ, ◌*◌}
use native.Mathlib.Omega.{arith}
use lib.ListN.{drop}
use Rattle.planes.specs.Planes.{component}
use Rattle.planes.proofs.Joined.{parts_long}
use Rattle.color.specs.Color.{picture}
use Rattle.pixels.proofs.write_samples.Goals as goal

pub write_rgba-requires : goal.write_rgba-requires
write_rgba-requires c =
    let long = parts_long 4096 c.args.samples.now c.requires.0 in
    let y = long 0 (omega arith) in
    (long 1 (omega arith) ∙ sym y, long 2 (omega arith) ∙ sym y, rw y c.requires.1)

pub returns : goal.returns
returns c =
    let l = c.args.samples.now in
    let y = parts_long 4096 l c.requires.0 0 (omega arith) in
    c.write_rgba.ensures ∙ ap (λ (n : ℕ). picture (component 0 l) (component 1 l) (component 2 l) ++ drop (4 * n) c.args.pixels.now) y
