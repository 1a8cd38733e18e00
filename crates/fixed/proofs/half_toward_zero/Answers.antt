-- `fixed::half_toward_zero` meets its contract. Assumes nothing.
use mathlib.Core.Path.{◌≡◌}
use mir.Facts.{to_z-of_z}
use mir.Syntax.{w32}
use mir.Val.{to_z, of_z}
use Rattle.fixed.specs.Fixed.{half_toward_zero}
use Rattle.fixed.proofs.Machine.{signed}
use Rattle.fixed.proofs.half_toward_zero.Goals as goal

pub returns : goal.returns
returns c = let half : to_z w32 (of_z w32 (half_toward_zero c.args.value)) ≡ half_toward_zero c.args.value = to_z-of_z {w = w32} (search signed depth 20) in
    simp (to_z-of_z {w = w32} c.ranges.value) half

pub nonzero_div-result : goal.nonzero_div-result
nonzero_div-result c = search signed depth 20
