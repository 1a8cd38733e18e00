-- `fixed::round_shift_right` meets its contract. Assumes nothing.
use mathlib.Core.Path.{◌≡◌, ◌∙◌}
use Prim.Native.Nat.{◌-◌}
use native.Mathlib.Omega.{arith}
use lib.IntN.{◌-ℤ◌}
use mir.Facts.{to_z-of_z}
use mir.Syntax.{w16}
use mir.Val.{to_z, of_z}
use Rattle.fixed.specs.Fixed.{floor_shift, round_shift}
use Rattle.fixed.proofs.Bounds.{Under}
use Rattle.fixed.proofs.Machine.{exact, fits_eq, known}
use Rattle.fixed.proofs.Shift.{round_none, round_less, round_under, round_far}
use Rattle.fixed.proofs.round_shift_right.Goals as goal

pub returns-then-shift-gt15 : goal.returns-then-shift-gt15
returns-then-shift-gt15 c = round_far c.args.value c.args.shift c.ranges.value.sfits (omega arith)

pub returns-then-shift-eq0 : goal.returns-then-shift-eq0
returns-then-shift-eq0 c = to_z-of_z c.ranges.value ∙ round_none _ _ c.if-shift-eq0.true

pub overflow_sub-result-2 : goal.overflow_sub-result-2
overflow_sub-result-2 c =
    let same : to_z w16 (of_z w16 (floor_shift (to_z w16 (of_z w16 c.args.value)) (c.args.shift - 1))) -ℤ to_z w16 (of_z w16 (floor_shift (to_z w16 (of_z w16 c.args.value)) c.args.shift)) ≡ round_shift c.args.value c.args.shift = search exact depth 20 ∙ round_less c.args.value c.args.shift (omega arith) in
    let bound : Under 32768 (round_shift c.args.value c.args.shift) = round_under c.args.value c.args.shift c.ranges.value.sfits in
    fits_eq w16 (same) (bound)

pub returns : goal.returns
returns c =
    let same : to_z w16 (of_z w16 (floor_shift (to_z w16 (of_z w16 c.args.value)) (c.args.shift - 1))) -ℤ to_z w16 (of_z w16 (floor_shift (to_z w16 (of_z w16 c.args.value)) c.args.shift)) ≡ round_shift c.args.value c.args.shift = search exact depth 20 ∙ round_less c.args.value c.args.shift (omega arith) in
    let bound : Under 32768 (round_shift c.args.value c.args.shift) = round_under c.args.value c.args.shift c.ranges.value.sfits in
    known w16 _ _ (same) (bound)
