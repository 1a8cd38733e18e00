-- `fixed::shift_left_clamp` meets its contract. Assumes nothing.
use mathlib.Core.Path.{◌≡◌, ◌∙◌, ap, refl}
use Prim.Native.Nat.{◌-◌, ◌*◌, ◌%◌, ◌^◌}
use native.Mathlib.Omega.{arith}
use lib.IntN.{pos, ◌*ℤ◌}
use lib.Signed.{shr_z}
use mir.Facts.{to_z-of_z}
use mir.Syntax.{w16, w32}
use mir.Val.{to_z, of_z}
use Rattle.fixed.specs.Fixed.{clamp_i16}
use Rattle.fixed.proofs.Bounds.{under_shr}
use Rattle.fixed.proofs.Machine.{exact, got, known, shl_eq}
use Rattle.fixed.proofs.Shift.{top_under, left_is, left_far}
use Rattle.fixed.proofs.shift_left_clamp.Goals as goal

pub returns-then-shift-gt15 : goal.returns-then-shift-gt15
returns-then-shift-gt15 c =
    let from : c.from.result ≡ c.args.value = c.from.ensures ∙ to_z-of_z c.ranges.value in
    got w16 c.clamp_i16.type_inv (c.clamp_i16.ensures ∙ ap clamp_i16 (search (from, exact) depth 20) ∙ left_far c.args.value c.args.shift (omega arith))

pub returns : goal.returns
returns c = let v = c.args.value in
    let k = c.args.shift in
    let from : c.from-2.result ≡ v = c.from-2.ensures ∙ to_z-of_z c.ranges.value in
    let u = top_under v c.ranges.value.sfits in
    let top : to_z w32 (of_z w32 c.from-2.result * 65536 % 4294967296) ≡ v *ℤ pos 65536 = rw from (shl_eq w32 v v 65536 refl (omega arith) u) in
    got w16 c.clamp_i16-2.type_inv (c.clamp_i16-2.ensures ∙ ap clamp_i16 (known w32 _ _ (ap (λ z. shr_z z (2 ^ (16 - k))) top) (under_shr _ u)) ∙ left_is v k (omega arith))
