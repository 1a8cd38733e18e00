-- `color::rounded_half` meets its contract. Assumes nothing.
use mathlib.Core.Path.{◌≡◌, ap, ◌∙◌}
use Prim.Native.Nat.{◌/◌}
use native.Mathlib.Omega.{arith}
use lib.IntN.{pos, nat_abs, ◌+ℤ◌}
use lib.Bits.{bit_and}
use lib.Signed.{shr_z}
use mir.Facts.{to_z_pos}
use mir.Syntax.{w16, w32}
use mir.Val.{to_z, of_z}
use Rattle.fixed.specs.Fixed.{low16}
use Rattle.color.specs.Color.{rounded}
use Rattle.fixed.proofs.Machine.{exact, known, fits_eq, to_unsigned}
use Rattle.color.proofs.HalfWords.{low_bits, low_small, halves, high_under, rounded_under}
use Rattle.color.proofs.rounded_half.Goals as goal

pub overflow_cast-result : goal.overflow_cast-result
overflow_cast-result c = fits_eq w16 (search exact depth 20) (high_under c.args.p c.ranges.p.sfits)

pub overflow_cast-result-2 : goal.overflow_cast-result-2
overflow_cast-result-2 c =
    let low : to_z w32 (bit_and (of_z w32 c.args.p) 65535) ≡ pos (low16 c.args.p) = low_bits c.args.p c.ranges.p.sfits in
    rw low (record { sfits = omega (arith, low_small c.args.p) })

pub overflow_add-result : goal.overflow_add-result
overflow_add-result c =
    let high : to_z w16 (of_z w16 (to_z w32 (of_z w32 (shr_z (to_z w32 (of_z w32 c.args.p)) 65536)))) ≡ shr_z c.args.p 65536 = let u = high_under c.args.p c.ranges.p.sfits in search (known, exact) depth 20 in
    let low : to_z w32 (bit_and (of_z w32 c.args.p) 65535) ≡ pos (low16 c.args.p) = low_bits c.args.p c.ranges.p.sfits in
    let bit : to_z w16 (nat_abs (to_z w32 (bit_and (of_z w32 c.args.p) 65535)) / 32768) ≡ pos (low16 c.args.p / 32768) = ap (λ z. to_z w16 (nat_abs z / 32768)) low ∙ to_z_pos w16 (omega (arith, low_small c.args.p)) in
    let both : to_z w16 (of_z w16 (to_z w32 (of_z w32 (shr_z (to_z w32 (of_z w32 c.args.p)) 65536)))) +ℤ to_z w16 (nat_abs (to_z w32 (bit_and (of_z w32 c.args.p) 65535)) / 32768) ≡ rounded c.args.p = (λ j. high j +ℤ bit j) ∙ halves c.args.p in
    fits_eq w16 both (rounded_under c.args.p (record { under = c.requires.within }))

pub returns : goal.returns
returns c =
    let high : to_z w16 (of_z w16 (to_z w32 (of_z w32 (shr_z (to_z w32 (of_z w32 c.args.p)) 65536)))) ≡ shr_z c.args.p 65536 = let u = high_under c.args.p c.ranges.p.sfits in search (known, exact) depth 20 in
    let low : to_z w32 (bit_and (of_z w32 c.args.p) 65535) ≡ pos (low16 c.args.p) = low_bits c.args.p c.ranges.p.sfits in
    let bit : to_z w16 (nat_abs (to_z w32 (bit_and (of_z w32 c.args.p) 65535)) / 32768) ≡ pos (low16 c.args.p / 32768) = ap (λ z. to_z w16 (nat_abs z / 32768)) low ∙ to_z_pos w16 (omega (arith, low_small c.args.p)) in
    let both : to_z w16 (of_z w16 (to_z w32 (of_z w32 (shr_z (to_z w32 (of_z w32 c.args.p)) 65536)))) +ℤ to_z w16 (nat_abs (to_z w32 (bit_and (of_z w32 c.args.p) 65535)) / 32768) ≡ rounded c.args.p = (λ j. high j +ℤ bit j) ∙ halves c.args.p in
    known w16 _ _ both (rounded_under c.args.p (record { under = c.requires.within }))

pub overflow_cast-low : goal.overflow_cast-low
overflow_cast-low c =
    let low : to_z w32 (bit_and (of_z w32 c.args.p) 65535) ≡ pos (low16 c.args.p) = low_bits c.args.p c.ranges.p.sfits in
    to_unsigned w16 low (low_small c.args.p)
