-- A number of thirty-two bits in two halves: the low one, and what is rounded by both.
-- Assumes nothing.
use mathlib.Core.Path.{◌≡◌, refl, ap, ◌∙◌}
use mathlib.Core.Bool.{Bool, true, false, cond}
use Prim.Native.Nat.{ℕ, suc, ◌-◌, ◌*◌, ◌/◌, ◌%◌, ◌<◌}
use native.Mathlib.Omega.{arith}
use borrow.Author.Tests.{ltb-true, ltb-false}
use lib.Bits.{bit_and, and_mask}
use lib.Dec.{ltb}
use lib.IntN.{ℤ, pos, negsuc, ◌+ℤ◌}
use lib.Signed.{mag, shr_z}
use mir.Facts.{to_z_pos}
use mir.Syntax.{w32}
use mir.Val.{to_z, of_z}
use Rattle.fixed.specs.Fixed.{low16}
use Rattle.fixed.proofs.Bounds.{Under}
use Rattle.color.specs.Color.{rounded}

low_mod : (p : ℤ) → mag p < 2147483648 → of_z w32 p % 65536 ≡ low16 p
unfolding low16
low_mod (pos n) h = refl
low_mod (negsuc n) h = omega arith

pub low_small : (p : ℤ) → low16 p < 65536
unfolding low16
low_small (pos n) = omega arith
low_small (negsuc n) = omega arith

-- the machine's `p & 65535`
pub low_bits : (p : ℤ) → mag p < 2147483648 → to_z w32 (bit_and (of_z w32 p) 65535) ≡ pos (low16 p)
low_bits p h = ap (to_z w32) (and_mask (of_z w32 p) 16 ∙ low_mod p h) ∙ to_z_pos w32 (omega (arith, low_small p))

-- the high half, and 1 more where the low one has its top bit set
pub halves : (p : ℤ) → shr_z p 65536 +ℤ pos (low16 p / 32768) ≡ rounded p
unfolding low16
halves (pos n) = ap pos (omega arith)
halves (negsuc n) = pick (ltb ((65535 - n % 65536) / 32768) (suc (n / 65536))) (ltb 32768 (suc n)) refl refl
  where
    pick : (s t : Bool) → ltb ((65535 - n % 65536) / 32768) (suc (n / 65536)) ≡ s → ltb 32768 (suc n) ≡ t
        → cond s (negsuc (suc (n / 65536) - suc ((65535 - n % 65536) / 32768))) (pos ((65535 - n % 65536) / 32768 - suc (n / 65536))) ≡ shr_z (cond t (negsuc (suc n - suc 32768)) (pos (32768 - suc n))) 65536
    pick true true e f = ap negsuc (omega (arith, ltb-true))
    pick true false e f = absurd (omega (arith, ltb-true, ltb-false))
    pick false true e f = absurd (omega (arith, ltb-true, ltb-false))
    pick false false e f = ap pos (omega (arith, ltb-false))

-- how large they are
pub high_under : (p : ℤ) → mag p < 2147483648 → Under 32768 (shr_z p 65536)
high_under (pos n) h = record { under = omega arith }
high_under (negsuc n) h = record { under = omega arith }

pub rounded_under : {N : ℕ} (p : ℤ) → Under (N * 65536 - 32768) p → Under N (rounded p)
rounded_under (pos n) u = record { under = omega (arith, u.under) }
rounded_under {N} (negsuc n) u = record { under = pick (ltb 32768 (suc n)) }
  where
    pick : (t : Bool) → mag (shr_z (cond t (negsuc (suc n - suc 32768)) (pos (32768 - suc n))) 65536) < N
    pick true = omega (arith, u.under)
    pick false = omega (arith, u.under)
