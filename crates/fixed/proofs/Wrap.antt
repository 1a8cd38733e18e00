-- Wrapping to sixteen bits: what `(v << 16) >> 16` computes in thirty-two bits is the definition's `wrap_i16`.
-- Assumes nothing.
use mathlib.Core.Path.{◌≡◌, refl, ap}
use mathlib.Core.Bool.{Bool, true, false, cond}
use Prim.Native.Nat.{ℕ, suc, ◌-◌, ◌*◌, ◌%◌, ◌<◌}
use native.Mathlib.Omega.{arith}
use borrow.Author.Tests.{ltb-true, ltb-false}
use lib.Dec.{T, ltb, leb}
use lib.IntN.{ℤ, pos, negsuc}
use lib.Signed.{mag, shr_z}
use mir.Syntax.{w32}
use mir.Val.{to_z, of_z, sel}
use Rattle.fixed.specs.Fixed.{low16, signed16, wrap_i16}
use Rattle.fixed.proofs.Bounds.{Under, under_more}

-- m in the upper half of thirty-two bits, read as signed and shifted down again
shifted : (b m : ℕ) → m < 65536 → b * 65536 % 4294967296 ≡ m * 65536 → shr_z (to_z w32 (b * 65536 % 4294967296)) 65536 ≡ signed16 m
unfolding signed16
shifted b m h e = rw e (pick (ltb (m * 65536) 2147483648) (ltb m 32768) refl refl)
  where
    pick : (p q : Bool) → ltb (m * 65536) 2147483648 ≡ p → ltb m 32768 ≡ q → shr_z (sel p (pos (m * 65536)) (negsuc (4294967296 - suc (m * 65536)))) 65536 ≡ cond q (pos m) (negsuc (65535 - m))
    pick true true e f = ap pos (omega arith)
    pick true false e f = absurd (omega (arith, ltb-true, ltb-false))
    pick false true e f = absurd (omega (arith, ltb-true, ltb-false))
    pick false false e f = ap negsuc (omega arith)

-- shifted up to the top of thirty-two bits and down again, a number keeps its low sixteen, read as signed
pub wrap_shifts : (v : ℤ) → mag v < 2147483648 → shr_z (to_z w32 (of_z w32 v * 65536 % 4294967296)) 65536 ≡ wrap_i16 v
unfolding wrap_i16 low16
wrap_shifts (pos n) h = shifted n (n % 65536) (omega arith) (omega arith)
wrap_shifts (negsuc n) h = shifted (4294967296 - suc n) (65535 - n % 65536) (omega arith) (omega arith)

signed_under : (m : ℕ) → m < 65536 → Under 32768 (signed16 m)
unfolding signed16
signed_under m h = pick (ltb m 32768) refl
  where
    pick : (q : Bool) → ltb m 32768 ≡ q → Under 32768 (cond q (pos m) (negsuc (65535 - m)))
    pick true e = record { under = omega (arith, ltb-true) }
    pick false e = record { under = omega (arith, ltb-false) }

-- a wrapped number fits sixteen bits
pub wrap_under : {N : ℕ} (v : ℤ) → T (leb 32768 N) → Under N (wrap_i16 v)
unfolding wrap_i16 low16
wrap_under (pos n) t = under_more (signed_under (n % 65536) (omega arith)) t
wrap_under (negsuc n) t = under_more (signed_under (65535 - n % 65536) (omega arith)) t
