-- The two clamps: the library's `clamp` computes them, each is within its range, and a number within the range is itself. By cases on the number.
-- Assumes nothing.
use mathlib.Core.Path.{◌≡◌, ap}
use Prim.Native.Nat.{◌<◌}
use native.Mathlib.Omega.{arith}
use Rattle.std.proofs.lemmas.Bool.Decides.{nat_tests}
use Rattle.std.specs.Int.{int_max, int_min}
use lib.IntN.{ℤ, pos, negsuc}
use lib.Signed.{mag}
use Rattle.fixed.specs.Fixed.{clamp_i16, clamp_u8}
use Rattle.fixed.proofs.Bounds.{Under}

-- ---- to -32768 .. 32767
-- as the library computes it
pub clamp_is : (v : ℤ) → int_max (negsuc 32767) (int_min v (pos 32767)) ≡ clamp_i16 v
unfolding clamp_i16
clamp_is (pos n) = grind (arith, nat_tests)
clamp_is (negsuc n) = grind (arith, nat_tests)

-- it fits sixteen bits
pub clamp_under : (v : ℤ) → Under 32768 (clamp_i16 v)
unfolding clamp_i16
clamp_under (pos n) = record { under = omega arith }
clamp_under (negsuc n) = record { under = omega arith }

-- within it, the number itself
pub clamp_same : (v : ℤ) → mag v < 32768 → v ≡ clamp_i16 v
unfolding clamp_i16
clamp_same (pos n) h = ap pos (omega arith)
clamp_same (negsuc n) h = ap negsuc (omega arith)

-- ---- to 0 .. 255
-- as the library computes it
pub byte_is : (v : ℤ) → int_max (pos 0) (int_min v (pos 255)) ≡ pos (clamp_u8 v)
unfolding clamp_u8
byte_is (pos n) = grind (arith, nat_tests)
byte_is (negsuc n) = grind (arith, nat_tests)

-- it is a byte
pub byte_fits : (v : ℤ) → clamp_u8 v < 256
unfolding clamp_u8
byte_fits (pos n) = omega arith
byte_fits (negsuc n) = omega arith

-- and fits sixty-four bits
pub byte_under : (v : ℤ) → Under 9223372036854775808 (pos (clamp_u8 v))
byte_under v = record { under = omega (arith, byte_fits v) }
