-- A sum that is clamped to sixteen bits, and a number added later that is too small to bring it back to 0 .. 255.
-- Assumes nothing.
use mathlib.Core.Path.{◌≡◌, refl, sym, ◌∙◌}
use mathlib.Core.Bool.{Bool, true, false, cond}
use Prim.Native.Nat.{ℕ, zero, suc, ◌-◌, ◌<◌, min}
use native.Mathlib.Omega.{arith}
use borrow.Author.Tests.{ltb-true}
use lib.Dec.{ltb}
use lib.IntN.{ℤ, pos, negsuc, sub_ℕ, neg_ℤ, ◌+ℤ◌, ◌-ℤ◌, +ℤ_idl}
use lib.Signed.{mag}
use Rattle.fixed.specs.Fixed.{clamp_i16, clamp_u8}
use Rattle.fixed.proofs.Bounds.{Under}
use Rattle.fixed.proofs.Sizes.{mag_subℕ}
use Rattle.color.specs.Inner.{Within}

-- the byte of a - b for two naturals
byte_sub : (a b : ℕ) → clamp_u8 (sub_ℕ a b) ≡ min (a - b) 255
unfolding clamp_u8
byte_sub a b = pick (ltb a b) refl
  where
    pick : (t : Bool) → ltb a b ≡ t → clamp_u8 (cond t (negsuc (b - suc a)) (pos (a - b))) ≡ min (a - b) 255
    pick true e = omega (arith, ltb-true)
    pick false e = refl

pub late : (a b : ℤ) → mag b < 32512 → clamp_u8 (clamp_i16 a +ℤ b) ≡ clamp_u8 (a +ℤ b)
unfolding clamp_i16 clamp_u8
late (pos n) (pos m) h = omega arith
late (pos n) (negsuc m) h =
    let e : min (min n 32767 - suc m) 255 ≡ min (n - suc m) 255 = omega arith in
    byte_sub (min n 32767) (suc m) ∙ e ∙ sym (byte_sub n (suc m))
late (negsuc n) (pos m) h =
    let e : min (m - suc (min n 32767)) 255 ≡ min (m - suc n) 255 = omega arith in
    byte_sub m (suc (min n 32767)) ∙ e ∙ sym (byte_sub m (suc n))
late (negsuc n) (negsuc m) h = refl

-- nothing added
pub byte_clamped : (z : ℤ) → clamp_u8 (clamp_i16 z) ≡ clamp_u8 z
unfolding clamp_i16 clamp_u8
byte_clamped (pos n) = omega arith
byte_clamped (negsuc n) = refl

-- 128 added to a small number
pub more_under : (m : ℤ) → mag m < 32384 → Under 32512 (m +ℤ pos 128)
more_under (pos n) h = record { under = omega arith }
more_under (negsuc n) h = record { under = omega (arith, mag_subℕ 128 (suc n) 32384 (omega arith) (omega arith)) }

-- 0 less a number
pub minus_under : {N : ℕ} (z : ℤ) → Under N z → Under (suc N) (pos 0 -ℤ z)
minus_under {N} z u = rw (+ℤ_idl (neg_ℤ z)) (negated z u)
  where
    negated : (z : ℤ) → Under N z → Under (suc N) (neg_ℤ z)
    negated (pos zero) u = record { under = omega arith }
    negated (pos (suc n)) u = record { under = omega (arith, u.under) }
    negated (negsuc n) u = record { under = omega (arith, u.under) }

-- ---- bounds as the contracts here have them
pub within_of : {N : ℕ} {z : ℤ} → Under N z → Within N z
within_of u = record { within = u.under }

-- of a value y that is known
pub within_eq : {N : ℕ} {y z : ℤ} → y ≡ z → Under N z → Within N y
within_eq e u = rw e (within_of u)
