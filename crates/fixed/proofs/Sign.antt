-- Signs and magnitudes. Assumes nothing.
use mathlib.Core.Path.{◌≡◌, refl, sym, ap}
use mathlib.Core.Bool.{Bool, true, true≢false}
use Prim.Native.Nat.{ℕ, zero, suc}
use native.Mathlib.Omega.{arith}
use lib.Dec.{eqb}
use lib.IntN.{ℤ, pos, negsuc, nat_abs, neg_ℤ, ◌-ℤ◌, +ℤ_idl}
use mir.Syntax.{Width}
use mir.Val.{SFits, of_z}
use Rattle.fixed.specs.Fixed.{is_zero, is_one, sign_of, with_sign}
use Rattle.std.proofs.lemmas.Bool.{ne_eqb}
use Rattle.std.specs.Int.{int_signum}
use Rattle.fixed.proofs.Bounds.{Under}
use Rattle.fixed.proofs.Machine.{same_bits}

-- ---- tests, at every width: `v == 0` and `v == 1`, which compare bits
-- whether it is 0
pub zero_test : (w : Width) (v : ℤ) → SFits w v → SFits w (pos 0) → eqb (of_z w v) 0 ≡ is_zero v
unfolding is_zero
zero_test w (pos zero) f g = refl
zero_test w (pos (suc n)) f g = ne_eqb (suc n) 0 (λ e. cc)
zero_test w (negsuc n) f g = ne_eqb _ _ (λ e. let s : negsuc n ≡ pos 0 = same_bits w (negsuc n) (pos 0) f g e in cc)

-- whether it is 1
pub one_test : (w : Width) (v : ℤ) → SFits w v → SFits w (pos 1) → eqb (of_z w v) 1 ≡ is_one v
unfolding is_one
one_test w (pos zero) f g = refl
one_test w (pos (suc zero)) f g = refl
one_test w (pos (suc (suc n))) f g = ne_eqb (suc (suc n)) 1 (λ e. cc)
one_test w (negsuc n) f g = ne_eqb _ _ (λ e. let s : negsuc n ≡ pos 1 = same_bits w (negsuc n) (pos 1) f g e in cc)

-- ---- the sign of a value

-- what the test calls 0 is 0
pub zero_is : (v : ℤ) → is_zero v ≡ true → v ≡ pos 0
unfolding is_zero
zero_is (pos zero) e = refl
zero_is (pos (suc n)) e = absurd (true≢false (sym e))
zero_is (negsuc n) e = absurd (true≢false (sym e))

-- as the library computes it
pub signum_is : (v : ℤ) → int_signum v ≡ sign_of v
unfolding sign_of
signum_is (pos zero) = refl
signum_is (pos (suc n)) = ap pos (omega arith)
signum_is (negsuc n) = refl

-- it fits eight bits
pub sign_under : (v : ℤ) → Under 128 (sign_of v)
unfolding sign_of
sign_under (pos zero) = record { under = omega arith }
sign_under (pos (suc n)) = record { under = omega arith }
sign_under (negsuc n) = record { under = omega arith }

-- the negative of m has the magnitude m
pub abs_minus : (m : ℕ) → nat_abs (neg_ℤ (pos m)) ≡ m
abs_minus zero = refl
abs_minus (suc m) = refl

-- a magnitude with a minus is 0 less the magnitude
pub with_minus : (m : ℕ) (b : Bool) → b ≡ true → pos 0 -ℤ pos m ≡ with_sign b m
with_minus m b e = rw e (+ℤ_idl (neg_ℤ (pos m)))
