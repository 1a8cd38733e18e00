-- How large a sum, a difference, a product and a quotient can be. `mag z` is n both for n and for -(n + 1), so that -N ≤ z < N is `mag z < N`.
--     subℕ_pos, subℕ_neg      a - b for two naturals, by which is larger
--     add_mag, sub_mag        a sum and a difference: under N where both operands are under N / 2
--     times_mag               a product by k: under N where the other factor is under (N - 1) / k
--     quot_mag                a quotient by k, rounded towards zero: no larger than the dividend (the library has `mag_shr` for the one rounded down)
-- Assumes nothing.
use mathlib.Core.Path.{◌≡◌, refl}
use mathlib.Core.Bool.{Bool, true, false, not, cond}
use Prim.Native.Nat.{ℕ, zero, suc, ◌*◌, ◌-◌, ◌/◌, ◌<◌, ◌≤◌}
use native.Mathlib.Omega.{arith}
use native.Mathlib.Nat.{lt_of_le_of_lt, div-le_self, div-mul-le_self, mul-le-mul_right}
use borrow.Author.Tests.{le-ltb, lt-ltb}
use lib.Dec.{T, ltb, ltb→lt, nltb→le}
use lib.IntN.{ℤ, pos, negsuc, sub_ℕ, neg_ℤ, nat_abs, ◌+ℤ◌, ◌-ℤ◌, ◌*ℤ◌}
use lib.Signed.{mag, quot_z, nat_abs-le}

-- ---- a - b for two naturals
-- where b is not larger
pub subℕ_pos : (a b : ℕ) → b ≤ a → sub_ℕ a b ≡ pos (a - b)
subℕ_pos a b h = rw (le-ltb a b h)

-- where b is larger
pub subℕ_neg : (a b : ℕ) → a < b → sub_ℕ a b ≡ negsuc (b - suc a)
subℕ_neg a b h = rw (lt-ltb a b h)

-- and how large it is
pub mag_subℕ : (a b K : ℕ) → a ≤ K → b ≤ suc K → mag (sub_ℕ a b) ≤ K
mag_subℕ a b K p q = pick (ltb a b) (ltb→lt a b) (nltb→le a b)
  where
    pick : (t : Bool) → (T t → a < b) → (T (not t) → b ≤ a) → mag (cond t (negsuc (b - suc a)) (pos (a - b))) ≤ K
    pick true f g = let h : a < b = f tt in omega arith
    pick false f g = let h : b ≤ a = g tt in omega arith

-- ---- sums and differences
-- a sum of two that are under N / 2
pub add_mag : (x y : ℤ) (N : ℕ) → mag x < N / 2 → mag y < N / 2 → mag (x +ℤ y) < N
add_mag (pos a) (pos b) N p q = omega arith
add_mag (pos a) (negsuc b) N p q = omega (arith, mag_subℕ a (suc b) (N / 2) (omega arith) (omega arith))
add_mag (negsuc a) (pos b) N p q = omega (arith, mag_subℕ b (suc a) (N / 2) (omega arith) (omega arith))
add_mag (negsuc a) (negsuc b) N p q = omega arith

-- and their difference
pub sub_mag : (x y : ℤ) (N : ℕ) → mag x < N / 2 → mag y < N / 2 → mag (x -ℤ y) < N
sub_mag x (pos zero) N p q = add_mag x (pos zero) N p q
sub_mag x (pos (suc b)) N p q = add_mag x (negsuc b) N p (omega arith)
sub_mag (pos a) (negsuc b) N p q = omega arith
sub_mag (negsuc a) (negsuc b) N p q = omega (arith, mag_subℕ (suc b) (suc a) (N / 2) (omega arith) (omega arith))

-- ---- products
mag_nat_abs : (z : ℤ) → mag z ≤ nat_abs z
mag_nat_abs (pos n) = omega arith
mag_nat_abs (negsuc n) = omega arith

nat_abs_neg : (z : ℤ) → nat_abs (neg_ℤ z) ≡ nat_abs z
nat_abs_neg (pos zero) = refl
nat_abs_neg (pos (suc n)) = refl
nat_abs_neg (negsuc n) = refl

pub nat_abs_times : (x : ℤ) (k : ℕ) → nat_abs (x *ℤ pos k) ≡ nat_abs x * k
nat_abs_times (pos a) k = refl
nat_abs_times (negsuc a) k = nat_abs_neg (pos (suc a * k))

-- a product of k and what is under (N - 1) / k
pub times_mag : (x : ℤ) (k N : ℕ) → mag x < (N - 1) / k → mag (x *ℤ pos k) < N
times_mag x k N p =
    lt_of_le_of_lt (mag_nat_abs (x *ℤ pos k)) (rw nat_abs_times (omega (arith, mul-le-mul_right k (nat_abs-le x p), div-mul-le_self (N - 1) k, div-le_self (N - 1) k)))

-- ---- quotients
-- a quotient is no larger than the dividend
pub quot_mag : (x : ℤ) (k : ℕ) → mag (quot_z x (pos k)) ≤ mag x
quot_mag (pos a) k = div-le_self a k
quot_mag (negsuc a) k = neg_mag (suc a / k) a (div-le_self (suc a) k)
  where
    neg_mag : (r a : ℕ) → r ≤ suc a → mag (neg_ℤ (pos r)) ≤ a
    neg_mag zero a h = omega arith
    neg_mag (suc r) a h = omega arith
