-- A coefficient with m * 2 ^ k added or subtracted: thirty-two bits hold it for every sixteen-bit m and k up to 15, and a longer shift saturates.
-- Assumes nothing.
use mathlib.Core.Bool.{Bool, true, false, cond}
use mathlib.Core.Path.{◌≡◌, refl, sym, ap, ◌∙◌}
use Prim.Native.Nat.{ℕ, zero, suc, ◌*◌, ◌^◌, ◌<◌, ◌≤◌}
use native.Mathlib.Omega.{arith}
use native.Mathlib.Nat.{mul-le-mul}
use borrow.Author.Tests.{le-leb, lt-leb, ne_eqb, leb-true, leb-false, eqb-true, eqb-false}
use lib.Dec.{leb, eqb}
use lib.IntN.{ℤ, pos, negsuc, ◌+ℤ◌, ◌-ℤ◌}
use lib.Pow.{pow_mono}
use lib.Signed.{mag}
use Rattle.fixed.specs.Fixed.{clamp_i16, add_scaled, sub_scaled}
use Rattle.fixed.specs.Inner.{step}
use Rattle.fixed.proofs.Bounds.{Under}
use Rattle.fixed.proofs.Sizes.{subℕ_pos, subℕ_neg, mag_subℕ}
use Rattle.fixed.proofs.Shift.{power_small}

-- ---- the three cases of `step`
-- up to 15 places it is the product
pub step_exact : (m k : ℕ) → k ≤ 15 → m * 2 ^ k ≡ step m k
unfolding step
step_exact m k h = rw (le-leb k 15 h)

-- farther, 0 for 0
pub step_none : (m k : ℕ) → 15 < k → m ≡ 0 → 0 ≡ step m k
unfolding step
step_none m k h e = rw (lt-leb k 15 h, e)

-- and 65536 for any other number
pub step_large : (m k : ℕ) → 15 < k → (m ≡ 0 → ⊥) → 65536 ≡ step m k
unfolding step
step_large m k h f = rw (lt-leb k 15 h, ne_eqb m 0 f)

-- ---- its size
-- the product for a shift up to 15 places
pub product_small : (m k : ℕ) → m < 65536 → k ≤ 15 → m * 2 ^ k ≤ 2147450880
product_small m k h p = mul-le-mul {n₂ = 65535} (omega arith) (power_small p)

-- m * 2 ^ k for a longer shift
product_large : (m k : ℕ) → 15 < k → (m ≡ 0 → ⊥) → 65536 ≤ m * 2 ^ k
product_large zero k p f = absurd (f refl)
product_large (suc m) k p f = mul-le-mul {n₁ = 1} (omega arith) (pow_mono p)

-- what holds of the step in each of its three cases
by_case : (P : ℕ → Type 0) (m k : ℕ) → (k ≤ 15 → P (m * 2 ^ k)) → (15 < k → m ≡ 0 → P 0) → (15 < k → (m ≡ 0 → ⊥) → P 65536) → P (step m k)
unfolding step
by_case P m k f g h = pick (leb k 15) (eqb m 0) refl refl
  where
    pick : (s t : Bool) → leb k 15 ≡ s → eqb m 0 ≡ t → P (cond s (m * 2 ^ k) (cond t 0 65536))
    pick true t e q = f (leb-true k 15 e)
    pick false true e q = g (leb-false k 15 e) (eqb-true m 0 q)
    pick false false e q = h (leb-false k 15 e) (eqb-false m 0 q)

-- so the step fits thirty-two bits
pub step_small : (m k : ℕ) → m < 65536 → step m k ≤ 2147450880
step_small m k h =
    by_case (λ (n : ℕ). n ≤ 2147450880) m k (product_small m k h) (λ p e. omega arith) (λ p f. omega arith)

-- ---- the sum and the difference fit thirty-two bits
-- the sum
pub add_under : (c : ℤ) (n : ℕ) → mag c < 32768 → n ≤ 2147450880 → Under 2147483648 (c +ℤ pos n)
add_under (pos a) n h p = record { under = omega arith }
add_under (negsuc a) n h p = record { under = omega (arith, mag_subℕ n (suc a) 2147450880 p (omega arith)) }

-- the difference
pub sub_under : (c : ℤ) (n : ℕ) → mag c < 32768 → n ≤ 2147450880 → Under 2147483648 (c -ℤ pos n)
sub_under (pos a) zero h p = record { under = omega arith }
sub_under (pos a) (suc n) h p = record { under = omega (arith, mag_subℕ a (suc n) 2147450880 (omega arith) (omega arith)) }
sub_under (negsuc a) zero h p = record { under = omega (arith, mag_subℕ 0 (suc a) 32768 (omega arith) (omega arith)) }
sub_under (negsuc a) (suc n) h p = record { under = omega arith }

-- ---- from 65536 on the clamped sum and the clamped difference are the same
add_large : (c : ℤ) (n : ℕ) → mag c < 32768 → 65536 ≤ n → clamp_i16 (c +ℤ pos n) ≡ pos 32767
unfolding clamp_i16
add_large (pos a) n h p = ap pos (omega arith)
add_large (negsuc a) n h p = rw (subℕ_pos n (suc a) (omega arith)) (ap pos (omega arith))

sub_large : (c : ℤ) (n : ℕ) → mag c < 32768 → 65536 ≤ n → clamp_i16 (c -ℤ pos n) ≡ negsuc 32767
unfolding clamp_i16
sub_large c zero h p = absurd (omega arith)
sub_large (pos a) (suc n) h p = rw (subℕ_neg a (suc n) (omega arith)) (ap negsuc (omega arith))
sub_large (negsuc a) (suc n) h p = ap negsuc (omega arith)

-- so the step may stand for m * 2 ^ k
step_same : (f : ℕ → ℤ) (z : ℤ) → ((n : ℕ) → 65536 ≤ n → f n ≡ z) → (m k : ℕ) → f (step m k) ≡ f (m * 2 ^ k)
step_same f z far m k =
    by_case (λ (n : ℕ). f n ≡ f (m * 2 ^ k)) m k (λ p. refl) (λ p e. ap f (omega (arith, ap (λ (a : ℕ). a * 2 ^ k) e)))
    (λ p q. far 65536 (omega arith) ∙ sym (far (m * 2 ^ k) (product_large m k p q)))

-- in a clamped sum
pub step_add : (c : ℤ) (m k : ℕ) → mag c < 32768 → clamp_i16 (c +ℤ pos (step m k)) ≡ add_scaled c m k
unfolding add_scaled
step_add c m k h = step_same (λ (n : ℕ). clamp_i16 (c +ℤ pos n)) (pos 32767) (λ n p. add_large c n h p) m k

-- and in a clamped difference
pub step_sub : (c : ℤ) (m k : ℕ) → mag c < 32768 → clamp_i16 (c -ℤ pos (step m k)) ≡ sub_scaled c m k
unfolding sub_scaled
step_sub c m k h = step_same (λ (n : ℕ). clamp_i16 (c -ℤ pos n)) (negsuc 32767) (λ n p. sub_large c n h p) m k
