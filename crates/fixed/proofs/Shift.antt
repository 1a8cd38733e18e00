-- Shifts by k places of a sixteen-bit number: as the code computes them for k up to 15, the bounds that it asks, and what a longer shift gives.
-- Assumes nothing.
use mathlib.Core.Path.{◌≡◌, refl, sym, ap, subst, ◌∙◌}
use Prim.Native.Nat.{ℕ, zero, suc, ◌+◌, ◌-◌, ◌*◌, ◌/◌, ◌^◌, min, ◌<◌, ◌≤◌}
use native.Mathlib.Decide.{dec_lt}
use native.Mathlib.Omega.{arith}
use native.Mathlib.Nat.{div-lt_iff_lt-mul, div-div-eq-div-mul, add-div_right, mul-div_cancel, mul-le-mul_right, mul_assoc, zero-mul, suc-mul, pow-suc}
use mathlib.Core.Bool.{Bool, true, false, cond}
use borrow.Author.Tests.{ltb-true, ltb-false}
use lib.Arith.{digits_div}
use lib.Dec.{ltb}
use lib.IntN.{ℤ, pos, negsuc, neg_ℤ, sub_ℕ, ◌+ℤ◌, ◌-ℤ◌, ◌*ℤ◌, +ℤ_idr}
use lib.Pow.{pow_mono, pow_pos, pow-add}
use lib.Signed.{mag, shr_z}
use Rattle.fixed.specs.Fixed.{clamp_i16, floor_shift, round_shift, shift_left_clamp}
use Rattle.fixed.proofs.Bounds.{Under}
use Rattle.fixed.proofs.Sizes.{subℕ_pos, subℕ_neg}

-- the powers that shifts up to 15 places, and longer ones, divide or multiply by
pub power_small : {k : ℕ} → k ≤ 15 → 2 ^ k ≤ 32768
power_small h = pow_mono h

-- 15 places or more: 32768 or more
pub power_large : {k : ℕ} → 15 ≤ k → 32768 ≤ 2 ^ k
power_large h = pow_mono h

div_small : (a m : ℕ) → a < m → a / m ≡ 0
div_small a m h = omega (arith, (div-lt_iff_lt-mul {k = m} {x = a} {y = 1} (omega arith)).1 (omega arith))

div_below : (a m N : ℕ) → 0 < m → a < N * m → a / m < N
div_below a m N h p = (div-lt_iff_lt-mul {k = m} {x = a} {y = N} h).1 p

-- ---- right, with floor
floor_whole : (v : ℤ) (m : ℕ) → mag v < 32768 → 32768 ≤ m → shr_z v 32768 ≡ shr_z v m
floor_whole (pos n) m h p = ap pos (div_small n 32768 h ∙ sym (div_small n m (omega arith)))
floor_whole (negsuc n) m h p = ap negsuc (div_small n 32768 h ∙ sym (div_small n m (omega arith)))

-- 15 places or more leave what 15 leave
pub floor_far : (v : ℤ) (k : ℕ) → mag v < 32768 → 15 ≤ k → shr_z v 32768 ≡ floor_shift v k
floor_far v k h p = floor_whole v (2 ^ k) h (power_large p)

-- so the places are counted up to 15
pub floor_held : (v : ℤ) (k m : ℕ) → mag v < 32768 → m ≡ min k 15 → shr_z v (2 ^ m) ≡ floor_shift v k
floor_held v k m h e = by (dec_lt k 15)
  where
    by : Dec (k < 15) → shr_z v (2 ^ m) ≡ floor_shift v k
    by (yes p) = let same : m ≡ k = omega (arith, e) in ap (λ (n : ℕ). shr_z v (2 ^ n)) same
    by (no p) = let most : m ≡ 15 = omega (arith, e) in ap (λ (n : ℕ). shr_z v (2 ^ n)) most ∙ floor_far v k h (omega arith)

-- ---- right, rounded
round_zero : (v : ℤ) (m : ℕ) → mag v < 32768 → 65536 ≤ m → pos 0 ≡ shr_z (v +ℤ pos (m / 2)) m
round_zero (pos n) m h p = ap pos (sym (div_small (n + m / 2) m (omega arith)))
round_zero (negsuc n) m h p =
    rw (subℕ_pos (m / 2) (suc n) (omega arith)) (ap pos (sym (div_small (m / 2 - suc n) m (omega arith))))

-- more than 15 places leave 0
pub round_far : (v : ℤ) (k : ℕ) → mag v < 32768 → 15 < k → pos 0 ≡ round_shift v k
unfolding round_shift
round_far v k h p = round_zero v (2 ^ k) h (pow_mono p)

round_mag : (v : ℤ) (m : ℕ) → mag v < 32768 → 0 < m → mag (shr_z (v +ℤ pos (m / 2)) m) < 32768
round_mag (pos n) m h p = div_below (n + m / 2) m 32768 p (omega arith)
round_mag (negsuc n) m h p = pick (ltb (m / 2) (suc n))
  where
    pick : (t : Bool) → mag (shr_z (cond t (negsuc (suc n - suc (m / 2))) (pos (m / 2 - suc n))) m) < 32768
    pick true = div_below (suc n - suc (m / 2)) m 32768 p (omega arith)
    pick false = div_below (m / 2 - suc n) m 32768 p (omega arith)

-- what is rounded fits sixteen bits
pub round_under : (v : ℤ) (k : ℕ) → mag v < 32768 → Under 32768 (round_shift v k)
unfolding round_shift
round_under v k h = record { under = round_mag v (2 ^ k) h (pow_pos k) }

-- two floors in a row; a whole m more; q + 1 halved
nested : (z : ℤ) (m : ℕ) → shr_z z (m * 2) ≡ shr_z (shr_z z m) 2
nested (pos n) m = ap pos (sym (div-div-eq-div-mul n m 2))
nested (negsuc n) m = ap negsuc (sym (div-div-eq-div-mul n m 2))

whole_more : (z : ℤ) (m : ℕ) → 0 < m → shr_z (z +ℤ pos m) m ≡ shr_z z m +ℤ pos 1
whole_more (pos n) m h = ap pos (add-div_right n h)
whole_more (negsuc n) m h = pick (ltb m (suc n)) refl
  where
    pick : (t : Bool) → ltb m (suc n) ≡ t → shr_z (cond t (negsuc (suc n - suc m)) (pos (m - suc n))) m ≡ sub_ℕ 1 (suc (n / m))
    pick true e =
        let sum : (suc n - suc m) + m ≡ n = omega (arith, ltb-true) in
        let d : n / m ≡ (suc n - suc m) / m + 1 = ap (λ (x : ℕ). x / m) (sym sum) ∙ add-div_right (suc n - suc m) h in
        sym (subℕ_neg 1 (suc (n / m)) (omega arith) ∙ ap negsuc (omega arith))
    pick false e =
        let d : n / m ≡ 0 = div_small n m (omega (arith, ltb-false)) in
        ap pos (div_small (m - suc n) m (omega arith)) ∙ sym (ap (λ (x : ℕ). sub_ℕ 1 (suc x)) d)

half_more : (q : ℤ) → shr_z (q +ℤ pos 1) 2 ≡ q -ℤ shr_z q 2
half_more (pos n) = go (n / 2) refl
  where
    go : (b : ℕ) → b ≡ n / 2 → pos ((n + 1) / 2) ≡ pos n -ℤ pos b
    go zero e = ap pos (omega arith)
    go (suc b) e = sym (subℕ_pos n (suc b) (omega arith) ∙ ap pos (omega arith))
half_more (negsuc zero) = refl
half_more (negsuc (suc n)) =
    rw (subℕ_neg 1 (suc (suc n)) (omega arith), subℕ_neg (suc (suc n / 2)) (suc (suc n)) (omega arith)) (ap negsuc (omega arith))

-- so what is rounded is what a place less gives, less what the shift gives
round_two : (v : ℤ) (m : ℕ) → 0 < m → shr_z v m -ℤ shr_z v (m * 2) ≡ shr_z (v +ℤ pos (m * 2 / 2)) (m * 2)
round_two v m h =
    sym
    (ap (λ (n : ℕ). shr_z (v +ℤ pos n) (m * 2)) (mul-div_cancel m {n = 2} (omega arith))
    ∙ nested (v +ℤ pos m) m
    ∙ ap (λ (z : ℤ). shr_z z 2) (whole_more v m h)
    ∙ half_more (shr_z v m)
    ∙ ap (λ (z : ℤ). shr_z v m -ℤ z) (sym (nested v m)))

-- of a shift by k places: what k - 1 places leave, less what k leave
pub round_less : (v : ℤ) (k : ℕ) → 0 < k → floor_shift v (k - 1) -ℤ floor_shift v k ≡ round_shift v k
unfolding round_shift
round_less v k h =
    let next : suc (k - 1) ≡ k = omega arith in
    let e : 2 ^ (k - 1) * 2 ≡ 2 ^ k = sym (pow-suc 2 (k - 1)) ∙ ap (λ (n : ℕ). 2 ^ n) next in
    subst (λ (n : ℕ). floor_shift v (k - 1) -ℤ shr_z v n ≡ shr_z (v +ℤ pos (n / 2)) n) e (round_two v (2 ^ (k - 1)) (pow_pos (k - 1)))

-- no place
pub round_none : (v : ℤ) (k : ℕ) → k ≡ 0 → v ≡ round_shift v k
unfolding round_shift
round_none v k e = rw e (sym (ap (λ (z : ℤ). shr_z z 1) (+ℤ_idr v) ∙ by_one v))
  where
    by_one : (v : ℤ) → shr_z v 1 ≡ v
    by_one (pos n) = ap pos (omega arith)
    by_one (negsuc n) = ap negsuc (omega arith)

-- ---- left, clamped
-- a number at the top of thirty-two bits
pub top_under : (v : ℤ) → mag v < 32768 → Under 2147483648 (v *ℤ pos 65536)
top_under (pos n) h = record { under = omega arith }
top_under (negsuc n) h = record { under = go (suc n * 65536) (omega arith) }
  where
    go : (q : ℕ) → q ≤ 2147483648 → mag (neg_ℤ (pos q)) < 2147483648
    go zero h = omega arith
    go (suc q) h = omega arith

-- shifted down again, not all the way
lowered : (v : ℤ) (p m : ℕ) → 0 < m → shr_z (v *ℤ pos (p * m)) m ≡ v *ℤ pos p
lowered (pos n) p m h = ap pos (ap (λ (x : ℕ). x / m) (sym (mul_assoc n p m)) ∙ mul-div_cancel (n * p) h)
lowered (negsuc n) p m h = ap (λ (x : ℕ). shr_z (neg_ℤ (pos x)) m) (sym (mul_assoc (suc n) p m)) ∙ go (suc n * p)
  where
    go : (q : ℕ) → shr_z (neg_ℤ (pos (q * m))) m ≡ neg_ℤ (pos q)
    go zero = ap (λ (x : ℕ). shr_z (neg_ℤ (pos x)) m) (zero-mul m) ∙ ap pos (div_small 0 m h)
    go (suc q) =
        let e : suc q * m ≡ suc (q * m + (m - 1)) = omega (arith, suc-mul q m) in
        ap (λ (x : ℕ). shr_z (neg_ℤ (pos x)) m) e ∙ ap negsuc (digits_div q {m = m} {r = m - 1} (omega arith))

-- up to 15 places: what is shifted down from the top of thirty-two bits, clamped
pub left_is : (v : ℤ) (k : ℕ) → k ≤ 15 → clamp_i16 (shr_z (v *ℤ pos 65536) (2 ^ (16 - k))) ≡ shift_left_clamp v k
unfolding shift_left_clamp
left_is v k h =
    let whole : 16 ≡ k + (16 - k) = omega arith in
    ap clamp_i16
    (ap (λ (x : ℕ). shr_z (v *ℤ pos x) (2 ^ (16 - k))) (ap (λ (x : ℕ). 2 ^ x) whole ∙ pow-add 2 k (16 - k)) ∙ lowered v (2 ^ k) (2 ^ (16 - k)) (pow_pos (16 - k)))

grown : (n : ℕ) {m : ℕ} → 32768 ≤ m → 32768 ≤ suc n * m
grown n {m} p = omega (arith, mul-le-mul_right m (suc_le n))
  where
    suc_le : (n : ℕ) → 1 ≤ suc n
    suc_le n = omega arith

-- a product by 32768 or more leaves the range, unless it is 0
high : (q : ℕ) → 32768 ≤ q → clamp_i16 (pos q) ≡ pos 32767
unfolding clamp_i16
high q p = ap pos (omega arith)

low : (q : ℕ) → 32768 ≤ q → clamp_i16 (neg_ℤ (pos q)) ≡ negsuc 32767
unfolding clamp_i16
low zero p = absurd (omega arith)
low (suc q) p = ap negsuc (omega arith)

left_whole : (v : ℤ) (m : ℕ) → 32768 ≤ m → clamp_i16 (v *ℤ pos 32768) ≡ clamp_i16 (v *ℤ pos m)
left_whole (pos zero) m p = ap (λ (q : ℕ). clamp_i16 (pos q)) (omega arith)
left_whole (pos (suc n)) m p = high (suc n * 32768) (omega arith) ∙ sym (high (suc n * m) (grown n p))
left_whole (negsuc n) m p = low (suc n * 32768) (omega arith) ∙ sym (low (suc n * m) (grown n p))

-- 15 places or more give what 15 give
pub left_far : (v : ℤ) (k : ℕ) → 15 ≤ k → clamp_i16 (v *ℤ pos 32768) ≡ shift_left_clamp v k
unfolding shift_left_clamp
left_far v k p = left_whole v (2 ^ k) (power_large p)
