-- The arithmetic of one level: a number that grows by multiples of 2^q, from a multiple of 2^p.
use mathlib.Core.Path.{◌≡◌, refl, sym, ap, ◌∙◌}
use Prim.Native.Nat.{ℕ, zero, suc, ◌+◌, ◌-◌, ◌*◌, ◌/◌, ◌^◌, ◌≤◌, ◌<◌}
use native.Mathlib.Nat.{mul_assoc, add-mul, mul-le-mul_right, mul-lt-mul_of_pos_right, lt_of_mul-lt-mul_right, le_of_mul-le-mul_right, sub-add_cancel}
use native.Mathlib.Omega.{arith}
use lib.Pow.{pow_pos, pow-add}
use Rattle.fixed.specs.Cut.{cut_level}
use Rattle.fitting.specs.Place.{Multiple}

-- a power of two is 2^q so many times
pub pow_split : {p q : ℕ} → q ≤ p → 2 ^ p ≡ 2 ^ (p - q) * 2 ^ q
pow_split {p} {q} h = ap (λ (n : ℕ). 2 ^ n) (sym (sub-add_cancel h)) ∙ pow-add 2 (p - q) q

-- a multiple of 2^p is one of every smaller power
pub multiple_down : {p q : ℕ} (n : ℕ) → q ≤ p → Multiple (2 ^ p) n → Multiple (2 ^ q) n
multiple_down {p} {q} n h m =
    record { times = m.times * 2 ^ (p - q); is = m.is ∙ ap (λ (x : ℕ). m.times * x) (pow_split h) ∙ sym (mul_assoc m.times (2 ^ (p - q)) (2 ^ q)) }

-- r times m is a multiple of m
pub multiple_times : (m r : ℕ) → Multiple m (r * m)
multiple_times m r = record { times = r; is = refl }

-- a sum of two multiples is one
pub multiple_add : {m a b : ℕ} → Multiple m a → Multiple m b → Multiple m (a + b)
multiple_add {m} {a} {b} k l = record { times = k.times + l.times; is = omega (arith, add-mul k.times l.times m) }

-- two multiples of m: so is what lies between them
pub multiple_diff : {m a b : ℕ} (d : ℕ) → zero < m → Multiple m a → Multiple m b → b ≡ a + d → Multiple m d
multiple_diff {m} {a} {b} d hm k l e = record { times = l.times - k.times; is = omega (arith, sub-add_cancel le, ap (λ (x : ℕ). x * m) (sub-add_cancel le), add-mul (l.times - k.times) k.times m) }
  where
    le : k.times ≤ l.times
    le = le_of_mul-le-mul_right (omega (arith, k.is, l.is)) hm

-- what p - q bits can add stays below 2^p, and only that
pub add_small : {p q : ℕ} (r : ℕ) → q ≤ p → r < 2 ^ (p - q) → r * 2 ^ q < 2 ^ p
add_small {p} {q} r h l = rw (pow_split h) (mul-lt-mul_of_pos_right l (pow_pos q))

-- and what stays below 2^p has p - q bits
pub small_add : {p q : ℕ} (r : ℕ) → q ≤ p → r * 2 ^ q < 2 ^ p → r < 2 ^ (p - q)
small_add {p} {q} r h l = lt_of_mul-lt-mul_right (2 ^ q) (rw (pow_split h) at l)

-- a multiple of 2^q below a multiple of it leaves room for one more step
pub room : {p q d : ℕ} → q ≤ p → Multiple (2 ^ q) d → d < 2 ^ p → d + 2 ^ q ≤ 2 ^ p
room {p} {q} {d} h m l = omega (arith, pow_split h, m.is, mul-le-mul_right (2 ^ q) k)
  where
    k : suc m.times ≤ 2 ^ (p - q)
    k = small_add m.times h (omega (arith, m.is))

-- a number that is cut is a multiple of 2^q
pub cut_multiple : (q n : ℕ) → Multiple (2 ^ q) (cut_level q n)
cut_multiple q n = record { times = n / 2 ^ q; is = refl }
