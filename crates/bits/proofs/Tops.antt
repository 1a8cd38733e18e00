-- Words that hold bits of a stream at their top: a shift left drops bits, a shift right takes a number, and the leading zeros of the word are
-- the zeros before a 1.
use mathlib.Core.Path.{◌≡◌, refl, sym, ap, ap₂, ◌∙◌, subst}
use mathlib.Core.Bool.{Bool, true, false, cond}
use mathlib.Core.List.{List}
use Prim.Native.Nat.{ℕ, zero, suc, ◌+◌, ◌-◌, ◌*◌, ◌/◌, ◌%◌, ◌^◌, ◌≤◌, ◌<◌, min}
use native.Mathlib.Nat.{zero-mul, add-mul, mul_assoc, suc-add, two-pow-succ, mul-le-mul_right}
use native.Mathlib.Omega.{arith}
use borrow.Author.Tests.{leb-true, leb-false}
use lib.Count.{count_leading_zeros, leading_of_zero, leading_unique}
use lib.Dec.{leb}
use lib.Pow.{pow-add, shl_lt, high, low}
use Rattle.bits.specs.Bits.{bit_of, bit_at, num, zeros}
use Rattle.bits.specs.Inner.{Top, Front}
use Rattle.bits.proofs.Numbers.{num_lt, num_split}
use Rattle.bits.proofs.Ones.{zeros_min, zeros_step}

-- ---- a shift left

shifted : (h l m e k : ℕ) → (h * 2 ^ m + l) * 2 ^ e * 2 ^ k ≡ h * 2 ^ (m + (e + k)) + l * 2 ^ (e + k)
shifted h l m e k = simp (pow-add, add-mul, mul_assoc)

-- a shift left drops bits of a word that holds bits at its top
pub top_skip : (v k a : ℕ) (s : List ℕ) (n : ℕ) → Top v a s n → k ≤ v → Top (v - k) ((a * 2 ^ k) % 2 ^ 64) s (n + k)
top_skip v k a s n t h = record { fits = omega (arith, t.fits); is = go (v - k) (64 - v) (omega arith) (omega (arith, t.fits)) }
  where
    go : (m e : ℕ) → v ≡ k + m → m + (e + k) ≡ 64 → (a * 2 ^ k) % 2 ^ 64 ≡ num s (n + k) m * 2 ^ (64 - m)
    go m e p q =
        let bound : num s (n + k) m * 2 ^ (e + k) < 2 ^ 64 = subst (λ (j : ℕ). num s (n + k) m * 2 ^ (e + k) < 2 ^ j) q (shl_lt m (e + k) (num_lt s (n + k) m)) in
        let split : a ≡ (num s n k * 2 ^ m + num s (n + k) m) * 2 ^ e =
        t.is ∙ ap₂ (λ (x y : ℕ). x * 2 ^ y) (ap (num s n) p ∙ num_split s n k m) (omega (arith, t.fits)) in
        ap (λ (x : ℕ). (x * 2 ^ k) % 2 ^ 64) split
        ∙ ap (λ (x : ℕ). x % 2 ^ 64) (shifted (num s n k) (num s (n + k) m) m e k ∙ ap (λ (j : ℕ). num s n k * 2 ^ j + num s (n + k) m * 2 ^ (e + k)) q)
        ∙ low (num s n k) 64 bound
        ∙ ap (λ (j : ℕ). num s (n + k) m * 2 ^ j) (omega arith)

-- what a word still begins with after a shift left
pub front_skip : (v k have a : ℕ) (s : List ℕ) (n : ℕ) → Top v a s n → k + have ≤ v → Front have ((a * 2 ^ k) % 2 ^ 64) s (n + k)
front_skip v k have a s n t h = record { all = v - k; enough = omega arith; top = top_skip v k a s n t (omega arith) }

-- ---- a shift right

taken : (h l d e : ℕ) → (h * 2 ^ d + l) * 2 ^ e ≡ h * 2 ^ (d + e) + l * 2 ^ e
taken h l d e = simp (pow-add, add-mul, mul_assoc)

-- a shift right gives the number that the first bits are
pub top_take : (v w a : ℕ) (s : List ℕ) (n : ℕ) → Top v a s n → w ≤ v → a / 2 ^ (64 - w) ≡ num s n w
top_take v w a s n t h = go (v - w) (64 - v) (omega arith) (omega (arith, t.fits))
  where
    go : (d e : ℕ) → v ≡ w + d → d + e ≡ 64 - w → a / 2 ^ (64 - w) ≡ num s n w
    go d e p q =
        let split : a ≡ (num s n w * 2 ^ d + num s (n + w) d) * 2 ^ e =
        t.is ∙ ap₂ (λ (x y : ℕ). x * 2 ^ y) (ap (num s n) p ∙ num_split s n w d) (omega (arith, t.fits)) in
        ap₂ (λ (x k : ℕ). x / 2 ^ k) (split ∙ taken (num s n w) (num s (n + w) d) d e) (sym q)
        ∙ high (num s n w) (d + e) (shl_lt d e (num_lt s (n + w) d))

-- the first bit is the highest
num_one : (s : List ℕ) (n : ℕ) → num s n 1 ≡ bit_of (bit_at s n)
unfolding num
num_one s n = omega arith

-- a word below 2^63 begins with a 0
pub first_zero : (v a : ℕ) (s : List ℕ) (n : ℕ) → Top v a s n → 1 ≤ v → a < 2 ^ 63 → bit_at s n ≡ false
first_zero v a s n t h l = by (bit_at s n) (sym (num_one s n) ∙ sym (top_take v 1 a s n t h))
  where
    by : (b : Bool) → bit_of b ≡ a / 2 ^ 63 → b ≡ false
    by true e = absurd (omega arith)
    by false e = refl

-- a word from 2^63 on begins with a 1
pub first_one : (v a : ℕ) (s : List ℕ) (n : ℕ) → Top v a s n → 1 ≤ v → 2 ^ 63 ≤ a → bit_at s n ≡ true
first_one v a s n t h l = by (bit_at s n) (sym (num_one s n) ∙ sym (top_take v 1 a s n t h))
  where
    by : (b : Bool) → bit_of b ≡ a / 2 ^ 63 → b ≡ true
    by true e = refl
    by false e = absurd (omega arith)

-- the first bit of a word is its comparison with 2^63
pub first_bit : (v a : ℕ) (s : List ℕ) (n : ℕ) → Top v a s n → 1 ≤ v → bit_at s n ≡ leb (2 ^ 63) a
first_bit v a s n t h = by (leb (2 ^ 63) a) refl
  where
    by : (b : Bool) → leb (2 ^ 63) a ≡ b → bit_at s n ≡ b
    by true e = first_one v a s n t h (leb-true (2 ^ 63) a e)
    by false e = first_zero v a s n t h (leb-false (2 ^ 63) a e)

-- ---- leading zeros

-- what the zeros before a 1 say of the number: it is 0, or bounded from both sides
data Lead (w : ℕ) (s : List ℕ) (n : ℕ) : Type 0 where
  none : zeros s n w ≡ w → num s n w ≡ 0 → Lead w s n
  some : (m : ℕ) → zeros s n w + suc m ≡ w → 2 ^ m ≤ num s n w → num s n w < 2 ^ suc m → Lead w s n

lead : (w : ℕ) (s : List ℕ) (n : ℕ) → Lead w s n
unfolding zeros num
lead zero s n = none refl refl
lead (suc w) s n = by (bit_at s n) refl (lead w s (suc n))
  where
    at : (b : Bool) → bit_at s n ≡ b → (zeros s n (suc w) ≡ cond b 0 (suc (zeros s (suc n) w))) × (num s n (suc w) ≡ bit_of b * 2 ^ w + num s (suc n) w)
    at b e = (zeros_step s n w b e, ap (λ (b : Bool). bit_of b * 2 ^ w + num s (suc n) w) e)

    by : (b : Bool) → bit_at s n ≡ b → Lead w s (suc n) → Lead (suc w) s n
    by true e l =
        let q = at true e in
        some w (omega (arith, q.0)) (omega (arith, q.1)) (omega (arith, q.1, num_lt s (suc n) w, two-pow-succ w))
    by false e (none z x) = let q = at false e in none (omega (arith, q.0)) (omega (arith, q.1))
    by false e (some m z lo hi) = let q = at false e in some m (omega (arith, q.0)) (omega (arith, q.1)) (omega (arith, q.1))

-- leading zeros, as far as the word goes, are zeros before a 1
pub top_zeros : (v l a : ℕ) (s : List ℕ) (n : ℕ) → Top v a s n → l ≤ v → min l (count_leading_zeros 64 a) ≡ zeros s n l
top_zeros v l a s n t h = go (lead v s n)
  where
    shl_le : (x m e : ℕ) → 2 ^ m ≤ x → 2 ^ (m + e) ≤ x * 2 ^ e
    shl_le x m e k = rw (pow-add 2 m e) (mul-le-mul_right (2 ^ e) k)

    go : Lead v s n → min l (count_leading_zeros 64 a) ≡ zeros s n l
    go (none e z) =
        let a0 : a ≡ 0 = t.is ∙ ap (λ (x : ℕ). x * 2 ^ (64 - v)) z ∙ zero-mul (2 ^ (64 - v)) in
        rw (zeros_min s n l v h, a0, leading_of_zero 64) (omega (arith, t.fits))
    go (some m e lo hi) =
        let r = zeros s n v in
        let d = 64 - v in
        let k : suc m + d ≡ 64 - r = omega (arith, t.fits) in
        let up : a < 2 ^ (64 - r) = subst (λ (j : ℕ). a < 2 ^ j) k (subst (λ (x : ℕ). x < 2 ^ (suc m + d)) (sym t.is) (shl_lt (suc m) d hi)) in
        let down : 2 ^ (m + d) ≤ a = subst (λ (x : ℕ). 2 ^ (m + d) ≤ x) (sym t.is) (shl_le (num s n v) m d lo) in
        let dbl : 2 ^ (64 - r) ≡ 2 ^ (m + d) + 2 ^ (m + d) = ap (λ (j : ℕ). 2 ^ j) (sym k ∙ suc-add m d) ∙ two-pow-succ (m + d) in
        let u : r ≡ count_leading_zeros 64 a = leading_unique 64 a r (64 - r) (omega (arith, t.fits)) up (omega arith) in
        rw (zeros_min s n l v h, ← u) refl

-- ---- the word of eight bytes, from a bit of the first on

-- the 64 bits from a byte on, shifted to a bit of it
pub top_window : (a : ℕ) (s : List ℕ) (n k : ℕ) → a ≡ num s n 64 → k ≤ 7 → Top (64 - k) ((a * 2 ^ k) % 2 ^ 64) s (n + k)
top_window a s n k e h = top_skip 64 k a s n (record { fits = omega arith; is = e ∙ omega arith }) (omega arith)

-- ---- the first 1

-- zeros up to a 1 that the word holds: they are zeros of the stream, and a 1 follows
ends_at : (s : List ℕ) (n l z : ℕ) → zeros s n l ≡ z → z < l → (zeros s n z ≡ z) × (bit_at s (n + z) ≡ true)
unfolding zeros
ends_at s n zero z e h = absurd (omega arith)
ends_at s n (suc l) z e h = by (bit_at s n) refl z e h (ends_at s (suc n) l)
  where
    by : (b : Bool) → bit_at s n ≡ b → (z : ℕ) → cond b 0 (suc (zeros s (suc n) l)) ≡ z → z < suc l
        → ((z : ℕ) → zeros s (suc n) l ≡ z → z < l → (zeros s (suc n) z ≡ z) × (bit_at s (suc n + z) ≡ true)) → (zeros s n z ≡ z) × (bit_at s (n + z) ≡ true)
    by true q zero e h ih = (refl, let m : n + 0 ≡ n = omega arith in ap (bit_at s) m ∙ q)
    by true q (suc z) e h ih = absurd (omega arith)
    by false q zero e h ih = absurd (omega arith)
    by false q (suc z) e h ih =
        let r = ih z (omega arith) (omega arith) in
        let m : n + suc z ≡ suc n + z = omega arith in
        (zeros_step s n z false q ∙ ap suc r.0, ap (bit_at s) m ∙ r.1)

-- behind the leading zeros stands a 1
pub top_one : (v a z : ℕ) (s : List ℕ) (n : ℕ) → Top v a s n → z ≡ count_leading_zeros 64 a → z < v → (zeros s n z ≡ z) × (bit_at s (n + z) ≡ true)
top_one v a z s n t e h = ends_at s n (suc z) z (sym (top_zeros v (suc z) a s n t (omega arith)) ∙ omega arith) (omega arith)
