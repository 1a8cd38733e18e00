-- Numbers of some bits of a stream: their size, their parts, and the bytes that they are.
use mathlib.Core.Path.{◌≡◌, refl, sym, ap, ap₂, ◌∙◌}
use mathlib.Core.Bool.{Bool, true, false}
use mathlib.Core.List.{List}
use Prim.Native.Nat.{ℕ, zero, suc, ◌+◌, ◌-◌, ◌*◌, ◌/◌, ◌%◌, ◌^◌, ◌≤◌, ◌<◌}
use native.Mathlib.Nat.{zero-add, add-zero, add-mul, mul_assoc, add_assoc, suc-add, two-pow-succ, mod-one, mod-eq_of_lt, zero-div}
use native.Mathlib.Omega.{arith}
use borrow.Author.Tests.{eqb-true, eqb-false}
use lib.Dec.{eqb}
use lib.ListN.{length, get_or, get_or-eq_default}
use lib.Pow.{pow_pos, pow-add, mod-pow-add}
use Rattle.bits.specs.Bits.{is_odd, bit_of, bit_at, num}

-- every element is a byte
abbrev pub Bytes : List ℕ → Type 0
Bytes s = (i : ℕ) → get_or s i 0 < 256

-- a bit is at most 1
pub bit_le : (b : Bool) → bit_of b ≤ 1
bit_le true = omega arith
bit_le false = omega arith

-- the lowest bit as a number
pub odd_bit : (x : ℕ) → bit_of (is_odd x) ≡ x % 2
odd_bit x = by (eqb (x % 2) 1) refl
  where
    by : (b : Bool) → eqb (x % 2) 1 ≡ b → bit_of b ≡ x % 2
    by true e = sym (eqb-true _ _ e)
    by false e = let n : (x % 2 ≡ 1 → ⊥) = eqb-false _ _ e in omega arith

-- past the last byte every bit is 0
pub bit_past : (s : List ℕ) (n : ℕ) → 8 * length s ≤ n → bit_at s n ≡ false
bit_past s n h =
    ap (λ (x : ℕ). is_odd (x / 2 ^ (7 - n % 8))) (get_or-eq_default s 0 {n = n / 8} (omega arith)) ∙ ap is_odd (zero-div (2 ^ (7 - n % 8)))

-- the number of no bits is 0
pub num_none : (s : List ℕ) (n : ℕ) → num s n 0 ≡ 0
unfolding num
num_none s n = refl

-- a number of w bits is below 2^w
pub num_lt : (s : List ℕ) (n w : ℕ) → num s n w < 2 ^ w
unfolding num
num_lt s n zero = pow_pos 0
num_lt s n (suc w) = by (bit_at s n) (num_lt s (suc n) w)
  where
    by : (b : Bool) {x : ℕ} → x < 2 ^ w → bit_of b * 2 ^ w + x < 2 ^ suc w
    by true h = omega (arith, two-pow-succ w)
    by false h = omega (arith, two-pow-succ w)

-- past the last byte it is 0
pub num_past : (s : List ℕ) (n w : ℕ) → 8 * length s ≤ n → num s n w ≡ 0
unfolding num
num_past s n zero h = refl
num_past s n (suc w) h = rw (bit_past s n h, num_past s (suc n) w (omega arith)) (omega arith)

-- a number of m + k bits is one of m bits and one of k bits
pub num_split : (s : List ℕ) (n m k : ℕ) → num s n (m + k) ≡ num s n m * 2 ^ k + num s (n + m) k
unfolding num
num_split s n zero k = ap₂ (λ (i j : ℕ). num s i j) (sym (add-zero n)) (zero-add k) ∙ omega arith
num_split s n (suc m) k =
    ap (num s n) (suc-add m k)
    ∙ ap (λ (x : ℕ). bit_of (bit_at s n) * 2 ^ (m + k) + x) (num_split s (suc n) m k)
    ∙ regroup (bit_of (bit_at s n)) (num s (suc n) m) (num s (suc n + m) k)
    ∙ ap (λ (i : ℕ). (bit_of (bit_at s n) * 2 ^ m + num s (suc n) m) * 2 ^ k + num s i k) {x = suc n + m} {y = n + suc m} (omega arith)
  where
    regroup : (b x y : ℕ) → b * 2 ^ (m + k) + (x * 2 ^ k + y) ≡ (b * 2 ^ m + x) * 2 ^ k + y
    regroup b x y = rw (pow-add 2 m k, add-mul, mul_assoc) (sym (add_assoc (b * (2 ^ m * 2 ^ k)) (x * 2 ^ k) y))

-- the last k bits of a byte
pub num_within : (s : List ℕ) (b k : ℕ) → k ≤ 8 → num s (8 * b + (8 - k)) k ≡ get_or s b 0 % 2 ^ k
unfolding num
num_within s b zero h = sym (mod-one (get_or s b 0))
num_within s b (suc k) h =
    ap₂ (λ (x y : ℕ). x * 2 ^ k + y) bit
    (ap (λ (i : ℕ). num s i k) {x = suc (8 * b + (8 - suc k))} {y = 8 * b + (8 - k)} (omega arith) ∙ num_within s b k (omega arith))
    ∙ sym (ap (λ (i : ℕ). get_or s b 0 % 2 ^ i) {x = suc k} {y = 1 + k} (omega arith) ∙ mod-pow-add (get_or s b 0) 1 k)
  where
    bit : bit_of (bit_at s (8 * b + (8 - suc k))) ≡ get_or s b 0 / 2 ^ k % 2
    bit =
        ap₂ (λ (i j : ℕ). bit_of (is_odd (get_or s i 0 / 2 ^ j))) {x = (8 * b + (8 - suc k)) / 8} {y = b} {u = 7 - (8 * b + (8 - suc k)) % 8} {v = k} (omega arith) (omega arith)
        ∙ odd_bit (get_or s b 0 / 2 ^ k)

-- one byte more
pub num_byte : (s : List ℕ) (i j : ℕ) → Bytes s → num s (8 * i) (8 * j + 8) ≡ num s (8 * i) (8 * j) * 256 + get_or s (i + j) 0
num_byte s i j h =
    num_split s (8 * i) (8 * j) 8
    ∙ ap (λ (x : ℕ). num s (8 * i) (8 * j) * 256 + x)
    (ap (λ (n : ℕ). num s n 8) {x = 8 * i + 8 * j} {y = 8 * (i + j) + (8 - 8)} (omega arith) ∙ num_within s (i + j) 8 (omega arith) ∙ mod-eq_of_lt (h (i + j)))

-- eight bytes
pub num_eight : (s : List ℕ) (i : ℕ) → Bytes s
    → ((((((get_or s i 0 * 256 + get_or s (i + 1) 0) * 256 + get_or s (i + 2) 0) * 256 + get_or s (i + 3) 0) * 256 + get_or s (i + 4) 0) * 256 + get_or s (i + 5) 0) * 256 + get_or s (i + 6) 0) * 256 + get_or s (i + 7) 0
    ≡ num s (8 * i) 64
num_eight s i h =
    omega (arith, num_none s (8 * i), ap (λ (k : ℕ). get_or s k 0) (add-zero i), num_byte s i 0 h, num_byte s i 1 h, num_byte s i 2 h, num_byte s i 3 h, num_byte s i 4 h, num_byte s i 5 h, num_byte s i 6 h, num_byte s i 7 h)
