-- Two streams with the same bits are read alike, and so is a stream with zero bytes behind it.
use mathlib.Core.Path.{◌≡◌, refl, ap, ap₂}
use mathlib.Core.Bool.{Bool, cond}
use mathlib.Core.List.{List, [], ◌∷◌, ◌++◌}
use Prim.Native.Nat.{ℕ, zero, suc, ◌+◌, ◌*◌, ◌/◌, ◌%◌, ◌^◌, ◌-◌}
use native.Mathlib.Omega.{arith}
use lib.Dec.{ltb}
use lib.ListN.{length, get_or, replicate, length-append, length-replicate}
use Rattle.bits.specs.Bits.{is_odd, bit_of, bit_at, num, numbers, zeros, zeros_length}

-- every bit is the same
abbrev pub SameBits : List ℕ → List ℕ → Type 0
SameBits s t = (n : ℕ) → bit_at s n ≡ bit_at t n

-- ════ zero bytes behind a stream ════

byte_longer : (s : List ℕ) (k i : ℕ) → get_or (s ++ replicate k 0) i 0 ≡ get_or s i 0
byte_longer [] zero i = refl
byte_longer [] (suc k) zero = refl
byte_longer [] (suc k) (suc i) = byte_longer [] k i
byte_longer (b ∷ s) k zero = refl
byte_longer (b ∷ s) k (suc i) = byte_longer s k i

-- they change no bit
pub longer_bits : (s : List ℕ) (k : ℕ) → SameBits (s ++ replicate k 0) s
longer_bits s k n = ap (λ (x : ℕ). is_odd (x / 2 ^ (7 - n % 8))) (byte_longer s k (n / 8))

-- each is eight bits more
pub length_longer : (s : List ℕ) (k : ℕ) → length (s ++ replicate k 0) ≡ length s + k
length_longer s k = omega (arith, length-append s (replicate k 0), length-replicate {A = ℕ} k 0)

-- ════ what is read of the same bits ════

module _ (s t : List ℕ) (same : SameBits s t) where
  -- a number
  pub num_same : (n w : ℕ) → num s n w ≡ num t n w
  unfolding num
  num_same n zero = refl
  num_same n (suc w) = ap₂ (λ (b : Bool) (x : ℕ). bit_of b * 2 ^ w + x) (same n) (num_same (suc n) w)

  -- numbers one after another
  pub numbers_same : (ws : List ℕ) (n : ℕ) → numbers s ws n ≡ numbers t ws n
  unfolding numbers
  numbers_same [] n = refl
  numbers_same (w ∷ ws) n = ap₂ (λ (x : ℕ) (xs : List ℕ). x ∷ xs) (num_same n w) (numbers_same ws (n + w))

  -- zeros before a 1
  pub zeros_same : (n l : ℕ) → zeros s n l ≡ zeros t n l
  unfolding zeros
  zeros_same n zero = refl
  zeros_same n (suc l) = ap₂ (λ (b : Bool) (z : ℕ). cond b 0 (suc z)) (same n) (zeros_same (suc n) l)

  -- how many bits they take
  pub zeros_length_same : (n l : ℕ) → zeros_length s n l ≡ zeros_length t n l
  zeros_length_same n l = ap (λ (z : ℕ). cond (ltb z l) (z + 1) l) (zeros_same n l)
