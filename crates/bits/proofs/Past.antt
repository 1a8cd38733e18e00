-- Past the end of a stream all counts of bits read are alike: every bit is 0 there.
use mathlib.Core.Path.{◌≡◌, sym, ap, ◌∙◌}
use mathlib.Core.List.{List}
use Prim.Native.Nat.{ℕ, ◌+◌, ◌*◌, ◌≤◌, ◌<◌}
use native.Mathlib.Decide.{dec_lt}
use native.Mathlib.Omega.{arith}
use lib.ListN.{length}
use Rattle.bits.specs.Bits.{bit_at, num, zeros, held}
use Rattle.bits.proofs.Numbers.{bit_past, num_past}
use Rattle.bits.proofs.Ones.{zeros_past}

-- the same count, or two past the end
pub data Alike (s : List ℕ) (m n : ℕ) : Type 0 where
  same : m ≡ n → Alike s m n
  past : 8 * length s ≤ m → 8 * length s ≤ n → Alike s m n

-- a count held at the end is like the count itself
pub alike_held : (s : List ℕ) (n : ℕ) → Alike s (held s n) n
alike_held s n = by (dec_lt n (8 * length s))
  where
    by : Dec (n < 8 * length s) → Alike s (held s n) n
    by (yes h) = same (omega arith)
    by (no h) = past (omega arith) (omega arith)

-- counts that are like a third one are alike
pub alike_trans : (s : List ℕ) {m n k : ℕ} → Alike s m n → Alike s n k → Alike s m k
alike_trans s (same e) (same f) = same (e ∙ f)
alike_trans s (same e) (past g h) = past (omega arith) h
alike_trans s (past g h) (same f) = past g (omega arith)
alike_trans s (past g h) (past i j) = past g j

-- alike counts stay so when both go on
pub alike_on : (s : List ℕ) {m n : ℕ} (k : ℕ) → Alike s m n → Alike s (m + k) (n + k)
alike_on s k (same e) = same (ap (λ (i : ℕ). i + k) e)
alike_on s k (past g h) = past (omega arith) (omega arith)

-- alike counts are held at the same one
pub held_alike : (s : List ℕ) {m n : ℕ} → Alike s m n → held s m ≡ held s n
held_alike s (same e) = ap (held s) e
held_alike s (past g h) = omega arith

-- at alike counts stands the same bit
pub bit_alike : (s : List ℕ) {m n : ℕ} → Alike s m n → bit_at s m ≡ bit_at s n
bit_alike s (same e) = ap (bit_at s) e
bit_alike s {m} {n} (past g h) = bit_past s m g ∙ sym (bit_past s n h)

-- at alike counts stands the same number
pub num_alike : (s : List ℕ) {m n : ℕ} (w : ℕ) → Alike s m n → num s m w ≡ num s n w
num_alike s w (same e) = ap (λ (i : ℕ). num s i w) e
num_alike s {m} {n} w (past g h) = num_past s m w g ∙ sym (num_past s n w h)

-- at alike counts stand as many zeros before a 1
pub zeros_alike : (s : List ℕ) {m n : ℕ} (l : ℕ) → Alike s m n → zeros s m l ≡ zeros s n l
zeros_alike s l (same e) = ap (λ (i : ℕ). zeros s i l) e
zeros_alike s {m} {n} l (past g h) = zeros_past s m l g ∙ sym (zeros_past s n l h)
