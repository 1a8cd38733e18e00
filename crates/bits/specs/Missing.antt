-- The bits that a reading takes, one by one, and how many of them came from past the end of the stream (docs/SCOPE.md, "Missing bits").
use Rattle.std.specs.Prelude.{Bool, cond, List, [], ◌∷◌, ◌++◌, ℕ, zero, suc, ◌+◌, ◌*◌, ◌≤◌, ◌<◌, leb, length}
use Rattle.bits.specs.Bits.{bit_of, bit_at}

-- a bit as it is read: the bit, and "whether it came from past the end"
pub record BitRead : Type 0 where
  pub bit : Bool
  pub missing : Bool

-- "bit n of a stream is missing if n is at or past 8 times the stream's length"
abbrev pub read_bit : List ℕ → ℕ → BitRead
read_bit s n = record { bit = bit_at s n; missing = leb (8 * length s) n }

-- ════ the bits that are read ════

-- for a number of w bits (`num`)
unfoldable pub read_num : List ℕ → ℕ → ℕ → List BitRead
read_num s n zero = []
read_num s n (suc w) = read_bit s n ∷ read_num s (suc n) w

-- for numbers one after another (`numbers`)
unfoldable pub read_numbers : List ℕ → List ℕ → ℕ → List BitRead
read_numbers s [] n = []
read_numbers s (w ∷ ws) n = read_num s n w ++ read_numbers s ws (n + w)

-- for zeros before a 1, of at most `limit` bits (`zeros`): up to the 1, and with it
unfoldable pub read_zeros : List ℕ → ℕ → ℕ → List BitRead
read_zeros s n zero = []
read_zeros s n (suc limit) = read_bit s n ∷ cond (read_bit s n).bit [] (read_zeros s (suc n) limit)

-- ════ how many of them are missing ════

-- "the number of flags that are true among the bits which it reads, counted bit by bit"
unfoldable pub missing_in : List BitRead → ℕ
missing_in [] = 0
missing_in (b ∷ bs) = bit_of b.missing + missing_in bs

-- ════ where a stream ended ════

-- every bit from bit n on up to bit m lies in the stream
abbrev pub InStream : List ℕ → ℕ → ℕ → Type 0
InStream s n m = (i : ℕ) → n ≤ i → i < m → i < 8 * length s
