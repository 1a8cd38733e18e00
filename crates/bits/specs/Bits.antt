-- Reading a stream of bits (docs/SCOPE.md, "Streams of bits"): "bits go highest first in each byte. Past the last byte a reader gets zeros and no error."
-- A reader is the count n of the bits read so far. It runs on past the end.
use Rattle.std.specs.Prelude.{Bool, true, false, cond, List, [], ◌∷◌, ℕ, zero, suc, ◌+◌, ◌-◌, ◌*◌, ◌/◌, ◌%◌, ◌^◌, min, ltb, eqb, length, get_or}
use Rattle.bits.specs.declared.reader.BitReader.{BitReader}

-- a number's lowest bit
abbrev pub is_odd : ℕ → Bool
is_odd x = eqb (x % 2) 1

-- a bit as a number
abbrev pub bit_of : Bool → ℕ
bit_of true = 1
bit_of false = 0

-- bit n of a stream: in byte n / 8, "highest first"; past the last byte `get_or` gives the byte 0, and so the bit is 0
abbrev pub bit_at : List ℕ → ℕ → Bool
bit_at s n = is_odd (get_or s (n / 8) 0 / 2 ^ (7 - n % 8))

-- the number that w bits are, from bit n on, highest first
unfoldable pub num : List ℕ → ℕ → ℕ → ℕ
num s n zero = 0
num s n (suc w) = bit_of (bit_at s n) * 2 ^ w + num s (suc n) w

-- numbers one after another, each of its count of bits
unfoldable pub numbers : List ℕ → List ℕ → ℕ → List ℕ
numbers s [] n = []
numbers s (w ∷ ws) n = num s n w ∷ numbers s ws (n + w)

-- how many zeros stand before a 1, from bit n on, of at most `limit` bits
unfoldable pub zeros : List ℕ → ℕ → ℕ → ℕ
zeros s n zero = 0
zeros s n (suc limit) = cond (bit_at s n) 0 (suc (zeros s (suc n) limit))

-- how many bits zeros before a 1 take: with the 1, unless the limit ends them
abbrev pub zeros_length : List ℕ → ℕ → ℕ → ℕ
zeros_length s n limit = cond (ltb (zeros s n limit) limit) (zeros s n limit + 1) limit

-- ════ the reader's place, a byte and a bit of it ════

-- the count of bits read that a place stands for
abbrev pub bits_read : BitReader → ℕ
bits_read r = 8 * r.byte_idx + r.bit_idx

-- and the place of a count
abbrev pub place_of : ℕ → BitReader
place_of n = record { byte_idx = n / 8; bit_idx = n % 8 }

-- a count as far as the stream goes: at its end the place stays
abbrev pub held : List ℕ → ℕ → ℕ
held s n = min n (8 * length s)

-- the place of a reader that was handed in at r and has read up to bit n; one that was at or past the end stays as it is
abbrev pub reader_moved : List ℕ → BitReader → ℕ → BitReader
reader_moved s r n = cond (ltb r.byte_idx (length s)) (place_of (held s n)) r
