-- Writing bits into bytes (docs/SCOPE.md, "Streams of bits"), one bit after another, "highest first in each byte".
-- A byte past the end of the output is counted and not stored; whoever writes has measured before.
use Rattle.std.specs.Prelude.{Bool, cond, List, [], ◌∷◌, ◌++◌, ℕ, zero, suc, ◌+◌, ◌-◌, ◌*◌, ◌/◌, ◌^◌, eqb}
use Rattle.bits.specs.Bits.{is_odd, bit_of}
use Rattle.bits.specs.declared.writer.BitWriter.{BitWriter}

-- the low k bits of a number, highest first
abbrev pub bits_of : ℕ → ℕ → List Bool
bits_of zero x = []
bits_of (suc k) x = bits_of k (x / 2) ++ (is_odd x ∷ [])

-- the bits of some numbers, the low w of each, where w is its width
unfoldable pub bits_of_all : List ℕ → List ℕ → List Bool
bits_of_all [] xs = []
bits_of_all (w ∷ ws) [] = []
bits_of_all (w ∷ ws) (x ∷ xs) = bits_of w x ++ bits_of_all ws xs

-- ════ the bytes that bits make, after `count` bits, the number `current`, of a first byte ════

-- the whole bytes
abbrev pub whole : ℕ → ℕ → List Bool → List ℕ
whole current count [] = []
whole current count (b ∷ bs) =
    cond (eqb count 7) ((current * 2 + bit_of b) ∷ whole 0 0 bs) (whole (current * 2 + bit_of b) (count + 1) bs)

-- all bytes, the last one padded with zeros
abbrev pub pack : ℕ → ℕ → List Bool → List ℕ
pack current count [] = cond (eqb count 0) [] ((current * 2 ^ (8 - count)) ∷ [])
pack current count (b ∷ bs) =
    cond (eqb count 7) ((current * 2 + bit_of b) ∷ pack 0 0 bs) (pack (current * 2 + bit_of b) (count + 1) bs)

-- ════ a writer, and the output ════

-- a writer by its three parts
abbrev pub writer : ℕ → ℕ → ℕ → BitWriter
writer at current count = record { at = at; current = current; bit_count = count }

-- the writer after one bit
abbrev pub after_bit : BitWriter → Bool → BitWriter
after_bit k b =
    cond (eqb k.bit_count 7) (writer (k.at + 1) 0 0) (writer k.at (k.current * 2 + bit_of b) (k.bit_count + 1))

-- the writer after some bits
abbrev pub after : BitWriter → List Bool → BitWriter
after k [] = k
after k (b ∷ bs) = after (after_bit k b) bs
