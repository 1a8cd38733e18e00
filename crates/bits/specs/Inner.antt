-- For inner functions only: what a word of 64 bits holds of a stream, what a count of zeros hands back, and what a writer keeps, stores and counts.
use Rattle.std.specs.Prelude.{◌≡◌, List, [], ◌∷◌, ℕ, ◌-◌, ◌*◌, ◌^◌, ◌≤◌, ◌+◌, ◌/◌, ◌%◌, ◌<◌, Bool, cond, eqb, set, length}
use Rattle.bits.specs.Bits.{num, bit_of, zeros}
use Rattle.bits.specs.Turns.{still_held, word_turns}
use Rattle.bits.specs.declared.reader.ZerosCounted.{ZerosCounted}
use Rattle.bits.specs.declared.writer.BitWriter.{BitWriter}
use Rattle.bits.specs.declared.writer.BitCount.{BitCount}
use Rattle.bits.specs.declared.writer.WordWriter.{WordWriter}
use Rattle.bits.specs.Written.{bits_of, writer, after_bit, after}

-- the top v bits of the word a are the v bits from bit n of the stream on, and its other bits are 0
pub record Top (v a : ℕ) (s : List ℕ) (n : ℕ) : Type 0 where
  pub fits : v ≤ 64
  pub is : a ≡ num s n v * 2 ^ (64 - v)

-- the word a begins with the v bits from bit n of the stream on; it may hold more
pub record Front (v a : ℕ) (s : List ℕ) (n : ℕ) : Type 0 where
  pub all : ℕ
  pub enough : v ≤ all
  pub top : Top all a s n

-- what `count_zeros` hands back
pub record CountsZeros (s : List ℕ) (n limit : ℕ) (r : ZerosCounted) : Type 0 where
  pub count : r.zeros ≡ zeros s n limit
  pub turns : r.turns ≡ word_turns s n limit
  -- "at most once for each bit that the stream still holds from where it begins [..], and once more"
  pub spent : r.turns ≤ still_held s n + 1

-- what a writer keeps: fewer than 8 bits, as a number
abbrev pub Sound : BitWriter → Type 0
Sound k = (k.bit_count ≤ 7) × (k.current < 2 ^ k.bit_count)

-- n more bytes can be counted
abbrev pub Room : BitWriter → ℕ → Type 0
Room k n = k.at + n < 2 ^ 64

-- the output after one bit: a byte more where it is the eighth
abbrev pub put_bit : List ℕ → BitWriter → Bool → List ℕ
put_bit out k b = cond (eqb k.bit_count 7) (set out k.at (k.current * 2 + bit_of b)) out

-- the output after some bits
abbrev pub write : List ℕ → BitWriter → List Bool → List ℕ
write out k [] = out
write out k (b ∷ bs) = write (put_bit out k b) (after_bit k b) bs

-- bits were written: x is the writer after them, o the output
abbrev pub Wrote : List ℕ → BitWriter → List Bool → BitWriter → List ℕ → Type 0
Wrote out k bs x o = (x ≡ after k bs) × (o ≡ write out k bs)

-- the unfinished bits padded with zeros: how many bytes there are then
abbrev pub pad_count : BitWriter → ℕ
pad_count k = cond (eqb k.bit_count 0) k.at (k.at + 1)

-- the output then
abbrev pub pad_out : List ℕ → BitWriter → List ℕ
pad_out out k = cond (eqb k.bit_count 0) out (set out k.at (k.current * 2 ^ (8 - k.bit_count)))

-- how far a writer is, without its bits
abbrev pub writer_count : BitWriter → BitCount
writer_count k = record { at = k.at; bit_count = k.bit_count }

-- the same after n more bits
abbrev pub counted : BitCount → ℕ → BitCount
counted p n = record { at = p.at + (p.bit_count + n) / 8; bit_count = (p.bit_count + n) % 8 }

-- ════ a writer by words ════

-- where its waiting bits begin
abbrev pub byte_start : WordWriter → BitWriter
byte_start k = writer k.at 0 0

-- the bits that wait
abbrev pub waiting : WordWriter → List Bool
waiting k = bits_of k.held k.word

-- the writer, bit by bit, that it stands for
abbrev pub settled : WordWriter → BitWriter
settled k = after (byte_start k) (waiting k)

-- and the output
abbrev pub settled_out : List ℕ → WordWriter → List ℕ
settled_out out k = write out (byte_start k) (waiting k)

-- what it keeps: fewer than 32 bits, as a number
abbrev pub SoundWord : WordWriter → Type 0
SoundWord k = (k.held ≤ 31) × (k.word < 2 ^ k.held)

-- bits were written: x is the writer after them, o' the output
pub record WroteWords (o : List ℕ) (k : WordWriter) (bs : List Bool) (x : WordWriter) (o' : List ℕ) : Type 0 where
  pub writer : settled x ≡ after (settled k) bs
  pub out : settled_out o' x ≡ write (settled_out o k) (settled k) bs
  pub sound : SoundWord x
  -- stored and waiting, there are so many bits more
  pub near : 8 * x.at + x.held ≡ 8 * k.at + k.held + length bs

-- the low 32 bits of a number, stored as four bytes
abbrev pub word_stored : List ℕ → ℕ → ℕ → List ℕ
word_stored out at x =
    set (set (set (set out at (x / 2 ^ 24 % 256)) (at + 1) (x / 2 ^ 16 % 256)) (at + 2) (x / 2 ^ 8 % 256)) (at + 3) (x % 256)

-- a writer by words that begins with the bits that another keeps
abbrev pub word_of : BitWriter → WordWriter
word_of k = record { at = k.at; word = k.current; held = k.bit_count }
