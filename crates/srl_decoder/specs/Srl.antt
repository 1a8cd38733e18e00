-- The SRL decoder, value by value (docs/SCOPE.md, "SRL"; MS-RDPEGFX 3.1.8.1.5): what each value is, and the reader after it.
-- All of it is defined for every stream, every width and every reader; `Decode` says what is refused.
use Rattle.std.specs.Prelude.{Bool, true, false, cond, List, [], ◌∷◌, ℕ, zero, suc, ◌+◌, ◌-◌, ◌/◌, ◌^◌, min, ℤ, pos}
use Rattle.fixed.specs.Fixed.{with_sign}
use Rattle.bits.specs.Bits.{bit_at, num, zeros, zeros_length}

-- the decoder between two values: the count of bits read, kp, the zeros of a run that are still to be given, and whether a nonzero value follows them
pub record Reader : Type 0 where
  pub read : ℕ
  pub kp : ℕ
  pub run : ℕ
  pub pending : Bool

-- a reader by its four parts
abbrev pub reader : ℕ → ℕ → ℕ → Bool → Reader
reader n kp run pending = record { read = n; kp = kp; run = run; pending = pending }

-- "`kp` starts at 8"
abbrev pub start : Reader
start = reader 0 8 0 false

-- ════ a nonzero value ════

-- the most zeros that a nonzero value of width w has: one less than "the maximum 2^w - 1"
abbrev pub most_zeros : ℕ → ℕ
most_zeros w = 2 ^ w - 2

-- "it is a sign bit (1 is negative), magnitude - 1 zeros, and a 1 unless the magnitude is the maximum"
abbrev pub nonzero : List ℕ → ℕ → ℕ → ℤ
nonzero s n w = with_sign (bit_at s n) (zeros s (n + 1) (most_zeros w) + 1)

-- the count of bits read behind it
abbrev pub behind : List ℕ → ℕ → ℕ → ℕ
behind s n w = n + 1 + zeros_length s (n + 1) (most_zeros w)

-- ════ a code word ════

-- "k is kp / 8, rounded down. A bit 0 means 2^k zeros, then kp rises by 4, to at most 80.
-- A bit 1 and k bits mean that many zeros and then a nonzero value; kp falls by 6, not below 0"
abbrev pub code_word : List ℕ → ℕ → ℕ → Reader
code_word s n kp =
    cond (bit_at s n)
    (reader (n + 1 + kp / 8) (kp - 6) (num s (n + 1) (kp / 8)) true)
    (reader (n + 1) (min (kp + 4) 80) (2 ^ (kp / 8)) false)

-- a code word is read where nothing is left of the last one
abbrev pub ready : List ℕ → ℕ → ℕ → ℕ → Bool → Reader
ready s n kp (suc run) pending = reader n kp (suc run) pending
ready s n kp zero true = reader n kp zero true
ready s n kp zero false = code_word s n kp

-- ════ a value ════

-- from a reader that is ready: a zero of the run, or the nonzero value behind it
abbrev pub value : List ℕ → ℕ → ℕ → ℕ → ℤ
value s w n (suc run) = pos 0
value s w n zero = nonzero s n w

-- the reader after it
abbrev pub past : List ℕ → ℕ → ℕ → ℕ → ℕ → Bool → Reader
past s w n kp (suc run) pending = reader n kp run pending
past s w n kp zero pending = reader (behind s n w) kp zero false

-- the reader with a run or a nonzero value at hand
abbrev pub readied : List ℕ → Reader → Reader
readied s r = ready s r.read r.kp r.run r.pending

-- the next value. "The width is that of the call in which the value itself is read"
abbrev pub next_value : List ℕ → ℕ → Reader → ℤ
next_value s w r = value s w (readied s r).read (readied s r).run

-- the reader after it
abbrev pub next_reader : List ℕ → ℕ → Reader → Reader
next_reader s w r = past s w (readied s r).read (readied s r).kp (readied s r).run (readied s r).pending

-- ════ some values, each with its width ════

-- one value for each width
unfoldable pub values : List ℕ → List ℕ → Reader → List ℤ
values s [] r = []
values s (w ∷ ws) r = next_value s w r ∷ values s ws (next_reader s w r)

-- the reader after them
unfoldable pub reader_after : List ℕ → List ℕ → Reader → Reader
reader_after s [] r = r
reader_after s (w ∷ ws) r = reader_after s ws (next_reader s w r)
