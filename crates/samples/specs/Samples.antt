-- Bench samples: what the definitions that the promises cite give, as tables, one for each kind of call. `samples::bench_samples` proves them.
use Rattle.std.specs.Prelude.{◌≡◌, Bool, true, false, cond, List, [], ◌∷◌, ◌++◌, map, ℕ, ◌≤◌, ℤ, pos, negsuc, length, replicate, take, drop, Result}
use Rattle.answer.specs.Answers.{number, number_of_answer}
use Rattle.answer.specs.declared.Refusal.{Refusal}
use Rattle.srl_decoder.specs.Turns.{values_turns}
use Rattle.srl_decoder.specs.Decode.{start_state, opened, decode_answer, decode_out, decoded_number, decoded_count, decoded_missing}
use Rattle.srl_decoder.specs.declared.SrlState.{SrlState}
use Rattle.srl_decoder.specs.declared.Decoded.{Decoded}
use Rattle.srl_encoder.specs.Encode.{fresh_writer, encode_answer, encode_state, encode_out, encoded_count}
use Rattle.srl_encoder.specs.Finish.{finish_answer, finish_out, finished_count}
use Rattle.srl_encoder.specs.declared.SrlWriter.{SrlWriter}
use Rattle.progressive_decoder.specs.Upgrade.{decode_pass_answer, decode_coefficients, decode_signs, missing_bits, decode_missing}
use Rattle.progressive_decoder.specs.declared.MissingBits.{MissingBits}
use Rattle.progressive_encoder.specs.Encode.{floor_rule, srl_difference, encode_pass_refusal}
use Rattle.color.specs.Color.{rgb}

-- ════ SRL, written: one call of `encode`, then `finish`, each with room for two bytes ════

-- a sample: values at a width, and their bytes
pub record SrlWritten : Type 0 where
  pub width : ℕ
  pub given : List ℤ
  pub bytes : List ℕ

-- widths 1 and 2, the smallest values, zeros among them
abbrev pub srl_written : List SrlWritten
srl_written =
    record { width = 1; given = pos 1 ∷ []; bytes = 0x80 ∷ 0x00 ∷ [] }
    ∷ record { width = 1; given = negsuc 0 ∷ []; bytes = 0xa0 ∷ 0x00 ∷ [] }
    ∷ record { width = 1; given = pos 0 ∷ []; bytes = 0xc0 ∷ 0x00 ∷ [] }
    ∷ record { width = 1; given = pos 0 ∷ pos 0 ∷ []; bytes = 0x40 ∷ 0x00 ∷ [] }
    ∷ record { width = 2; given = pos 1 ∷ []; bytes = 0x90 ∷ 0x00 ∷ [] }
    ∷ record { width = 2; given = pos 2 ∷ []; bytes = 0x88 ∷ 0x00 ∷ [] }
    ∷ record { width = 2; given = pos 3 ∷ []; bytes = 0x80 ∷ 0x00 ∷ [] }
    ∷ []

-- the output of each call, before it
abbrev pub two : List ℕ
two = 0xee ∷ 0xee ∷ []

-- what `encode` answers
abbrev pub begun : SrlWritten → Result ℕ Refusal
begun s = encode_answer fresh_writer s.given 2 s.width

-- the state that it leaves
abbrev pub left : SrlWritten → SrlWriter
left s = encode_state fresh_writer s.given 2 s.width

-- what `finish` answers then
abbrev pub ended : SrlWritten → Result ℕ Refusal
ended s = finish_answer (left s) 2

-- the bytes that both have counted, of what each has stored
abbrev pub written_as : SrlWritten → List ℕ
written_as s =
    take (encoded_count (begun s)) (encode_out fresh_writer s.given two s.width)
    ++ take (finished_count (ended s)) (finish_out (left s) two)

-- ════ SRL, read: one call of `decode` from a bit of the first byte, as at the start of a stream ════

-- a sample: bytes, the bit, the values read, how many bits were missing, and how often the loop turned that counts the zeros of nonzero values
pub record SrlRead : Type 0 where
  pub bytes : List ℕ
  pub bit : ℕ
  pub width : ℕ
  pub count : ℕ
  pub got : List ℤ
  pub missing : ℕ
  pub turns : ℕ

-- two values of the byte FF at width 1, values of no bytes, a value that begins at the last bit, and the largest one
abbrev pub srl_read : List SrlRead
srl_read =
    record { bytes = 0xff ∷ []; bit = 0; width = 1; count = 2; got = pos 0 ∷ negsuc 0 ∷ []; missing = 0; turns = 0 }
    ∷ record { bytes = []; bit = 0; width = 1; count = 5; got = pos 0 ∷ pos 0 ∷ pos 0 ∷ pos 0 ∷ pos 0 ∷ []; missing = 3; turns = 0 }
    ∷ record { bytes = 0x01 ∷ []; bit = 7; width = 2; count = 1; got = pos 3 ∷ []; missing = 4; turns = 1 }
    ∷ record { bytes = 0x80 ∷ []; bit = 0; width = 15; count = 1; got = pos 32767 ∷ []; missing = 32761; turns = 6 }
    ∷ []

-- the state of the decoder at a bit of the first byte
abbrev pub at_bit : ℕ → SrlState
at_bit n = record { reader = record { byte_idx = 0; bit_idx = n }; kp = 8; zero_run_remaining = 0; nonzero_pending = false }

-- an output that held sevens, just as long as it must be, after the call
abbrev pub read_as : SrlRead → List ℤ
read_as s = decode_out s.bytes (at_bit s.bit) (replicate s.count (pos 7)) s.count s.width

-- what the call answers
abbrev pub decoded_as : SrlRead → Result Decoded Refusal
decoded_as s = decode_answer s.bytes (at_bit s.bit) s.count s.count s.width

-- the turns of the loop that counts zeros
abbrev pub turned_as : SrlRead → ℕ
turned_as s = values_turns s.bytes (replicate s.count s.width) (opened (at_bit s.bit))

-- a value that begins at the last bit, at width 16
abbrev pub at_width16 : Result Decoded Refusal
at_width16 = decode_answer (0x01 ∷ []) (at_bit 7) 1 1 16

-- ════ a pass over a component in the standard layout, at the first place of its first band or of the bottom ════

-- a number at that place of a list as long as a component, zeros elsewhere
abbrev pub in_component : Bool → ℤ → List ℤ
in_component bottom v = replicate (cond bottom 4032 0) (pos 0) ++ (v ∷ replicate (cond bottom 63 4095) (pos 0))

-- a position for that band in a row, zeros elsewhere
abbrev pub row : Bool → ℕ → List ℕ
row bottom p = replicate (cond bottom 9 0) 0 ++ (p ∷ replicate (cond bottom 0 9) 0)

-- read, with these bytes of the raw stream and none of the other
pub record PassRead : Type 0 where
  pub bottom : Bool
  pub from : ℕ
  pub to : ℕ
  pub raw : List ℕ
  pub coefficient : ℤ
  pub sign : ℤ
  pub got : ℤ
  pub missing : MissingBits

-- positions 3 to 1, raw bits 11: -8 outside the bottom and in it, and -32768
abbrev pub pass_read : List PassRead
pass_read =
    record { bottom = false; from = 3; to = 1; raw = 0xc0 ∷ []; coefficient = negsuc 7; sign = negsuc 0; got = negsuc 13; missing = missing_bits 17 0 }
    ∷ record { bottom = true; from = 3; to = 1; raw = 0xc0 ∷ []; coefficient = negsuc 7; sign = negsuc 0; got = negsuc 1; missing = missing_bits 0 120 }
    ∷ record { bottom = false; from = 3; to = 1; raw = 0xc0 ∷ []; coefficient = negsuc 32767; sign = negsuc 0; got = negsuc 32767; missing = missing_bits 17 0 }
    ∷ []

-- the number of the call's answer
abbrev pub answered_as : PassRead → ℕ
answered_as s =
    number_of_answer (decode_pass_answer [] s.raw (row s.bottom s.from) (row s.bottom s.to) false (in_component s.bottom s.coefficient) (in_component s.bottom s.sign))

-- the coefficients after it
abbrev pub upgraded_as : PassRead → List ℤ
upgraded_as s =
    decode_coefficients [] s.raw (row s.bottom s.from) (row s.bottom s.to) false (in_component s.bottom s.coefficient) (in_component s.bottom s.sign)

-- and the signs
abbrev pub signed_as : PassRead → List ℤ
signed_as s =
    decode_signs [] (row s.bottom s.from) (row s.bottom s.to) false (in_component s.bottom s.coefficient) (in_component s.bottom s.sign)

-- and the bits that were missing
abbrev pub missed_as : PassRead → MissingBits
missed_as s =
    decode_missing [] s.raw (row s.bottom s.from) (row s.bottom s.to) false (in_component s.bottom s.coefficient) (in_component s.bottom s.sign)

-- those of a pass over zeros without any bytes, from positions 15 to 0, in either layout
abbrev pub missed_of_none : Bool → MissingBits
missed_of_none extrapolate =
    decode_missing [] [] (replicate 10 15) (replicate 10 0) extrapolate (replicate 4096 (pos 0)) (replicate 4096 (pos 0))

-- written, at a zero sign outside the bottom: the value for the SRL stream, and the refusal or 0
pub record PassWritten : Type 0 where
  pub from : ℕ
  pub to : ℕ
  pub coefficient : ℤ
  pub over : ℤ
  pub value : ℤ
  pub refusal : ℕ

-- 7 and -7 over 0, positions 3 to 1
abbrev pub pass_written : List PassWritten
pass_written =
    record { from = 3; to = 1; coefficient = pos 7; over = pos 0; value = pos 3; refusal = 0 }
    ∷ record { from = 3; to = 1; coefficient = negsuc 6; over = pos 0; value = negsuc 3; refusal = 5 }
    ∷ []

-- the value
abbrev pub valued_as : PassWritten → ℤ
valued_as s = srl_difference s.to s.coefficient s.over

-- the number of the refusal of the call, with room for a hundred bytes in each output
abbrev pub refused_as : PassWritten → ℕ
refused_as s =
    number (encode_pass_refusal floor_rule (in_component false s.coefficient) (in_component false s.over) (row false s.from) (row false s.to) (in_component false (pos 0)) false (replicate 100 0) (replicate 100 0))

-- ════ the colours of a pixel ════

-- a sample: luma and chroma, and red, green and blue
pub record Coloured : Type 0 where
  pub y : ℤ
  pub cb : ℤ
  pub cr : ℤ
  pub bytes : List ℕ

-- the marked sample: y 0, cb 0, cr 100 gives 255, 57, 128
abbrev pub coloured : List Coloured
coloured = record { y = pos 0; cb = pos 0; cr = pos 100; bytes = 255 ∷ 57 ∷ 128 ∷ [] } ∷ []

-- what the definitions give for it
abbrev pub coloured_as : Coloured → List ℕ
coloured_as s = rgb s.y s.cb s.cr

-- ════ the statement ════

-- each sample is what the definitions give
pub record BenchSamples : Type 0 where
  pub srl_written_lem : map written_as srl_written ≡ map (λ s. s.bytes) srl_written
  pub srl_read_lem : map read_as srl_read ≡ map (λ s. s.got) srl_read
  pub srl_counts : map (λ s. decoded_count (decoded_as s)) srl_read ≡ map (λ s. s.count) srl_read
  pub srl_missing_lem : map (λ s. decoded_missing (decoded_as s)) srl_read ≡ map (λ s. s.missing) srl_read
  pub srl_turns : map turned_as srl_read ≡ map (λ s. s.turns) srl_read
  -- where a width is refused no bit counts
  pub srl_refused : (decoded_number at_width16 ≡ 4) × (decoded_missing at_width16 ≡ 0)
  -- an empty stream gives zeros, as many as are asked for and at every width
  pub srl_empty : (out : List ℤ) (n w : ℕ) → n ≤ length out → decode_out [] start_state out n w ≡ replicate n (pos 0) ++ drop n out
  pub pass_answers : map answered_as pass_read ≡ map (λ s. 0) pass_read
  pub pass_read_lem : map upgraded_as pass_read ≡ map (λ s. in_component s.bottom s.got) pass_read
  pub pass_signs_lem : map signed_as pass_read ≡ map (λ s. in_component s.bottom s.sign) pass_read
  pub pass_missing_lem : map missed_as pass_read ≡ map (λ s. s.missing) pass_read
  pub pass_of_none : map missed_of_none (false ∷ true ∷ []) ≡ missing_bits 20 960 ∷ missing_bits 20 1215 ∷ []
  pub pass_values : map valued_as pass_written ≡ map (λ s. s.value) pass_written
  pub pass_refusals : map refused_as pass_written ≡ map (λ s. s.refusal) pass_written
  pub colours : map coloured_as coloured ≡ map (λ s. s.bytes) coloured
