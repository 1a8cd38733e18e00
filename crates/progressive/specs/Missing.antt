-- How much of the two streams of a pass was missing, as a statement: what both counts say, and what they can be.
-- Where it speaks of steps, it holds for every list of them.
use Rattle.std.specs.Prelude.{◌≡◌, Bool, List, [], ◌∷◌, ◌++◌, ℕ, ◌+◌, ◌-◌, ◌*◌, ◌≤◌, ℤ, length, replicate, None}
use Rattle.bits.specs.Missing.{InStream}
use Rattle.srl_decoder.specs.Srl.{start, reader_after}
use Rattle.upgrade_steps.specs.Steps.{Step, steps, srl_widths, raw_widths}
use Rattle.progressive_decoder.specs.Upgrade.{srl_missing, raw_missing, missing_bits, pass_missing, upgraded_signs, upgraded_coefficients, decode_pass_refusal, decode_coefficients, decode_signs, decode_missing}
use Rattle.progressive_encoder.specs.Encode.{Rule, srl_bytes, raw_bytes, encode_pass_refusal}

-- how many bits of the SRL stream a pass reads
abbrev pub srl_bits : List Step → List ℕ → List ℤ → ℕ
srl_bits ts srl_data ss = (reader_after srl_data (srl_widths ts ss) start).read

-- the sum of some widths
unfoldable pub sum : List ℕ → ℕ
sum [] = 0
sum (w ∷ ws) = w + sum ws

-- how many bits of the raw stream it reads, whatever that holds
abbrev pub raw_bits : List Step → List ℤ → ℕ
raw_bits ts ss = sum (raw_widths ts ss)

-- ════ the statement ════

pub record PassMissingBits : Type 0 where
  -- a whole pass misses nothing: the streams that the writer made, read from the previous coefficients with the same signs and rows
  pub whole : (r : Rule) (cs ps ss : List ℤ) (prev curr : List ℕ) (e : Bool) (srlOut rawOut : List ℕ)
      → encode_pass_refusal r cs ps prev curr ss e srlOut rawOut ≡ None
      → decode_missing (srl_bytes r (steps e prev curr) cs ps ss) (raw_bytes r (steps e prev curr) cs ps ss) prev curr e ps ss ≡ missing_bits 0 0
  -- an accepted call has the counts of its pass
  pub call : (srl_data raw_data prev curr : List ℕ) (e : Bool) (cs ss : List ℤ) → decode_pass_refusal prev curr cs ss ≡ None
      → decode_missing srl_data raw_data prev curr e cs ss ≡ pass_missing (steps e prev curr) srl_data raw_data ss
  -- a count says where the stream ended: it is 0 if and only if every bit that the pass read lies in the stream
  pub srl_ended : (ts : List Step) (srl_data : List ℕ) (ss : List ℤ)
      → (srl_missing ts srl_data ss ≡ 0 → InStream srl_data 0 (srl_bits ts srl_data ss)) × (InStream srl_data 0 (srl_bits ts srl_data ss) → srl_missing ts srl_data ss ≡ 0)
  pub raw_ended : (ts : List Step) (raw_data : List ℕ) (ss : List ℤ)
      → (raw_missing ts raw_data ss ≡ 0 → InStream raw_data 0 (raw_bits ts ss)) × (InStream raw_data 0 (raw_bits ts ss) → raw_missing ts raw_data ss ≡ 0)
  -- a call misses at most 32,790 bits of the SRL stream and 61,440 of the raw stream, whatever it is given
  pub most : (srl_data raw_data prev curr : List ℕ) (e : Bool) (cs ss : List ℤ)
      → ((decode_missing srl_data raw_data prev curr e cs ss).srl ≤ 32790) × ((decode_missing srl_data raw_data prev curr e cs ss).raw ≤ 61440)
  -- j and k zero bytes behind the streams change no coefficient and no sign
  pub longer : (ts : List Step) (srl_data raw_data : List ℕ) (cs ss : List ℤ) (j k : ℕ)
      → (upgraded_coefficients ts (srl_data ++ replicate j 0) (raw_data ++ replicate k 0) cs ss ≡ upgraded_coefficients ts srl_data raw_data cs ss)
      × (upgraded_signs ts (srl_data ++ replicate j 0) ss ≡ upgraded_signs ts srl_data ss)
  pub longer_call : (srl_data raw_data prev curr : List ℕ) (e : Bool) (cs ss : List ℤ) (j k : ℕ)
      → (decode_coefficients (srl_data ++ replicate j 0) (raw_data ++ replicate k 0) prev curr e cs ss ≡ decode_coefficients srl_data raw_data prev curr e cs ss)
      × (decode_signs (srl_data ++ replicate j 0) prev curr e cs ss ≡ decode_signs srl_data prev curr e cs ss)
  -- and take 8 from each count for each byte
  pub fewer : (ts : List Step) (srl_data raw_data : List ℕ) (ss : List ℤ) (j k : ℕ)
      → (srl_missing ts (srl_data ++ replicate j 0) ss ≡ srl_missing ts srl_data ss - 8 * j) × (raw_missing ts (raw_data ++ replicate k 0) ss ≡ raw_missing ts raw_data ss - 8 * k)
  -- so that both are 0 once the streams are long enough
  pub long_enough_lem : (ts : List Step) (srl_data raw_data : List ℕ) (ss : List ℤ) (j k : ℕ) → srl_bits ts srl_data ss ≤ 8 * (length srl_data + j) → raw_bits ts ss ≤ 8 * (length raw_data + k)
      → pass_missing ts (srl_data ++ replicate j 0) (raw_data ++ replicate k 0) ss ≡ missing_bits 0 0
