-- What the C functions answer and leave, where they have more to say than the call beneath them (include/tarjimp.h; docs/SCOPE.md, "Refusals").
use Rattle.std.specs.Prelude.{◌≡◌, Bool, false, List, [], ◌∷◌, ℕ, ℤ, length, replicate, Option, Result}
use Rattle.srl_decoder.specs.Decode.{decode_refusal, values_from, state_after, missing_from}
use Rattle.srl_encoder.specs.Encode.{encode_refusal, call_bytes, call_after}
use Rattle.srl_encoder.specs.Finish.{finish_refusal, finish_bytes}
use Rattle.answer.specs.declared.Refusal.{Refusal}
use Rattle.answer.specs.declared.Refusal.TheVariants.{ImpossibleState}
use Rattle.answer.specs.Answers.{unless, first_of, answered, unless_refused, stored, number_of_answer, given_or}
use Rattle.dequantizer.specs.Dequantize.{dequantize_answer, dequantize_out}
use Rattle.dwt_extrapolate.specs.Transform.{inverse_answer, inverse_buffer, inverse_scratch}
use Rattle.progressive_decoder.specs.Upgrade.{missing_bits, decode_pass_answer, decode_coefficients, decode_signs, decode_missing}
use Rattle.progressive_decoder.specs.declared.MissingBits.{MissingBits}
use Rattle.progressive_encoder.specs.Encode.{Rule, written_number, srl_count, raw_count, encode_pass_answer, encode_srl_out, encode_raw_out}
use Rattle.progressive_encoder.specs.declared.Written.{Written}
use Rattle.tile.specs.Tile.{upgrade_answer, upgraded_tile, reconstruct_answer, reconstruct_pixels}
use Rattle.tile.specs.declared.TileState.{TileState}
use Rattle.tarjimp.specs.States.{reader_fits, reader_of, reader_numbers, writer_fits, writer_of, writer_numbers}

-- ════ `tarjimp_srl_decode`: s is the state's five numbers ════

-- why it is refused: "one that does not fit its field .. is no state: 8"
abbrev pub srl_decode_refusal : List ℕ → List ℕ → ℕ → ℕ → ℕ → Option Refusal
srl_decode_refusal src s room n w = first_of (unless (reader_fits s) ImpossibleState) (decode_refusal src (reader_of s) room n w)

-- the answer: the count of missing bits
abbrev pub srl_decode_answer : List ℕ → List ℕ → ℕ → ℕ → ℕ → Result ℕ Refusal
srl_decode_answer src s room n w = answered (srl_decode_refusal src s room n w) (missing_from src (reader_of s) n w)

-- the state's numbers then: "a refusal gives .. the state handed in"
abbrev pub srl_decode_state : List ℕ → List ℕ → ℕ → ℕ → ℕ → List ℕ
srl_decode_state src s room n w = unless_refused (srl_decode_refusal src s room n w) (reader_numbers (state_after src (reader_of s) n w)) s

-- what `out` holds then
abbrev pub srl_decode_out : List ℕ → List ℕ → List ℤ → ℕ → ℕ → List ℤ
srl_decode_out src s out n w = stored (srl_decode_refusal src s (length out) n w) (values_from src (reader_of s) n w) out

-- what the call fixes: the number returned, the state's numbers, the output, and the count of missing bits, "a refusal gives 0 for every count"
pub record SrlDecodes (src s : List ℕ) (o : List ℤ) (n w : ℕ) (r : ℕ) (s' : List ℕ) (o' : List ℤ) (m' : ℕ) : Type 0 where
  pub number : r ≡ number_of_answer (srl_decode_answer src s (length o) n w)
  pub state : s' ≡ srl_decode_state src s (length o) n w
  pub out : o' ≡ srl_decode_out src s o n w
  pub missing : m' ≡ given_or 0 (srl_decode_answer src s (length o) n w)

-- ════ `tarjimp_srl_encode`: s is the state's four numbers ════

-- why it is refused; 8 as above
abbrev pub srl_encode_refusal : List ℤ → List ℕ → ℕ → ℕ → Option Refusal
srl_encode_refusal vs s room w = first_of (unless (writer_fits s) ImpossibleState) (encode_refusal (writer_of s) vs room w)

-- the answer: the count of bytes
abbrev pub srl_encode_answer : List ℤ → List ℕ → ℕ → ℕ → Result ℕ Refusal
srl_encode_answer vs s room w = answered (srl_encode_refusal vs s room w) (length (call_bytes w (writer_of s) vs))

-- the state's numbers then
abbrev pub srl_encode_state : List ℤ → List ℕ → ℕ → ℕ → List ℕ
srl_encode_state vs s room w = unless_refused (srl_encode_refusal vs s room w) (writer_numbers (call_after w (writer_of s) vs)) s

-- what `out` holds then
abbrev pub srl_encode_out : List ℤ → List ℕ → List ℕ → ℕ → List ℕ
srl_encode_out vs s out w = stored (srl_encode_refusal vs s (length out) w) (call_bytes w (writer_of s) vs) out

-- what the call fixes: the number returned, the state's numbers, the output, and the count of bytes, "zero lengths and counts" with a refusal
pub record SrlEncodes (vs : List ℤ) (s o : List ℕ) (w : ℕ) (r : ℕ) (s' o' : List ℕ) (n' : ℕ) : Type 0 where
  pub number : r ≡ number_of_answer (srl_encode_answer vs s (length o) w)
  pub state : s' ≡ srl_encode_state vs s (length o) w
  pub out : o' ≡ srl_encode_out vs s o w
  pub written : n' ≡ given_or 0 (srl_encode_answer vs s (length o) w)

-- ════ `tarjimp_srl_finish` ════

-- why it is refused; 8 as above
abbrev pub srl_finish_refusal : List ℕ → ℕ → Option Refusal
srl_finish_refusal s room = first_of (unless (writer_fits s) ImpossibleState) (finish_refusal (writer_of s) room)

-- the answer: the count of bytes
abbrev pub srl_finish_answer : List ℕ → ℕ → Result ℕ Refusal
srl_finish_answer s room = answered (srl_finish_refusal s room) (length (finish_bytes (writer_of s)))

-- what `out` holds then
abbrev pub srl_finish_out : List ℕ → List ℕ → List ℕ
srl_finish_out s out = stored (srl_finish_refusal s (length out)) (finish_bytes (writer_of s)) out

-- what the call fixes: the number returned, the output, and the count of bytes
pub record SrlFinishes (s o : List ℕ) (r : ℕ) (o' : List ℕ) (n' : ℕ) : Type 0 where
  pub number : r ≡ number_of_answer (srl_finish_answer s (length o))
  pub out : o' ≡ srl_finish_out s o
  pub written : n' ≡ given_or 0 (srl_finish_answer s (length o))

-- ════ `tarjimp_dequantize_component` and `tarjimp_dwt_extrapolate_decode` ════

-- what the call fixes: the number returned, and the coefficients
pub record DequantizesComponent (e : Bool) (quant : List ℕ) (cs : List ℤ) (r : ℕ) (cs' : List ℤ) : Type 0 where
  pub number : r ≡ number_of_answer (dequantize_answer quant cs)
  pub coefficients : cs' ≡ dequantize_out e quant cs

-- what the call fixes: the number returned, and both slices
pub record InvertsComponent (b t : List ℤ) (r : ℕ) (b' t' : List ℤ) : Type 0 where
  pub number : r ≡ number_of_answer (inverse_answer b t)
  pub buffer : b' ≡ inverse_buffer b t
  pub scratch : t' ≡ inverse_scratch b t

-- ════ `tarjimp_decode_upgrade_pass` ════

-- two counts of missing bits as numbers: of the SRL stream, and of the raw stream
abbrev pub missing_numbers : MissingBits → List ℕ
missing_numbers m = m.srl ∷ m.raw ∷ []

-- what the call fixes: the number returned, both slices, and the counts of missing bits
pub record ReadsPass (srl_data raw_data prev curr : List ℕ) (e : Bool) (cs ss : List ℤ) (r : ℕ) (cs' ss' : List ℤ) (counts : List ℕ) : Type 0 where
  pub number : r ≡ number_of_answer (decode_pass_answer srl_data raw_data prev curr e cs ss)
  pub coefficients : cs' ≡ decode_coefficients srl_data raw_data prev curr e cs ss
  pub sign : ss' ≡ decode_signs srl_data prev curr e cs ss
  pub missing : counts ≡ missing_numbers (decode_missing srl_data raw_data prev curr e cs ss)

-- ════ `tarjimp_encode_upgrade_pass` and `tarjimp_encode_upgrade_pass_symmetric`: each by its rule ════

-- the counts of both streams: "zero lengths and counts" with a refusal
abbrev pub written_counts : Result Written Refusal → List ℕ
written_counts w = srl_count w ∷ raw_count w ∷ []

-- what the call fixes: the number returned, the counts of both streams, and both outputs
pub record WritesPass (rule : Rule) (cs ps : List ℤ) (prev curr : List ℕ) (ss : List ℤ) (e : Bool) (srlOut rawOut : List ℕ) (r : ℕ) (counts srlOut' rawOut' : List ℕ) : Type 0 where
  pub number : r ≡ written_number (encode_pass_answer rule cs ps prev curr ss e srlOut rawOut)
  pub written : counts ≡ written_counts (encode_pass_answer rule cs ps prev curr ss e srlOut rawOut)
  pub srl : srlOut' ≡ encode_srl_out rule cs ps prev curr ss e srlOut rawOut
  pub raw : rawOut' ≡ encode_raw_out rule cs ps prev curr ss e srlOut rawOut

-- ════ `tarjimp_tile_decode_upgrade` ════

-- the tile that the arrays and numbers are; an upgrade neither reads nor changes the two fields that are not among them
abbrev pub tile_of : List ℤ → List ℤ → List ℕ → List ℕ → List ℕ → Bool → ℕ → ℕ → TileState
tile_of cs ss ns positions quants e pass quality = record {
  coefficients = cs;
  sign = ss;
  zero_signs = ns;
  prog_quant = positions;
  quant_idx = replicate 3 0;
  base_quant = quants;
  pass = pass;
  is_difference = false;
  quality = quality;
  use_reduce_extrapolate = e;
}

-- what the call fixes: the number returned, the tile, and the counts of missing bits
pub record UpgradesTile (t : TileState) (srl_data raw_data rows : List (List ℕ)) (q : ℕ) (r : ℕ) (t' : TileState) (counts : List ℕ) : Type 0 where
  pub number : r ≡ number_of_answer (upgrade_answer t srl_data raw_data rows)
  pub tile : t' ≡ upgraded_tile t srl_data raw_data rows q
  pub missing : counts ≡ missing_numbers (given_or (missing_bits 0 0) (upgrade_answer t srl_data raw_data rows))

-- ════ `tarjimp_tile_reconstruct_to_rgba` ════

-- what the call fixes, of the tile that the arrays are: the number returned, and the slice. Pixels do not depend on its pass number and quality
pub record ReconstructsTile (cs ss : List ℤ) (ns positions quants : List ℕ) (e : Bool) (px : List ℕ) (r : ℕ) (px' : List ℕ) : Type 0 where
  pub number : r ≡ number_of_answer (reconstruct_answer (tile_of cs ss ns positions quants e 0 0) px)
  pub pixels : px' ≡ reconstruct_pixels (tile_of cs ss ns positions quants e 0 0) px
