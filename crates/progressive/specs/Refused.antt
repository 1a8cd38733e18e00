-- What refusals of a pass and of dequantizing leave, as a statement (docs/SCOPE.md, "Refusals").
use Rattle.std.specs.Prelude.{◌≡◌, Bool, List, ℕ, ℤ, length, None, Some}
use Rattle.answer.specs.declared.Refusal.{Refusal}
use Rattle.answer.specs.Answers.{number, number_of_answer}
use Rattle.upgrade_steps.specs.Steps.{steps}
use Rattle.progressive_decoder.specs.Upgrade.{missing_bits, decode_pass_refusal, decode_pass_answer, decode_coefficients, decode_signs, decode_missing}
use Rattle.progressive_encoder.specs.Encode.{Rule, srl_bytes, raw_bytes, encode_pass_refusal, encode_pass_answer, encode_srl_out, encode_raw_out, written_number, srl_count, raw_count}
use Rattle.dequantizer.specs.Dequantize.{dequantize_refusal, dequantize_answer, dequantize_out}

-- "a refusal gives its number, zero lengths and counts .. and alters no lent element"; bytes that were written are counted
pub record PassRefusals : Type 0 where
  pub decode_number : (srl_data raw_data prev curr : List ℕ) (e : Bool) (cs ss : List ℤ)
      → number_of_answer (decode_pass_answer srl_data raw_data prev curr e cs ss) ≡ number (decode_pass_refusal prev curr cs ss)
  pub decode_kept : (srl_data raw_data prev curr : List ℕ) (e : Bool) (cs ss : List ℤ) (refusal : Refusal) → decode_pass_refusal prev curr cs ss ≡ Some refusal
      → (decode_coefficients srl_data raw_data prev curr e cs ss ≡ cs) × (decode_signs srl_data prev curr e cs ss ≡ ss) × (decode_missing srl_data raw_data prev curr e cs ss ≡ missing_bits 0 0)
  pub encode_number : (r : Rule) (cs ps : List ℤ) (prev curr : List ℕ) (ss : List ℤ) (e : Bool) (srlOut rawOut : List ℕ)
      → written_number (encode_pass_answer r cs ps prev curr ss e srlOut rawOut) ≡ number (encode_pass_refusal r cs ps prev curr ss e srlOut rawOut)
  pub encode_kept : (r : Rule) (cs ps : List ℤ) (prev curr : List ℕ) (ss : List ℤ) (e : Bool) (srlOut rawOut : List ℕ) (refusal : Refusal)
      → encode_pass_refusal r cs ps prev curr ss e srlOut rawOut ≡ Some refusal
      → (srl_count (encode_pass_answer r cs ps prev curr ss e srlOut rawOut) ≡ 0)
      × (raw_count (encode_pass_answer r cs ps prev curr ss e srlOut rawOut) ≡ 0)
      × (encode_srl_out r cs ps prev curr ss e srlOut rawOut ≡ srlOut)
      × (encode_raw_out r cs ps prev curr ss e srlOut rawOut ≡ rawOut)
  pub encode_done : (r : Rule) (cs ps : List ℤ) (prev curr : List ℕ) (ss : List ℤ) (e : Bool) (srlOut rawOut : List ℕ)
      → encode_pass_refusal r cs ps prev curr ss e srlOut rawOut ≡ None
      → (srl_count (encode_pass_answer r cs ps prev curr ss e srlOut rawOut) ≡ length (srl_bytes r (steps e prev curr) cs ps ss))
      × (raw_count (encode_pass_answer r cs ps prev curr ss e srlOut rawOut) ≡ length (raw_bytes r (steps e prev curr) cs ps ss))
  pub dequantize_number : (quant : List ℕ) (cs : List ℤ) → number_of_answer (dequantize_answer quant cs) ≡ number (dequantize_refusal quant cs)
  pub dequantize_kept : (e : Bool) (quant : List ℕ) (cs : List ℤ) (refusal : Refusal) → dequantize_refusal quant cs ≡ Some refusal → dequantize_out e quant cs ≡ cs
