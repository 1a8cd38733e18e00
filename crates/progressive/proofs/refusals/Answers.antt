-- `progressive::refusals` meets its contract. Assumes nothing.
use mathlib.Core.Path.{ap}
use lib.ListN.{length}
use Rattle.std.specs.Prelude.{Option}
use Rattle.answer.specs.declared.Refusal.{Refusal}
use Rattle.answer.specs.Answers.{answered, given_or}
use Rattle.answer.proofs.Refusing.{number_answered, kept, stored_some}
use Rattle.upgrade_steps.specs.Steps.{steps}
use Rattle.progressive_decoder.specs.Upgrade.{upgraded_coefficients, upgraded_signs, missing_bits, pass_missing, decode_pass_refusal}
use Rattle.progressive_encoder.specs.Encode.{srl_bytes, raw_bytes, encode_pass_refusal, written, srl_count, raw_count}
use Rattle.dequantizer.specs.Dequantize.{dequantized_all, quantizers, dequantize_refusal}
use Rattle.progressive.proofs.refusals.Goals as goal

pub returns : goal.returns
returns c = record {
  decode_number = λ srl_data raw_data prev curr e cs ss. number_answered (decode_pass_refusal prev curr cs ss) _;
  decode_kept = λ srl_data raw_data prev curr e cs ss refusal n. (
    kept (upgraded_coefficients (steps e prev curr) srl_data raw_data cs ss) cs n,
    kept (upgraded_signs (steps e prev curr) srl_data ss) ss n,
    ap (λ (r : Option Refusal). given_or (missing_bits 0 0) (answered r (pass_missing (steps e prev curr) srl_data raw_data ss))) n,
  );
  encode_number = λ r cs ps prev curr ss e srlOut rawOut. number_answered (encode_pass_refusal r cs ps prev curr ss e srlOut rawOut) _;
  encode_kept = λ r cs ps prev curr ss e srlOut rawOut refusal n.
      let a = srl_bytes r (steps e prev curr) cs ps ss in let b = raw_bytes r (steps e prev curr) cs ps ss in (
        ap (λ (k : Option Refusal). srl_count (written k (length a) (length b))) n,
        ap (λ (k : Option Refusal). raw_count (written k (length a) (length b))) n,
        stored_some a srlOut n,
        stored_some b rawOut n,
      );
  encode_done = λ r cs ps prev curr ss e srlOut rawOut n.
      let a = srl_bytes r (steps e prev curr) cs ps ss in let b = raw_bytes r (steps e prev curr) cs ps ss in (
        ap (λ (k : Option Refusal). srl_count (written k (length a) (length b))) n,
        ap (λ (k : Option Refusal). raw_count (written k (length a) (length b))) n,
      );
  dequantize_number = λ quant cs. number_answered (dequantize_refusal quant cs) _;
  dequantize_kept = λ e quant cs refusal n. kept (dequantized_all (quantizers e quant) cs) cs n;
}
