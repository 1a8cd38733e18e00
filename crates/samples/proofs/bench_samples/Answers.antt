-- `samples::bench_samples` meets its contract: the definitions compute, and past the end of a stream all is 0. Assumes nothing.
use mathlib.Core.Path.{◌≡◌, refl, ap, ◌∙◌}
use mathlib.Core.Bool.{Bool, true, false, cond, not, ◌||◌}
use mathlib.Core.List.{List, [], ◌++◌}
use Prim.Native.Nat.{ℕ, ◌≤◌}
use native.Mathlib.Omega.{arith}
use borrow.Author.Tests.{le-ltb}
use lib.IntN.{ℤ, pos}
use lib.ListN.{length, replicate, drop, length-replicate}
use Rattle.fixed.specs.Fixed.{clamp_i16, clamp_u8, add_scaled, sub_scaled, is_zero, is_one}
use Rattle.bands.specs.Bands.{spread}
use Rattle.bits.specs.Bits.{num, numbers, zeros}
use Rattle.bits.specs.Missing.{read_num, read_numbers, read_zeros, missing_in}
use Rattle.bits.specs.Turns.{count_zeros}
use Rattle.bits.specs.Written.{bits_of_all}
use Rattle.std.specs.Prelude.{Option, None, Some}
use Rattle.answer.specs.Answers.{unless, first_of, no_room, stored}
use Rattle.answer.specs.declared.Refusal.{Refusal}
use Rattle.answer.specs.declared.Refusal.TheVariants.{InvalidBitCount, OutputTooShort}
use Rattle.srl_rules.specs.Rules.{width_ok}
use Rattle.srl_decoder.specs.Srl.{values, reader_after}
use Rattle.srl_decoder.specs.Missing.{read_values}
use Rattle.srl_decoder.specs.Decode.{start_state, opened, decode_refusal, decode_out}
use Rattle.srl_decoder.specs.Turns.{values_turns}
use Rattle.srl_decoder.proofs.Due.{values_past}
use Rattle.srl_decoder.proofs.Turns.{due_past}
use Rattle.srl_encoder.specs.Finish.{stream_bits}
use Rattle.upgrade_steps.specs.Steps.{srl_widths, raw_widths}
use Rattle.progressive_decoder.specs.Upgrade.{signs_after, coefficients_after}
use Rattle.progressive_encoder.specs.Encode.{srl_differences, raw_differences, any_too_large}
use Rattle.color.specs.Color.{red, green, blue}
use Rattle.samples.specs.Samples.{BenchSamples}
use Rattle.samples.proofs.bench_samples.Goals as goal

-- where no nonzero value is due and there is room, nothing is refused, whatever the width is
not_refused : (b : Bool) (n : Option Refusal) → n ≡ None → first_of (unless (b || true) InvalidBitCount) n ≡ None
not_refused true n e = e
not_refused false n e = e

-- past the end of a stream all is 0
empty : (out : List ℤ) (n w : ℕ) → n ≤ length out → decode_out [] start_state out n w ≡ replicate n (pos 0) ++ drop n out
empty out n w h =
    let room : no_room (length out) n ≡ None = ap (λ (b : Bool). cond b (Some OutputTooShort) None) (le-ltb (length out) n h) in
    let none : decode_refusal [] start_state (length out) n w ≡ None =
    ap (λ (d : Bool). first_of (unless (width_ok w || not d) InvalidBitCount) (no_room (length out) n)) (due_past [] 0 8 0 n (omega arith))
    ∙ not_refused (width_ok w) (no_room (length out) n) room in
    let zero : values [] (replicate n w) (opened start_state) ≡ replicate n (pos 0) =
    values_past [] 0 8 0 (replicate n w) (omega arith) ∙ ap (λ (k : ℕ). replicate k (pos 0)) (length-replicate n w) in
    ap (λ (r : Option Refusal). stored r (values [] (replicate n w) (opened start_state)) out) none
    ∙ ap (λ (l : List ℤ). l ++ drop (length l) out) zero
    ∙ ap (λ (k : ℕ). replicate n (pos 0) ++ drop k out) (length-replicate n (pos 0))

samples : BenchSamples
unfolding read_num read_numbers read_zeros missing_in count_zeros values_turns read_values values reader_after num zeros numbers clamp_i16 clamp_u8 add_scaled sub_scaled is_zero is_one spread srl_widths raw_widths signs_after coefficients_after srl_differences raw_differences any_too_large stream_bits bits_of_all red green blue
samples = record {
  srl_written_lem = refl;
  srl_read_lem = refl;
  srl_counts = refl;
  srl_missing_lem = refl;
  srl_turns = refl;
  srl_refused = (refl, refl);
  srl_empty = empty;
  pass_answers = refl;
  pass_read_lem = refl;
  pass_signs_lem = refl;
  pass_missing_lem = refl;
  pass_of_none = refl;
  pass_values = refl;
  pass_refusals = refl;
  colours = refl;
}

pub returns : goal.returns
returns c = samples
