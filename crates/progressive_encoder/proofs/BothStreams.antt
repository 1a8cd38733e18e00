-- Laws of both streams together: what is refused, test by test, and what is answered and stored then. Assumes nothing.
use mathlib.Core.Path.{◌≡◌, ap, sym, ◌∙◌}
use mathlib.Core.Bool.{Bool, cond}
use mathlib.Core.List.{List}
use Prim.Native.Nat.{ℕ, ◌≤◌}
use lib.Dec.{ltb}
use lib.ListN.{length}
use Rattle.bits.proofs.Packed.{sets_start}
use Rattle.std.specs.Prelude.{Option, None, Some, Ok, Err}
use Rattle.answer.specs.declared.Refusal.{Refusal}
use Rattle.answer.specs.declared.Refusal.TheVariants.{MagnitudeOutOfRange, OutputTooShort}
use Rattle.answer.specs.Answers.{first_of, no_room, stored}
use Rattle.answer.proofs.Refusing.{stored_some}
use Rattle.progressive_encoder.specs.Encode.{srl_stream, raw_stream, any_too_large, written}
use Rattle.progressive_encoder.specs.Inner.{Lists, lists_refusal, StoresStreams, WritesStreams}
use Rattle.progressive_encoder.specs.declared.Written.{Written}

module _ (l : Lists) (srlOut rawOut : List ℕ) where
  -- the refusal by its three tests: a value that is too large, and no room for one stream or the other
  pub refusal_is : {a b c : Bool} → a ≡ any_too_large l.widths l.values → b ≡ ltb (length srlOut) (length (srl_stream l.widths l.values))
      → c ≡ ltb (length rawOut) (length (raw_stream l.number_widths l.numbers))
      → lists_refusal l srlOut rawOut ≡ first_of (cond a (Some MagnitudeOutOfRange) None) (first_of (cond b (Some OutputTooShort) None) (cond c (Some OutputTooShort) None))
  refusal_is {a} {b} {c} p q r =
      let none = no_room (length rawOut) (length (raw_stream l.number_widths l.numbers)) in
      let full = first_of (no_room (length srlOut) (length (srl_stream l.widths l.values))) none in
      ap (λ x. first_of (cond x (Some MagnitudeOutOfRange) None) full) (sym p)
      ∙ ap (λ x. first_of (cond a (Some MagnitudeOutOfRange) None) (first_of (cond x (Some OutputTooShort) None) none)) (sym q)
      ∙ ap (λ x. first_of (cond a (Some MagnitudeOutOfRange) None) (first_of (cond b (Some OutputTooShort) None) (cond x (Some OutputTooShort) None))) (sym r)

  -- where it is some: the answer, and both outputs as they were
  pub refused : {refusal : Refusal} → lists_refusal l srlOut rawOut ≡ Some refusal → WritesStreams l srlOut rawOut (Err refusal) srlOut rawOut
  refused r =
      let x = srl_stream l.widths l.values in
      let y = raw_stream l.number_widths l.numbers in
      record {
        answer = sym (ap (λ (k : Option Refusal). written k (length x) (length y)) r);
        srl = sym (stored_some x srlOut r);
        raw = sym (stored_some y rawOut r);
      }

  -- where it is none, with room for both: what was stored is what is to be written
  pub accepted : lists_refusal l srlOut rawOut ≡ None → length (srl_stream l.widths l.values) ≤ length srlOut → length (raw_stream l.number_widths l.numbers) ≤ length rawOut
      → {a : Written} {o p : List ℕ} → StoresStreams l srlOut rawOut a o p → WritesStreams l srlOut rawOut (Ok a) o p
  accepted r h k s =
      let x = srl_stream l.widths l.values in
      let y = raw_stream l.number_widths l.numbers in
      record {
        answer = ap (λ (b : Written). Ok b) s.answer ∙ sym (ap (λ (i : Option Refusal). written i (length x) (length y)) r);
        srl = s.srl ∙ sets_start x srlOut h ∙ sym (ap (λ (i : Option Refusal). stored i x srlOut) r);
        raw = s.raw ∙ sets_start y rawOut k ∙ sym (ap (λ (i : Option Refusal). stored i y rawOut) r);
      }
