-- Number, count and state of each answer, and that a refusal leaves the output as it was: by the refusal that the definitions go by. Assumes nothing.
use mathlib.Core.Path.{◌≡◌, ap, ◌∙◌}
use lib.ListN.{length}
use Rattle.std.specs.Prelude.{ℕ, Option, None}
use Rattle.answer.specs.declared.Refusal.{Refusal}
use Rattle.answer.specs.Answers.{answered, unless_refused, number_of_answer}
use Rattle.answer.proofs.Refusing.{number_answered, kept, stored_some}
use Rattle.srl_decoder.specs.Decode.{values_from, state_after, missing_from, decode_refusal, decoded, decoded_count, decoded_missing}
use Rattle.srl_encoder.specs.Encode.{fresh_writer, call_bytes, call_after, encode_refusal, encoded_count}
use Rattle.srl_encoder.specs.Finish.{finish_bytes, finish_refusal, finished_count, finished_state}
use Rattle.srl_held.specs.Held.{decoder_at}
use Rattle.srl_held.specs.Stream.{stream_bytes, stream_refusal}
use Rattle.srl.specs.Laws.{Refusals, HeldRefusals}
use Rattle.srl_encoder.specs.declared.SrlWriter.{SrlWriter}

-- what a call leaves where its refusal is known
known : {S : Type 0} (next st : S) {r : Option Refusal} → r ≡ None → unless_refused r next st ≡ next
known next st e = ap (λ (r : Option Refusal). unless_refused r next st) e

-- the counts of `decode`'s answer, where its refusal is known
decoded_by : (n m : ℕ) {r q : Option Refusal} → r ≡ q → (decoded_count (decoded r n m) ≡ decoded_count (decoded q n m)) × (decoded_missing (decoded r n m) ≡ decoded_missing (decoded q n m))
decoded_by n m e = (ap (λ (r : Option Refusal). decoded_count (decoded r n m)) e, ap (λ (r : Option Refusal). decoded_missing (decoded r n m)) e)

-- the count of `encode`'s answer
encoded_by : (n : ℕ) {r q : Option Refusal} → r ≡ q → encoded_count (answered r n) ≡ encoded_count (answered q n)
encoded_by n e = ap (λ (r : Option Refusal). encoded_count (answered r n)) e

-- the count of an answer at the end of a stream, and the state from which the stream goes on
finished_by : (st : SrlWriter) (n : ℕ) {r q : Option Refusal} → r ≡ q
    → (finished_count (answered r n) ≡ finished_count (answered q n)) × (finished_state st (answered r n) ≡ finished_state st (answered q n))
finished_by st n e = (ap (λ (r : Option Refusal). finished_count (answered r n)) e, ap (λ (r : Option Refusal). finished_state st (answered r n)) e)

-- a refused call gives the refusal's number, no count and the state handed in, and leaves the output; an accepted one the counts and state of the definitions
pub answers_kept : Refusals
answers_kept = record {
  decode_number = λ s st room n w. number_answered (decode_refusal s st room n w) _;
  decode_kept = λ s st out n w k e. let a = decoded_by n (missing_from s st n w) e in (a.0, kept (state_after s st n w) st e, a.1, stored_some (values_from s st n w) out e);
  decode_done = λ s st room n w e. let a = decoded_by n (missing_from s st n w) e in (a.0, known (state_after s st n w) st e, a.1);
  encode_number = λ st vs room w. number_answered (encode_refusal st vs room w) _;
  encode_kept = λ st vs out w k e. (encoded_by (length (call_bytes w st vs)) e, kept (call_after w st vs) st e, stored_some (call_bytes w st vs) out e);
  encode_done = λ st vs room w e. (encoded_by (length (call_bytes w st vs)) e, known (call_after w st vs) st e);
  finish_number = λ st room. number_answered (finish_refusal st room) _;
  finish_kept = λ st out k e. let a = finished_by st (length (finish_bytes st)) e in (a.0, a.1, stored_some (finish_bytes st) out e);
  finish_done = λ st room e. finished_by st (length (finish_bytes st)) e;
}

-- the same of a decoder that holds its stream, and of a whole stream
pub held_kept : HeldRefusals
held_kept = record {
  held_number = λ d d' o o' n w r h. ap number_of_answer h.answer;
  held_count = λ d d' o o' n w r h. ap decoded_count h.answer;
  held_missing = λ d d' o o' n w r h. ap decoded_missing h.answer;
  held_kept = λ d d' o o' n w r k h e. (h.decoder ∙ ap (decoder_at d.src) (kept (state_after d.src.now d.state n w) d.state e), h.out ∙ stored_some (values_from d.src.now d.state n w) o e);
  stream_number = λ vs room w. number_answered (stream_refusal vs room w) _;
  stream_kept = λ vs out w k e. let a = finished_by fresh_writer (length (stream_bytes w vs)) e in (a.0, a.1, stored_some (stream_bytes w vs) out e);
  stream_done = λ vs room w e. finished_by fresh_writer (length (stream_bytes w vs)) e;
}
