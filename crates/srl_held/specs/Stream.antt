-- A whole SRL stream, written in one call: what it holds, and what the call answers and stores (docs/SCOPE.md, "SRL", "Refusals").
use Rattle.std.specs.Prelude.{◌≡◌, List, ◌++◌, ℕ, ℤ, length, Option, Result}
use Rattle.answer.specs.declared.Refusal.{Refusal}
use Rattle.answer.specs.declared.Refusal.TheVariants.{InvalidBitCount}
use Rattle.answer.specs.Answers.{unless, first_of, no_room, answered, stored}
use Rattle.srl_rules.specs.Rules.{width_ok}
use Rattle.srl_encoder.specs.Encode.{fresh_writer, call_bytes, call_after, fault}
use Rattle.srl_encoder.specs.Finish.{finish_bytes}

-- "a whole stream: the bytes of `encode` from the first state on and then those of `finish`"
abbrev pub stream_bytes : ℕ → List ℤ → List ℕ
stream_bytes w vs = call_bytes w fresh_writer vs ++ finish_bytes (call_after w fresh_writer vs)

-- "order: .. 4, then 5 or 6 by the earlier value, 7". 7: "the answer exceeds an output slice"
abbrev pub stream_refusal : List ℤ → ℕ → ℕ → Option Refusal
stream_refusal vs room w =
    first_of (unless (width_ok w) InvalidBitCount) (first_of (fault w 0 vs) (no_room room (length (stream_bytes w vs))))

-- what `encode_srl` answers: "a refusal gives its number, zero lengths and counts"
abbrev pub stream_answer : List ℤ → ℕ → ℕ → Result ℕ Refusal
stream_answer vs room w = answered (stream_refusal vs room w) (length (stream_bytes w vs))

-- what `out` holds after it: "[a refusal] alters no lent element"; "on acceptance, elements past the answer are untouched"
abbrev pub stream_out : List ℤ → List ℕ → ℕ → List ℕ
stream_out vs out w = stored (stream_refusal vs (length out) w) (stream_bytes w vs) out

-- what the call fixes: its answer, and the output
pub record EncodesStream (vs : List ℤ) (o : List ℕ) (w : ℕ) (r : Result ℕ Refusal) (o' : List ℕ) : Type 0 where
  pub answer : r ≡ stream_answer vs (length o) w
  pub out : o' ≡ stream_out vs o w
