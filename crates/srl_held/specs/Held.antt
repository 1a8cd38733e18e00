-- A decoder that holds its stream, and a stream decoded in one call (docs/SCOPE.md, "SRL", "Refusals"). What is decoded is `srl_decoder`'s `Decode`.
use Rattle.std.specs.Prelude.{◌≡◌, List, ℕ, ℤ, length, Result}
use Rattle.std.specs.Borrow.{Bor}
use Rattle.answer.specs.Answers.{answered}
use Rattle.answer.specs.declared.Refusal.{Refusal}
use Rattle.srl_decoder.specs.Decode.{start_state, state_after, missing_from, decode_refusal, decode_answer, decode_state, decode_out}
use Rattle.srl_decoder.specs.declared.SrlState.{SrlState}
use Rattle.srl_decoder.specs.declared.Decoded.{Decoded}
use Rattle.srl_held.specs.declared.SrlDecoder.{SrlDecoder}

-- "a decoder may hold its stream beside its state"
abbrev pub decoder_at : Bor (List ℕ) → SrlState → SrlDecoder
decoder_at src st = record { src = src; state = st }

-- "a call then answers as on that stream and state,"
abbrev pub held_answer : SrlDecoder → ℕ → ℕ → ℕ → Result Decoded Refusal
held_answer d room n w = decode_answer d.src.now d.state room n w

-- "and leaves the decoder at the new state"
abbrev pub held_decoder : SrlDecoder → ℕ → ℕ → ℕ → SrlDecoder
held_decoder d room n w = decoder_at d.src (decode_state d.src.now d.state room n w)

-- what `out` holds after it
abbrev pub held_out : SrlDecoder → List ℤ → ℕ → ℕ → List ℤ
held_out d out n w = decode_out d.src.now d.state out n w

-- what the call of a decoder fixes: its answer, the decoder, and the output
pub record DecodesHeld (d : SrlDecoder) (o : List ℤ) (n w : ℕ) (r : Result Decoded Refusal) (d' : SrlDecoder) (o' : List ℤ) : Type 0 where
  pub answer : r ≡ held_answer d (length o) n w
  pub decoder : d' ≡ held_decoder d (length o) n w
  pub out : o' ≡ held_out d o n w

-- what is decoded from the first state on, and the state behind it
abbrev pub stream_values : List ℕ → ℕ → ℕ → Decoded × SrlState
stream_values s n w = (record { count = n; missing = missing_from s start_state n w }, state_after s start_state n w)

-- what `decode_srl` fixes: its answer, and the output
pub record DecodesStream (s : List ℕ) (o : List ℤ) (n w : ℕ) (r : Result (Decoded × SrlState) Refusal) (o' : List ℤ) : Type 0 where
  pub answer : r ≡ answered (decode_refusal s start_state (length o) n w) (stream_values s n w)
  pub out : o' ≡ decode_out s start_state o n w
