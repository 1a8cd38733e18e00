-- The laws of the two coders, as statements. Each is what a function with an empty body ensures.
use Rattle.std.specs.Prelude.{◌≡◌, true, List, [], ◌∷◌, ◌++◌, ℕ, ◌^◌, ◌<◌, ℤ, pos, nat_abs, length, replicate, None, Some, Result}
use Rattle.answer.specs.Answers.{number}
use Rattle.answer.specs.declared.Refusal.{Refusal}
use Rattle.srl_decoder.specs.Srl.{Reader, values}
use Rattle.srl_decoder.specs.Decode.{start_state, state_after, missing_from, state_ok, decode_refusal, decode_answer, decode_state, decode_out, decoded_number, decoded_count, decoded_missing}
use Rattle.srl_encoder.specs.Encode.{fresh_writer, writer_ok, call_bytes, call_after, encode_refusal, encode_answer, encode_state, encode_out, encoded_number, encoded_count}
use Rattle.srl_encoder.specs.Finish.{finish_bytes, finish_refusal, finish_answer, finish_out, finished_number, finished_count, finished_state}
use Rattle.srl_held.specs.Held.{DecodesHeld}
use Rattle.srl_held.specs.Stream.{stream_bytes, stream_refusal, stream_answer, stream_out}
use Rattle.srl_decoder.specs.declared.SrlState.{SrlState}
use Rattle.srl_decoder.specs.declared.Decoded.{Decoded}
use Rattle.srl_encoder.specs.declared.SrlWriter.{SrlWriter}
use Rattle.srl_held.specs.declared.SrlDecoder.{SrlDecoder}

-- ════ magnitudes ════

-- each width is at least 1
pub data Wide : List ℕ → Type 0 where
  none : Wide []
  wide : {w : ℕ} {ws : List ℕ} → 0 < w → Wide ws → Wide (w ∷ ws)

-- each value is 0, or its magnitude is 1 to 2^w - 1
pub data Legal : List ℕ → List ℤ → Type 0 where
  none : Legal [] []
  legal : {w : ℕ} {v : ℤ} {ws : List ℕ} {vs : List ℤ} → nat_abs v < 2 ^ w → Legal ws vs → Legal (w ∷ ws) (v ∷ vs)

-- every value that is read is legal at its width
pub record DecodedMagnitudes : Type 0 where
  -- whatever the stream holds and wherever the reader stands
  pub bounded : (s ws : List ℕ) (r : Reader) → Wide ws → Legal ws (values s ws r)

-- ════ the round trip ════

-- a call of `encode`
pub record EncodeCall : Type 0 where
  pub width : ℕ
  pub given : List ℤ

-- a call of `decode`
pub record Ask : Type 0 where
  pub width : ℕ
  pub count : ℕ

-- every call is accepted, each from the state that the one before handed back, with just the room that it needs
abbrev pub Accepted : SrlWriter → List EncodeCall → Type 0
Accepted st [] = Unit {0}
Accepted st (c ∷ cs) =
    (encode_refusal st c.given (length (call_bytes c.width st c.given)) c.width ≡ None) × Accepted (call_after c.width st c.given) cs

-- the bytes of these calls and of `finish`, one after another
abbrev pub stream_from : SrlWriter → List EncodeCall → List ℕ
stream_from st [] = finish_bytes st
stream_from st (c ∷ cs) = call_bytes c.width st c.given ++ stream_from (call_after c.width st c.given) cs

-- the values that the calls were given
abbrev pub given : List EncodeCall → List ℤ
given [] = []
given (c ∷ cs) = c.given ++ given cs

-- the width at which each of them was written
abbrev pub widths : List EncodeCall → List ℕ
widths [] = []
widths (c ∷ cs) = replicate (length c.given) c.width ++ widths cs

-- the width at which each value is read
abbrev pub asked : List Ask → List ℕ
asked [] = []
asked (a ∷ asks) = replicate a.count a.width ++ asked asks

-- an output of just the size that a call of `decode` needs
abbrev pub room : Ask → List ℤ
room a = replicate a.count (pos 0)

-- what calls of `decode` store, each from the state that the one before handed back
abbrev pub read_back : List ℕ → SrlState → List Ask → List ℤ
read_back s st [] = []
read_back s st (a ∷ asks) =
    decode_out s st (room a) a.count a.width ++ read_back s (decode_state s st a.count a.count a.width) asks

-- what was written is read back
pub record RoundTrip : Type 0 where
  -- what `encode` and `finish` wrote is read back: both sides may split the values into calls as they like, so long as each value is
  -- read at the width at which it was written
  pub back : (cs : List EncodeCall) (asks : List Ask) → Accepted fresh_writer cs → asked asks ≡ widths cs → read_back (stream_from fresh_writer cs) start_state asks ≡ given cs

-- ════ states ════

-- `decode` goes on from where it stopped
pub record DecoderResumes : Type 0 where
  -- a state that `decode` hands back is one that it accepts, where the one handed in was
  pub again : (s : List ℕ) (st : SrlState) (room n w : ℕ) → state_ok st ≡ true → state_ok (decode_state s st room n w) ≡ true

-- and `encode`
pub record EncoderResumes : Type 0 where
  -- and so is a state that `encode` hands back with bytes
  pub again : (st : SrlWriter) (vs : List ℤ) (room w : ℕ) → encode_refusal st vs room w ≡ None → writer_ok (call_after w st vs) ≡ true

-- ════ answers: number, count and state of each case, and what is lent ════

-- "a refusal gives its number, zero lengths and counts, and the state handed in, and alters no lent element"; an answer that is none has
-- the counts and the state of the definitions
pub record Refusals : Type 0 where
  pub decode_number : (s : List ℕ) (st : SrlState) (room n w : ℕ) → decoded_number (decode_answer s st room n w) ≡ number (decode_refusal s st room n w)
  pub decode_kept : (s : List ℕ) (st : SrlState) (out : List ℤ) (n w : ℕ) (k : Refusal) → decode_refusal s st (length out) n w ≡ Some k
      → (decoded_count (decode_answer s st (length out) n w) ≡ 0) × (decode_state s st (length out) n w ≡ st) × (decoded_missing (decode_answer s st (length out) n w) ≡ 0) × (decode_out s st out n w ≡ out)
  pub decode_done : (s : List ℕ) (st : SrlState) (room n w : ℕ) → decode_refusal s st room n w ≡ None
      → (decoded_count (decode_answer s st room n w) ≡ n) × (decode_state s st room n w ≡ state_after s st n w) × (decoded_missing (decode_answer s st room n w) ≡ missing_from s st n w)
  pub encode_number : (st : SrlWriter) (vs : List ℤ) (room w : ℕ) → encoded_number (encode_answer st vs room w) ≡ number (encode_refusal st vs room w)
  pub encode_kept : (st : SrlWriter) (vs : List ℤ) (out : List ℕ) (w : ℕ) (k : Refusal) → encode_refusal st vs (length out) w ≡ Some k
      → (encoded_count (encode_answer st vs (length out) w) ≡ 0) × (encode_state st vs (length out) w ≡ st) × (encode_out st vs out w ≡ out)
  pub encode_done : (st : SrlWriter) (vs : List ℤ) (room w : ℕ) → encode_refusal st vs room w ≡ None
      → (encoded_count (encode_answer st vs room w) ≡ length (call_bytes w st vs)) × (encode_state st vs room w ≡ call_after w st vs)
  pub finish_number : (st : SrlWriter) (room : ℕ) → finished_number (finish_answer st room) ≡ number (finish_refusal st room)
  pub finish_kept : (st : SrlWriter) (out : List ℕ) (k : Refusal) → finish_refusal st (length out) ≡ Some k
      → (finished_count (finish_answer st (length out)) ≡ 0) × (finished_state st (finish_answer st (length out)) ≡ st ∷ []) × (finish_out st out ≡ out)
  pub finish_done : (st : SrlWriter) (room : ℕ) → finish_refusal st room ≡ None
      → (finished_count (finish_answer st room) ≡ length (finish_bytes st)) × (finished_state st (finish_answer st room) ≡ [])

-- the same of a decoder that holds its stream, and of a whole stream, for which no state is handed in: it is the first one
pub record HeldRefusals : Type 0 where
  pub held_number : (d d' : SrlDecoder) (o o' : List ℤ) (n w : ℕ) (r : Result Decoded Refusal) → DecodesHeld d o n w r d' o'
      → decoded_number r ≡ decoded_number (decode_answer d.src.now d.state (length o) n w)
  pub held_count : (d d' : SrlDecoder) (o o' : List ℤ) (n w : ℕ) (r : Result Decoded Refusal) → DecodesHeld d o n w r d' o'
      → decoded_count r ≡ decoded_count (decode_answer d.src.now d.state (length o) n w)
  pub held_missing : (d d' : SrlDecoder) (o o' : List ℤ) (n w : ℕ) (r : Result Decoded Refusal) → DecodesHeld d o n w r d' o'
      → decoded_missing r ≡ decoded_missing (decode_answer d.src.now d.state (length o) n w)
  pub held_kept : (d d' : SrlDecoder) (o o' : List ℤ) (n w : ℕ) (r : Result Decoded Refusal) (k : Refusal) → DecodesHeld d o n w r d' o'
      → decode_refusal d.src.now d.state (length o) n w ≡ Some k → (d' ≡ d) × (o' ≡ o)
  pub stream_number : (vs : List ℤ) (room w : ℕ) → finished_number (stream_answer vs room w) ≡ number (stream_refusal vs room w)
  pub stream_kept : (vs : List ℤ) (out : List ℕ) (w : ℕ) (k : Refusal) → stream_refusal vs (length out) w ≡ Some k
      → (finished_count (stream_answer vs (length out) w) ≡ 0) × (finished_state fresh_writer (stream_answer vs (length out) w) ≡ fresh_writer ∷ []) × (stream_out vs out w ≡ out)
  pub stream_done : (vs : List ℤ) (room w : ℕ) → stream_refusal vs room w ≡ None
      → (finished_count (stream_answer vs room w) ≡ length (stream_bytes w vs)) × (finished_state fresh_writer (stream_answer vs room w) ≡ [])
