-- The end of an SRL stream: what `finish` answers and stores (docs/SCOPE.md, "SRL", "Refusals").
use Rattle.std.specs.Prelude.{◌≡◌, Bool, List, [], ◌∷◌, ◌++◌, ℕ, zero, suc, ℤ, length, Option, Result, Ok, Err}
use Rattle.bits.specs.Written.{pack}
use Rattle.answer.specs.declared.Refusal.{Refusal}
use Rattle.answer.specs.declared.Refusal.TheVariants.{ImpossibleState}
use Rattle.answer.specs.Answers.{unless, first_of, no_room, answered, stored, number_of_answer, given_or}
use Rattle.srl_encoder.specs.Encode.{run_bits, value_bits, value_kp, value_zeros, writer_ok}
use Rattle.srl_encoder.specs.declared.SrlWriter.{SrlWriter}

-- "`finish` writes a pending run as if a value followed"
abbrev pub flush : ℕ → ℕ → List Bool
flush kp zero = []
flush kp (suc z) = run_bits (suc (suc z)) kp (suc z)

-- "`finish` writes a pending run as if a value followed, pads with zeros, and appends one byte 0"
abbrev pub finish_bytes : SrlWriter → List ℕ
finish_bytes st = pack st.current st.bit_count (flush st.kp st.pending_zeros) ++ (0 ∷ [])

-- the bits of a whole stream, from kp and the pending zeros on: values, each with its width, and then the end
unfoldable pub stream_bits : ℕ → ℕ → List ℕ → List ℤ → List Bool
stream_bits kp z ws [] = flush kp z
stream_bits kp z [] (v ∷ vs) = []
stream_bits kp z (w ∷ ws) (v ∷ vs) = value_bits w kp z v ++ stream_bits (value_kp kp z v) (value_zeros z v) ws vs

-- "order: 8, .. 7"
abbrev pub finish_refusal : SrlWriter → ℕ → Option Refusal
finish_refusal st room = first_of (unless (writer_ok st) ImpossibleState) (no_room room (length (finish_bytes st)))

-- what `finish` answers: "a refusal gives its number, zero lengths and counts"
abbrev pub finish_answer : SrlWriter → ℕ → Result ℕ Refusal
finish_answer st room = answered (finish_refusal st room) (length (finish_bytes st))

-- what `out` holds after it
abbrev pub finish_out : SrlWriter → List ℕ → List ℕ
finish_out st out = stored (finish_refusal st (length out)) (finish_bytes st) out

-- what the call fixes: its answer, and the output
pub record FinishesSrl (st : SrlWriter) (o : List ℕ) (r : Result ℕ Refusal) (o' : List ℕ) : Type 0 where
  pub answer : r ≡ finish_answer st (length o)
  pub out : o' ≡ finish_out st o

-- the number of an answer
abbrev pub finished_number : Result ℕ Refusal → ℕ
finished_number r = number_of_answer r

-- the count of bytes of an answer
abbrev pub finished_count : Result ℕ Refusal → ℕ
finished_count r = given_or 0 r

-- the state from which a stream goes on: "the state handed in" with a refusal, and after the end of a stream there is none
abbrev pub finished_state : SrlWriter → Result ℕ Refusal → List SrlWriter
finished_state st (Ok n) = []
finished_state st (Err refusal) = st ∷ []
