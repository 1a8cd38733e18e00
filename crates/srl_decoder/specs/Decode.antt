-- What a call of `decode` answers and stores, for every state, stream, output, count and width (docs/SCOPE.md, "SRL", "Refusals").
use Rattle.std.specs.Prelude.{◌≡◌, Bool, true, false, cond, not, ◌&&◌, ◌||◌, List, ℕ, zero, suc, leb, ℤ, length, replicate, Option, Result}
use Rattle.bits.specs.Bits.{bits_read, reader_moved}
use Rattle.answer.specs.Answers.{unless, first_of, no_room, answered, unless_refused, stored, number_of_answer, given_or}
use Rattle.answer.specs.declared.Refusal.{Refusal}
use Rattle.answer.specs.declared.Refusal.TheVariants.{InvalidBitCount, ImpossibleState}
use Rattle.srl_rules.specs.Rules.{width_ok}
use Rattle.srl_decoder.specs.Srl.{Reader, reader, readied, next_reader, values, reader_after}
use Rattle.srl_decoder.specs.Missing.{values_missing}
use Rattle.srl_decoder.specs.declared.SrlState.{SrlState}
use Rattle.srl_decoder.specs.declared.Decoded.{Decoded}

-- ════ the public state ════

-- the state at the start of a stream
abbrev pub start_state : SrlState
start_state = record { reader = record { byte_idx = 0; bit_idx = 0 }; kp = 8; zero_run_remaining = 0; nonzero_pending = false }

-- the reader that a state is
abbrev pub opened : SrlState → Reader
opened st = reader (bits_read st.reader) st.kp st.zero_run_remaining st.nonzero_pending

-- the state that a reader is, where st was handed in
abbrev pub closed : List ℕ → SrlState → Reader → SrlState
closed s st r = record { reader = reader_moved s st.reader r.read; kp = r.kp; zero_run_remaining = r.run; nonzero_pending = r.pending }

-- ════ the next n values, all of one width ════

-- the values
abbrev pub values_from : List ℕ → SrlState → ℕ → ℕ → List ℤ
values_from s st n w = values s (replicate n w) (opened st)

-- the state after them
abbrev pub state_after : List ℕ → SrlState → ℕ → ℕ → SrlState
state_after s st n w = closed s st (reader_after s (replicate n w) (opened st))

-- how many of the bits that they are read from are missing
abbrev pub missing_from : List ℕ → SrlState → ℕ → ℕ → ℕ
missing_from s st n w = values_missing s (replicate n w) (opened st)

-- ════ refusals ════

-- else refused by 8: "a coder state with kp above 80, a bit place above 7, a run above 1,024"
abbrev pub state_ok : SrlState → Bool
state_ok st = leb st.kp 80 && (leb st.reader.bit_idx 7 && leb st.zero_run_remaining 1024)

-- the next value is nonzero where no zero of a run is left once the reader is ready
abbrev pub due : ℕ → Bool
due zero = true
due (suc run) = false

-- "where a nonzero value is due": one of the next n values is. A zero is passed alike at every width, so the 0 here says nothing
abbrev pub due_among : List ℕ → Reader → ℕ → Bool
due_among s r zero = false
due_among s r (suc n) = cond (due (readied s r).run) true (due_among s (next_reader s 0 r) n)

-- "`decode` [refuses a bad width] only where a nonzero value is due"
abbrev pub width_fine : List ℕ → SrlState → ℕ → ℕ → Bool
width_fine s st n w = width_ok w || not (due_among s (opened st) n)

-- "order: 8, .. 4, .. 7"
abbrev pub decode_refusal : List ℕ → SrlState → ℕ → ℕ → ℕ → Option Refusal
decode_refusal s st room n w =
    first_of (unless (state_ok st) ImpossibleState) (first_of (unless (width_fine s st n w) InvalidBitCount) (no_room room n))

-- ════ the answer, and what the state and `out` hold then ════

-- "a refusal gives its number, zero lengths and counts, and the state handed in, and alters no lent element"
abbrev pub decoded : Option Refusal → ℕ → ℕ → Result Decoded Refusal
decoded refusal n m = answered refusal (record { count = n; missing = m })

-- what `decode` answers
abbrev pub decode_answer : List ℕ → SrlState → ℕ → ℕ → ℕ → Result Decoded Refusal
decode_answer s st room n w = decoded (decode_refusal s st room n w) n (missing_from s st n w)

-- what the state is after it
abbrev pub decode_state : List ℕ → SrlState → ℕ → ℕ → ℕ → SrlState
decode_state s st room n w = unless_refused (decode_refusal s st room n w) (state_after s st n w) st

-- what `out` holds after it
abbrev pub decode_out : List ℕ → SrlState → List ℤ → ℕ → ℕ → List ℤ
decode_out s st out n w = stored (decode_refusal s st (length out) n w) (values_from s st n w) out

-- what the call fixes: its answer, the state, and the output
pub record DecodesSrl (s : List ℕ) (st : SrlState) (o : List ℤ) (n w : ℕ) (r : Result Decoded Refusal) (st' : SrlState) (o' : List ℤ) : Type 0 where
  pub answer : r ≡ decode_answer s st (length o) n w
  pub state : st' ≡ decode_state s st (length o) n w
  pub out : o' ≡ decode_out s st o n w

-- the number of each case
abbrev pub decoded_number : Result Decoded Refusal → ℕ
decoded_number = number_of_answer

-- "zero lengths and counts" with a refusal
abbrev pub no_values : Decoded
no_values = record { count = 0; missing = 0 }

-- the count of values of each case
abbrev pub decoded_count : Result Decoded Refusal → ℕ
decoded_count r = (given_or no_values r).count

-- the count of missing bits of each case
abbrev pub decoded_missing : Result Decoded Refusal → ℕ
decoded_missing r = (given_or no_values r).missing
