-- For inner functions only: what those of the decoder ask and promise.
use Rattle.std.specs.Prelude.{◌≡◌, Bool, false, not, ◌&&◌, List, ℕ, zero, suc, ◌+◌, ◌*◌, ◌/◌, ◌%◌, ◌^◌, ◌≤◌, ◌<◌, ltb, ℤ, pos, length, get_or, replicate, Result}
use Rattle.bits.specs.Bits.{place_of, held}
use Rattle.bits.specs.Turns.{still_held}
use Rattle.answer.specs.Answers.{no_room, unless_refused, stored}
use Rattle.answer.specs.declared.Refusal.{Refusal}
use Rattle.srl_decoder.specs.Srl.{Reader, reader, next_value, next_reader, reader_after}
use Rattle.srl_decoder.specs.Decode.{opened, values_from, state_after, missing_from, due_among, decoded}
use Rattle.srl_decoder.specs.Turns.{dry_run}
use Rattle.srl_decoder.specs.declared.SrlState.{SrlState}
use Rattle.srl_decoder.specs.declared.Decoded.{Decoded}
use Rattle.srl_decoder.specs.declared.decoder.CodesRead.{CodesRead}
use Rattle.srl_decoder.specs.declared.decoder.Stored.{Stored}
use Rattle.srl_decoder.specs.declared.decoder.DryRun.{DryRun}

-- the state that a reader is: the place runs on past the end with the count
abbrev pub shut : Reader → SrlState
shut r = record { reader = place_of r.read; kp = r.kp; zero_run_remaining = r.run; nonzero_pending = r.pending }

-- a reader as far as the stream goes
abbrev pub held_reader : List ℕ → Reader → Reader
held_reader s r = reader (held s r.read) r.kp r.run r.pending

-- what `store_values` hands back, and what the output holds then
pub record StoresValues (s : List ℕ) (st : SrlState) (n w : ℕ) (r : Stored) (o' : List ℤ) : Type 0 where
  pub state : r.state ≡ shut (reader_after s (replicate n w) (opened st))
  -- "at most once for each value that is asked for, in the stream and past its end"
  pub turns : r.turns ≤ n
  pub out : o' ≡ values_from s st n w

-- what `store_if_room` answers, and what the state and the output hold then
pub record StoresIfRoom (s : List ℕ) (st : SrlState) (o : List ℤ) (n w : ℕ) (r : Result Decoded Refusal) (st' : SrlState) (o' : List ℤ) : Type 0 where
  pub answer : r ≡ decoded (no_room (length o) n) n (missing_from s st n w)
  pub state : st' ≡ unless_refused (no_room (length o) n) (state_after s st n w) st
  pub out : o' ≡ stored (no_room (length o) n) (values_from s st n w) o

-- a state from which a code word can be read, and a value behind it
abbrev pub SoundState : SrlState → Type 0
SoundState st = (st.reader.bit_idx ≤ 7) × (st.reader.byte_idx ≤ 2 ^ 63) × (st.kp ≤ 80)

-- the reader after code words that begin behind n bits
abbrev pub read_behind : ℕ → CodesRead → Reader
read_behind n r = reader (n + r.taken) r.kp r.run r.pending

-- whether the dry run reads a code word: values are left behind the run, no nonzero value is at hand, and the stream holds bits still
abbrev pub reads_on : List ℕ → SrlState → ℕ → Bool
reads_on s st left = ltb st.zero_run_remaining left && (not st.nonzero_pending && ltb st.reader.byte_idx (length s))

-- what `any_due` hands back
pub record FindsDue (s : List ℕ) (r : Reader) (n : ℕ) (d : DryRun) : Type 0 where
  pub found : d.due ≡ due_among s r n
  pub turns : d.turns ≡ (dry_run s r n).turns
  -- "no more often than the stream still holds bits"
  pub spent : d.turns ≤ still_held s r.read

-- two readers give the same k values, of whatever widths, and are one reader after them
abbrev pub Same : List ℕ → ℕ → Reader → Reader → Type 0
Same s zero r q = r ≡ q
Same s (suc k) r q = (w : ℕ) → (next_value s w r ≡ next_value s w q) × Same s k (next_reader s w r) (next_reader s w q)

-- the zeros that code words 0 bring while kp rises to x, and two more: 2^k for each multiple of 4 below x
abbrev pub below : ℕ → ℕ
below x = (2 + x / 4 % 2) * 2 ^ (x / 8)

-- what code words behind n bits bring, with `left` values to come, and none where a nonzero value is pending: a reader that gives the same, with zeros or a
-- nonzero value at hand
pub record Brought (s : List ℕ) (n kp : ℕ) (pending : Bool) (left : ℕ) (r : CodesRead) : Type 0 where
  pub same : Same s left (reader n kp 0 pending) (read_behind n r)
  pub kp_low : r.kp ≤ 80
  pub run_low : r.run ≤ left + 1024
  pub near : r.taken ≤ 40
  pub moves : r.pending ≡ false → (1 ≤ r.run) × (r.taken ≤ 1)

-- the places from j up to n hold 0
abbrev pub Clear : List ℤ → ℕ → ℕ → Type 0
Clear out j n = (i : ℕ) → j ≤ i → i < n → get_or out i (pos 0) ≡ pos 0
