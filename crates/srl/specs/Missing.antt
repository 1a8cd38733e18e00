-- How much of an SRL stream was missing, as a statement: what the counts of `decode` say, and what they can be.
use Rattle.std.specs.Prelude.{◌≡◌, true, List, [], ◌∷◌, ◌++◌, ℕ, ◌+◌, ◌-◌, ◌*◌, ◌^◌, ◌≤◌, ◌<◌, ℤ, length, replicate, None, Some, Result}
use Rattle.answer.specs.declared.Refusal.{Refusal}
use Rattle.bits.specs.Missing.{read_num, InStream}
use Rattle.srl_decoder.specs.Srl.{Reader, values, reader_after}
use Rattle.srl_decoder.specs.Missing.{read_values, values_missing, Narrow}
use Rattle.srl_decoder.specs.Decode.{start_state, opened, state_ok, decode_refusal, decode_answer, decode_state, decode_out, decoded_missing}
use Rattle.srl_rules.specs.Rules.{width_ok}
use Rattle.srl_encoder.specs.Encode.{fresh_writer}
use Rattle.srl.specs.Laws.{EncodeCall, Ask, Accepted, stream_from, widths, asked}
use Rattle.srl_decoder.specs.declared.SrlState.{SrlState}
use Rattle.srl_decoder.specs.declared.Decoded.{Decoded}

-- ════ calls of `decode` in a row ════

-- what a call answers that has just the room that it needs
abbrev pub answer_to : List ℕ → SrlState → Ask → Result Decoded Refusal
answer_to s st a = decode_answer s st a.count a.count a.width

-- every call is accepted, each from the state that the one before handed back
abbrev pub Granted : List ℕ → SrlState → List Ask → Type 0
Granted s st [] = Unit {0}
Granted s st (a ∷ asks) = (decode_refusal s st a.count a.count a.width ≡ None) × Granted s (decode_state s st a.count a.count a.width) asks

-- the sum of their counts of missing bits
abbrev pub missed_back : List ℕ → SrlState → List Ask → ℕ
missed_back s st [] = 0
missed_back s st (a ∷ asks) = decoded_missing (answer_to s st a) + missed_back s (decode_state s st a.count a.count a.width) asks

-- every width is 1 to 15
pub data Fine : List ℕ → Type 0 where
  none : Fine []
  fine : {w : ℕ} {ws : List ℕ} → width_ok w ≡ true → Fine ws → Fine (w ∷ ws)

-- ════ the statement ════

-- A value is asked for by its width; `reader_after s ws r` is where a reader that stood at r stands once it has read a value for each width of ws
pub record SrlMissingBits : Type 0 where
  -- the bits that some values are read from are those between the reader's two places, each read once
  pub bits : (s ws : List ℕ) (r : Reader) → read_values s ws r ≡ read_num s r.read ((reader_after s ws r).read - r.read)
  -- in closed form: the count is that of the bits read, less those that were there
  pub closed : (s ws : List ℕ) (r : Reader) → values_missing s ws r ≡ (reader_after s ws r).read - r.read - (8 * length s - r.read)
  -- a count says where the stream ended: it is 0 if and only if every bit that was read lies in the stream
  pub ended : (s ws : List ℕ) (r : Reader)
      → (values_missing s ws r ≡ 0 → InStream s r.read (reader_after s ws r).read) × (InStream s r.read (reader_after s ws r).read → values_missing s ws r ≡ 0)
  -- and so does that of an accepted call of `decode`
  pub call : (s : List ℕ) (st : SrlState) (room n w : ℕ) → decode_refusal s st room n w ≡ None
      → (decoded_missing (decode_answer s st room n w) ≡ 0 → InStream s (opened st).read (reader_after s (replicate n w) (opened st)).read)
      × (InStream s (opened st).read (reader_after s (replicate n w) (opened st)).read → decoded_missing (decode_answer s st room n w) ≡ 0)
  -- a refused call has the count 0, whatever it saw
  pub refused : (s : List ℕ) (st : SrlState) (room n w : ℕ) (k : Refusal) → decode_refusal s st room n w ≡ Some k → decoded_missing (decode_answer s st room n w) ≡ 0
  -- the counts of calls in a row add up to the count of one reading of all their values
  pub in_a_row : (s : List ℕ) (st : SrlState) (asks : List Ask) → Granted s st asks → missed_back s st asks ≡ values_missing s (asked asks) (opened st)
  -- where the first state passes the decoder's test and every width is 1 to 15, they are all accepted
  pub accepted : (s : List ℕ) (st : SrlState) (asks : List Ask) → state_ok st ≡ true → Fine (asked asks) → Granted s st asks
  -- from whatever place, at most 32,777 bits can be missing, and one for each value
  pub most : (s ws : List ℕ) (r : Reader) → Narrow ws → r.kp ≤ 80 → values_missing s ws r ≤ length ws + 32777
  -- so a call misses at most 32,777 bits more than its output has room for values, whatever it is given
  pub most_call : (s : List ℕ) (st : SrlState) (room n w : ℕ) → decoded_missing (decode_answer s st room n w) ≤ room + 32777
  -- and its count fits 64 bits, as no slice has 2^63 elements
  pub fits : (s : List ℕ) (st : SrlState) (room n w : ℕ) → room < 2 ^ 63 → decoded_missing (decode_answer s st room n w) < 2 ^ 64
  -- what `encode` and `finish` wrote misses nothing, read by `decode` however both sides split the values into calls
  pub whole : (cs : List EncodeCall) (asks : List Ask) → Accepted fresh_writer cs → asked asks ≡ widths cs → missed_back (stream_from fresh_writer cs) start_state asks ≡ 0
  -- k zero bytes behind the stream change no value, and no place that a reader comes to
  pub longer : (s ws : List ℕ) (r : Reader) (k : ℕ) → (values (s ++ replicate k 0) ws r ≡ values s ws r) × (reader_after (s ++ replicate k 0) ws r ≡ reader_after s ws r)
  -- nor does a call store anything else, or refuse otherwise
  pub longer_call : (s : List ℕ) (st : SrlState) (out : List ℤ) (n w k : ℕ)
      → (decode_refusal (s ++ replicate k 0) st (length out) n w ≡ decode_refusal s st (length out) n w) × (decode_out (s ++ replicate k 0) st out n w ≡ decode_out s st out n w)
  -- and once the stream is long enough nothing is missing
  pub long_enough_lem : (s ws : List ℕ) (r : Reader) (k : ℕ) → (reader_after s ws r).read ≤ 8 * (length s + k) → values_missing (s ++ replicate k 0) ws r ≡ 0
