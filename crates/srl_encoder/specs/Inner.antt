-- For inner functions only: what those of the encoder ask and promise.
use Rattle.std.specs.Prelude.{◌≡◌, Bool, true, false, cond, List, [], ◌∷◌, ◌++◌, ℕ, suc, ◌+◌, ◌-◌, ◌/◌, ◌^◌, ◌≤◌, ◌<◌, max, ltb, ℤ, nat_abs, length, set, replicate}
use Rattle.std.proofs.lemmas.List.Edits.{sets}
use Rattle.bits.specs.Written.{bits_of, after}
use Rattle.bits.specs.Inner.{Sound, write, pad_count, pad_out, counted, settled, settled_out, SoundWord, WroteWords, word_of}
use Rattle.bits.specs.declared.writer.BitWriter.{BitWriter}
use Rattle.srl_encoder.specs.Encode.{run_bits, run_kp, nonzero_bits, value_bits, value_kp, value_zeros, call_bits, call_kp, call_zeros, sink, call_bytes, call_after}
use Rattle.srl_encoder.specs.Finish.{flush}
use Rattle.srl_encoder.specs.declared.SrlWriter.{SrlWriter}
use Rattle.srl_encoder.specs.declared.encoder.RunPlan.{RunPlan}
use Rattle.srl_encoder.specs.declared.encoder.CallState.{CallState}
use Rattle.srl_encoder.specs.declared.encoder.CallDone.{CallDone}
use Rattle.srl_encoder.specs.declared.encoder.Measured.{Measured}

-- the largest magnitude
abbrev pub largest : List ℤ → ℕ
largest [] = 0
largest (v ∷ vs) = max (nat_abs v) (largest vs)

-- ════ runs and nonzero values ════

-- the bits of a planned run
abbrev pub plan_bits : RunPlan → List Bool
plan_bits r = replicate r.steps false ++ (true ∷ bits_of (r.kp / 8) r.rest)

-- its kp is one that a run can have, and its rest has the bits that kp gives it
abbrev pub GoodPlan : RunPlan → Type 0
GoodPlan r = (r.kp ≤ 80) × (r.rest < 2 ^ (r.kp / 8))

-- a plan of a run of z zeros
pub record Planned (kp z : ℕ) (r : RunPlan) : Type 0 where
  pub bits : run_bits (suc z) kp z ≡ plan_bits r
  pub next : run_kp (suc z) kp z ≡ r.kp - 6
  pub good : GoodPlan r
  pub few : r.steps ≤ z

-- how many bits 1 end a nonzero value
abbrev pub stop_count : ℕ → ℕ → ℕ
stop_count w magnitude = cond (ltb magnitude (2 ^ w - 1)) 1 0

-- ════ a call: its state, value by value ════

-- it starts before the first byte of its output, with the bits that the state keeps
abbrev pub call_start : SrlWriter → CallState
call_start st = record { sink = word_of (sink st); kp = st.kp; zeros = st.pending_zeros }

-- a state by its parts
abbrev pub call_of : ℕ → ℕ → ℕ → ℕ → ℕ → CallState
call_of at word held kp zeros = record { sink = record { at = at; word = word; held = held }; kp = kp; zeros = zeros }

-- what is handed back of it; k is the writer that it stands for
abbrev pub call_done : CallState → BitWriter → CallDone
call_done c k =
    record { count = k.at; state = record { kp = c.kp; pending_zeros = c.zeros; current = k.current; bit_count = k.bit_count } }

-- how many whole bytes there are after some values
abbrev pub call_end : ℕ → CallState → List ℤ → ℕ
call_end w c vs = c.sink.at + (c.sink.held + length (call_bits w c.kp c.zeros vs)) / 8

-- a nonzero value of magnitude m was written: d is the state after it, o the output
pub record WroteNonzero (w : ℕ) (out : List ℕ) (c : CallState) (m : ℕ) (negative : Bool) (d : CallState) (o : List ℕ) : Type 0 where
  pub bits : WroteWords out c.sink (run_bits (suc c.zeros) c.kp c.zeros ++ nonzero_bits w negative (m - 1)) d.sink o
  pub kp : d.kp ≡ run_kp (suc c.zeros) c.kp c.zeros
  pub zeros : d.zeros ≡ 0

-- some values were
pub record WroteValues (w : ℕ) (out : List ℕ) (c : CallState) (vs : List ℤ) (d : CallState) (o : List ℕ) : Type 0 where
  pub bits : WroteWords out c.sink (call_bits w c.kp c.zeros vs) d.sink o
  pub kp : d.kp ≡ call_kp c.kp c.zeros vs
  pub zeros : d.zeros ≡ call_zeros c.zeros vs

-- a call's values were: r is what is handed back, o the output
pub record WroteCall (w : ℕ) (l : List ℕ) (st : SrlWriter) (vs : List ℤ) (r : CallDone) (o : List ℕ) : Type 0 where
  pub count : r.count ≡ length (call_bytes w st vs)
  pub state : r.state ≡ call_after w st vs
  pub out : o ≡ sets l 0 (call_bytes w st vs)

-- the writer and the output after the pending zeros
abbrev pub flushed : CallState → BitWriter
flushed c = after (settled c.sink) (flush c.kp c.zeros)

abbrev pub flushed_out : List ℕ → CallState → List ℕ
flushed_out out c = write (settled_out out c.sink) (settled c.sink) (flush c.kp c.zeros)

-- the end of a stream was written, n bytes: the pending zeros, the padding and a byte 0
pub record WroteEnd (l : List ℕ) (c : CallState) (n : ℕ) (o : List ℕ) : Type 0 where
  pub count : n ≡ pad_count (flushed c) + 1
  pub out : o ≡ set (pad_out (flushed_out l c) (flushed c)) (pad_count (flushed c)) 0

-- ════ measuring ════

-- it starts as a call does
abbrev pub measure_start : SrlWriter → Measured
measure_start st = record { place = record { at = 0; bit_count = st.bit_count }; kp = st.kp; zeros = st.pending_zeros }

-- after a value
abbrev pub value_measure : ℕ → Measured → ℤ → Measured
value_measure w p v =
    record {
      place = counted p.place (length (value_bits w p.kp p.zeros v));
      kp = value_kp p.kp p.zeros v;
      zeros = value_zeros p.zeros v;
    }

-- how many bytes are complete after some values
abbrev pub call_count : ℕ → Measured → List ℤ → ℕ
call_count w p vs = (counted p.place (length (call_bits w p.kp p.zeros vs))).at

-- ════ what the inner functions ask of a state ════

-- of a call
abbrev pub Good : CallState → Type 0
Good c = SoundWord c.sink × (c.kp ≤ 80)

-- of a measure
abbrev pub GoodMeasure : Measured → Type 0
GoodMeasure p = (p.place.bit_count ≤ 7) × (p.kp ≤ 80)

-- of a writer that is handed in
abbrev pub GoodWriter : SrlWriter → Type 0
GoodWriter st = Sound (sink st) × (st.kp ≤ 80) × (st.pending_zeros ≤ 4096)
