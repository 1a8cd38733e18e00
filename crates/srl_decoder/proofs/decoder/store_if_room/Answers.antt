-- `srl_decoder::decoder::store_if_room` meets its contract: what is held at the end reads as what was handed in. Assumes nothing.
use mathlib.Core.Path.{◌≡◌, ap, sym, ◌∙◌}
use mathlib.Core.List.{List, ◌++◌}
use Prim.Native.Nat.{ℕ, ◌-◌, ◌*◌}
use native.Mathlib.Omega.{arith}
use lib.IntN.{ℤ}
use lib.ListN.{length, drop, replicate, length-replicate}
use Rattle.std.proofs.lemmas.List.{length-take-le}
use borrow.Author.Tests.{le-ltb}
use Rattle.std.specs.Prelude.{None}
use Rattle.bits.specs.Bits.{bits_read, place_of, held, reader_moved}
use Rattle.bits.specs.Missing.{missing_in}
use Rattle.bits.specs.declared.reader.BitReader.{BitReader}
use Rattle.bits.proofs.Places.{read_place}
use Rattle.srl_decoder.specs.Srl.{Reader, reader, values, reader_after}
use Rattle.srl_decoder.specs.Decode.{opened, decoded}
use Rattle.srl_decoder.specs.Inner.{shut, held_reader, StoresValues}
use Rattle.srl_decoder.specs.declared.SrlState.{SrlState}
use Rattle.srl_decoder.specs.declared.decoder.Stored.{Stored}
use Rattle.srl_decoder.proofs.Missing.{missing_past, values_read_alike}
use Rattle.srl_decoder.proofs.Most.{narrow_replicate, most_read}
use Rattle.srl_decoder.proofs.Values.{opened_shut, reader_held, closed_alike, values_alike, length_values}
use Rattle.srl_decoder.proofs.decoder.store_if_room.Goals as goal

-- where a call ends that stores n values from a state whose place is held
abbrev end : List ℕ → SrlState → ℕ → ℕ → Reader
end s st n w = reader_after s (replicate n w) (held_reader s (opened st))

-- what `store_values` hands back then, and what the output holds
stands : {s : List ℕ} (st : SrlState) {p : BitReader} {n m w : ℕ} {d : Stored} {o : List ℤ} → p ≡ place_of (held s (bits_read st.reader)) → m ≡ n
    → StoresValues s (record { reader = p; kp = st.kp; zero_run_remaining = st.zero_run_remaining; nonzero_pending = st.nonzero_pending }) m w d o
    → (d.state ≡ shut (end s st n w)) × (o ≡ values s (replicate n w) (held_reader s (opened st)))
stands {s} st {w = w} h l e =
    let from = ap (λ (q : BitReader). reader (bits_read q) st.kp st.zero_run_remaining st.nonzero_pending) h ∙ opened_shut (held_reader s (opened st)) in
    (e.state ∙ (λ i. shut (reader_after s (replicate (l i) w) (from i))), e.out ∙ (λ i. values s (replicate (l i) w) (from i)))

pub past_end-requires : goal.past_end-requires
past_end-requires c =
    let s = c.args.src.now in
    let st = c.args.state.now in
    let n = c.args.num_values in
    let w = c.args.num_bits in
    let after = stands st c.hold.ensures (length-take-le n c.args.out.now (omega arith)) c.store_values-stored.ensures in
    let near = most_read s (replicate n w) (held_reader s (opened st)) (narrow_replicate n w (omega arith)) (omega arith) (omega arith) in (
      omega (arith, ap (λ (t : SrlState). t.reader.bit_idx) after.0),
      omega (arith, ap (λ (t : SrlState). bits_read t.reader) after.0, near, length-replicate n w, c.well_formed),
    )

pub returns : goal.returns
returns c =
    let s = c.args.src.now in
    let st = c.args.state.now in
    let n = c.args.num_values in
    let ws = replicate n c.args.num_bits in
    let from = held_reader s (opened st) in
    let held = reader_held s (opened st) in
    let same = values_alike s ws held in
    let room = le-ltb _ _ c.if-out-num_values.false in
    let after = stands st c.hold.ensures (length-take-le n c.args.out.now (omega arith)) c.store_values-stored.ensures in
    let read : bits_read c.store_values-stored.result.state.reader ≡ (end s st n c.args.num_bits).read = ap (λ (t : SrlState). bits_read t.reader) after.0 ∙ read_place _ in
    let missing = c.past_end.ensures ∙ ap (λ (m : ℕ). m - 8 * length s) read ∙ sym (missing_past s ws from (omega arith)) ∙ ap missing_in (values_read_alike s ws held) in
    let moved = c.moved.ensures ∙ ap (reader_moved s st.reader) read in
    record {
      answer = simp room (ap (decoded None n) missing);
      state = simp room
          ((λ i. record { reader = moved i; kp = (after.0 i).kp; zero_run_remaining = (after.0 i).zero_run_remaining; nonzero_pending = (after.0 i).nonzero_pending }) ∙ closed_alike s st same.1);
      out = simp room
          (ap (λ (l : List ℤ). l ++ drop n c.args.out.now) (after.1 ∙ same.0) ∙ ap (λ (m : ℕ). values s ws (opened st) ++ drop m c.args.out.now) (sym (length_values s ws (opened st) ∙ length-replicate n c.args.num_bits)));
    }
