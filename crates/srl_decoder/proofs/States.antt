-- The decoder's public state: what its test says, and that a state which is handed back passes it.
use mathlib.Core.Path.{◌≡◌}
use mathlib.Core.Bool.{Bool, true, false, cond}
use mathlib.Core.List.{List, [], ◌∷◌}
use Prim.Native.Nat.{ℕ, zero, suc, ◌≤◌}
use native.Mathlib.Omega.{arith}
use lib.Dec.{leb, ltb}
use lib.ListN.{length}
use borrow.Author.Tests.{leb-true, le-leb}
use Rattle.bits.specs.Bits.{place_of, reader_moved, held}
use Rattle.bits.specs.declared.reader.BitReader.{BitReader}
use Rattle.srl_decoder.specs.Srl.{Reader, readied, past, next_reader, reader_after}
use Rattle.srl_decoder.specs.Decode.{opened, closed, state_ok}
use Rattle.srl_decoder.specs.declared.SrlState.{SrlState}
use Rattle.srl_rules.proofs.Widths.{both}
use Rattle.srl_decoder.proofs.Codes.{ready_near, ready_mono, ready_short, past_kp}

-- what the test of a state says
pub state_ok_sound : (st : SrlState) → state_ok st ≡ true → (st.reader.bit_idx ≤ 7) × (st.kp ≤ 80) × (st.zero_run_remaining ≤ 1024)
state_ok_sound st h =
    let k = both (leb st.kp 80) _ h in
    let b = both (leb st.reader.bit_idx 7) _ k.1 in
    (leb-true _ _ b.0, leb-true _ _ k.0, leb-true _ _ b.1)

-- ════ a state that is handed back ════

-- the count of bits read only grows
pub past_mono : (s : List ℕ) (w : ℕ) (r : Reader) → r.read ≤ (past s w r.read r.kp r.run r.pending).read
past_mono s w r = by r.run
  where
    by : (run : ℕ) → r.read ≤ (past s w r.read r.kp run r.pending).read
    by zero = omega arith
    by (suc run) = omega arith

-- a reader does not go back over some values
pub after_mono : (s ws : List ℕ) (r : Reader) → r.read ≤ (reader_after s ws r).read
unfolding reader_after
after_mono s [] r = omega arith
after_mono s (w ∷ ws) r = omega (arith, ready_mono s r.read r.kp r.run r.pending, past_mono s w (readied s r), after_mono s ws (next_reader s w r))

-- kp and the run keep their bounds
Bounded : Reader → Type 0
Bounded r = (r.kp ≤ 80) × (r.run ≤ 1024)

past_run : (s : List ℕ) (w : ℕ) (r : Reader) → r.run ≤ 1024 → (past s w r.read r.kp r.run r.pending).run ≤ 1024
past_run s w r = by r.run
  where
    by : (run : ℕ) → run ≤ 1024 → (past s w r.read r.kp run r.pending).run ≤ 1024
    by zero h = h
    by (suc run) h = omega arith

after_bounded : (s ws : List ℕ) (r : Reader) → Bounded r → Bounded (reader_after s ws r)
unfolding reader_after Bounded
after_bounded s [] r h = h
after_bounded s (w ∷ ws) r h =
    let k = (ready_near s r.read r.kp r.run r.pending h.0).kp_low in
    let z = ready_short s r.read r.kp r.run r.pending h.0 h.1 in
    after_bounded s ws (next_reader s w r) (past_kp s w (readied s r) k, past_run s w (readied s r) z)

place_bit : (s : List ℕ) (r : BitReader) (n : ℕ) → r.bit_idx ≤ 7 → (reader_moved s r n).bit_idx ≤ 7
place_bit s r n h = by (ltb r.byte_idx (length s))
  where
    by : (b : Bool) → (cond b (place_of (held s n)) r).bit_idx ≤ 7
    by true = omega arith
    by false = h

-- the state after some values passes the test
pub closed_ok : (s : List ℕ) (st : SrlState) (ws : List ℕ) → state_ok st ≡ true → state_ok (closed s st (reader_after s ws (opened st))) ≡ true
unfolding Bounded
closed_ok s st ws h =
    let g = state_ok_sound st h in
    let b = after_bounded s ws (opened st) (g.1, g.2) in
    simp (le-leb _ _ b.0, le-leb _ _ (place_bit s st.reader (reader_after s ws (opened st)).read g.0), le-leb _ _ b.1)
