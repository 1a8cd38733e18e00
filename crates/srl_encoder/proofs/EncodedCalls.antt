-- Laws of a call of `encode`, value by value, measured and as a whole, and of the end of a stream. Assumes nothing.
use mathlib.Core.Path.{◌≡◌, refl, ap, sym, ◌∙◌, subst}
use mathlib.Core.Bool.{Bool, true}
use mathlib.Core.List.{List, [], ◌∷◌, ◌++◌, append_assoc, append-nil}
use Prim.Native.Nat.{ℕ, zero, suc, ◌+◌, ◌-◌, ◌≤◌, ◌<◌}
use native.Mathlib.Nat.{zero-add}
use native.Mathlib.Numerals.{add-one}
use native.Mathlib.Omega.{arith}
use lib.Dec.{leb}
use lib.IntN.{ℤ, pos, negsuc, nat_abs}
use lib.ListN.{length, get_or, take, drop, set, length-append, take-append-drop}
use lib.Seq.{sets, take-suc, drop-cons}
use mir.Syntax.{w16}
use mir.Val.{SFits, to_z, of_z}
use mir.ValLaws.{to_z-of_z}
use borrow.Author.Tests.{ltb-true, leb-true}
use Rattle.bits.specs.Written.{pack, after}
use Rattle.bits.specs.Inner.{Sound, write, pad_count, pad_out, counted, settled, settled_out, SoundWord, word_of}
use Rattle.bits.specs.declared.writer.BitWriter.{BitWriter}
use Rattle.bits.proofs.Puts.{after_sound}
use Rattle.bits.proofs.Packed.{write_whole, after_whole_lem, count_after_lem, counted_two, sets_append, pad_count_lem, pad_out_lem}
use Rattle.bits.proofs.Words.{words_none, words_then, words_renamed, word_of_lem}
use Rattle.fixed.specs.Fixed.{is_negative}
use Rattle.std.specs.Prelude.{None}
use Rattle.answer.specs.declared.Refusal.TheVariants.{ZeroRunTooLong}
use Rattle.answer.specs.Answers.{first_of}
use Rattle.answer.proofs.Refusing.{first_none, passes}
use Rattle.srl_encoder.specs.Encode.{run_bits, nonzero_bits, value_bits, value_kp, value_zeros, call_bits, call_kp, call_zeros, sink, bits_from, call_bytes, call_after, value_fault, fault, writer_ok}
use Rattle.srl_encoder.specs.Finish.{flush, finish_bytes}
use Rattle.srl_encoder.specs.Inner.{call_start, measure_start, call_done, value_measure, call_count, WroteNonzero, WroteValues, WroteCall, WroteEnd, flushed, flushed_out, GoodMeasure, GoodWriter}
use Rattle.srl_encoder.specs.declared.SrlWriter.{SrlWriter}
use Rattle.srl_encoder.specs.declared.encoder.CallState.{CallState}
use Rattle.srl_encoder.specs.declared.encoder.Measured.{Measured}
use Rattle.srl_encoder.proofs.EncodedValues.{nonzero_value, value_kp_lem, value_zeros_lem, unsigned, measure_unsigned}
use Rattle.srl_rules.proofs.Widths.{both}

-- what the test of a state says
pub writer_ok_good : (st : SrlWriter) → writer_ok st ≡ true → GoodWriter st
writer_ok_good st h =
    let k = both (leb st.kp 80) _ h in
    let b = both (leb st.bit_count 7) _ k.1 in
    let z = both (leb st.pending_zeros 4096) _ b.1 in
    ((leb-true _ _ b.0, ltb-true _ _ z.1), leb-true _ _ k.0, leb-true _ _ z.0)

-- ════ value by value ════

-- values in a row: their bits, and what they leave
pub call_append : (w kp z : ℕ) (us vs : List ℤ)
    → (call_bits w kp z (us ++ vs) ≡ call_bits w kp z us ++ call_bits w (call_kp kp z us) (call_zeros z us) vs)
    × (call_kp kp z (us ++ vs) ≡ call_kp (call_kp kp z us) (call_zeros z us) vs)
    × (call_zeros z (us ++ vs) ≡ call_zeros (call_zeros z us) vs)
call_append w kp z [] vs = (refl, refl, refl)
call_append w kp z (u ∷ us) vs =
    let r = call_append w (value_kp kp z u) (value_zeros z u) us vs in
    let k = value_kp kp z u in
    let y = value_zeros z u in
    (ap (λ l. value_bits w kp z u ++ l) r.0 ∙ sym (append_assoc (value_bits w kp z u) (call_bits w k y us) (call_bits w (call_kp k y us) (call_zeros y us) vs)), r.1, r.2)

-- no values are written
pub wrote_none : (w : ℕ) (out : List ℕ) (c : CallState) → SoundWord c.sink → WroteValues w out c [] c out
wrote_none w out c s = record { bits = words_none out c.sink s; kp = refl; zeros = refl }

-- a nonzero value was written by its magnitude and its sign
pub wrote_nonzero : (w : ℕ) (out : List ℕ) (c : CallState) (v : ℤ) {m : ℕ} {b : Bool} {d : CallState} {o : List ℕ} → m ≡ nat_abs v → (m ≡ 0 → ⊥) → b ≡ is_negative v
    → WroteNonzero w out c m b d o → WroteValues w out c (v ∷ []) d o
wrote_nonzero w out c v {m = m} e n q r =
    let nz = nonzero_value v w c.kp c.zeros m e n in
    let run = run_bits (suc c.zeros) c.kp c.zeros in
    record {
      bits = words_renamed out c.sink (ap (λ x. run ++ nonzero_bits w x (m - 1)) q ∙ sym nz.0 ∙ sym (append-nil (value_bits w c.kp c.zeros v))) r.bits;
      kp = r.kp ∙ sym nz.1;
      zeros = r.zeros ∙ sym nz.2;
    }

-- a zero was counted
pub wrote_zero : (w : ℕ) (out : List ℕ) (c : CallState) (v : ℤ) {d : CallState} → SoundWord c.sink → v ≡ pos 0 → d ≡ record { sink = c.sink; kp = c.kp; zeros = c.zeros + 1 }
    → WroteValues w out c (v ∷ []) d out
wrote_zero w out c v s q e = rw (q, e) (record { bits = words_none out c.sink s; kp = refl; zeros = refl })

-- values written in a row
pub wrote_then : (w : ℕ) (out : List ℕ) (c : CallState) (us vs : List ℤ) {d e : CallState} {o p : List ℕ} → WroteValues w out c us d o → WroteValues w o d vs e p
    → WroteValues w out c (us ++ vs) e p
wrote_then w out c us vs {d = d} {e = e} {o = o} {p = p} a b =
    let r = call_append w c.kp c.zeros us vs in
    let k = call_bits w c.kp c.zeros us in
    let rest : call_bits w d.kp d.zeros vs ≡ call_bits w (call_kp c.kp c.zeros us) (call_zeros c.zeros us) vs = ap (λ x. call_bits w x d.zeros vs) a.kp ∙ ap (λ x. call_bits w (call_kp c.kp c.zeros us) x vs) a.zeros in
    record {
      bits = words_renamed out c.sink (ap (λ l. k ++ l) rest ∙ sym r.0) (words_then out c.sink k (call_bits w d.kp d.zeros vs) a.bits b.bits);
      kp = b.kp ∙ ap (λ x. call_kp x d.zeros vs) a.kp ∙ ap (λ x. call_kp (call_kp c.kp c.zeros us) x vs) a.zeros ∙ sym r.1;
      zeros = b.zeros ∙ ap (λ x. call_zeros x vs) a.zeros ∙ sym r.2;
    }

-- one value more
pub wrote_next : (w : ℕ) (out : List ℕ) (c : CallState) (vs : List ℤ) (i : ℕ) {d e : CallState} {o p : List ℕ} → i < length vs → SFits w16 (get_or vs i (pos 0))
    → WroteValues w out c (take i vs) d o → WroteValues w o d (to_z w16 (of_z w16 (get_or vs i (pos 0))) ∷ []) e p → WroteValues w out c (take (i + 1) vs) e p
wrote_next w out c vs i {d = d} {e = e} {o = o} {p = p} l f a b =
    let v = get_or vs i (pos 0) in
    let more : take i vs ++ (v ∷ []) ≡ take (i + 1) vs = rw add-one (sym (take-suc vs i (pos 0) l)) in
    subst (λ us. WroteValues w out c us e p) more
    (wrote_then w out c (take i vs) (v ∷ []) a (subst (λ u. WroteValues w o d (u ∷ []) e p) (to_z-of_z w16 v f) b))

-- what a value leaves
pub wrote_good : (w : ℕ) (out : List ℕ) (c : CallState) {v : ℤ} {d : CallState} {o : List ℕ} → WroteValues w out c (v ∷ []) d o → c.kp ≤ 80 → (d.kp ≤ 80) × (d.zeros ≤ c.zeros + 1)
wrote_good w out c {v = v} a h = (rw a.kp (value_kp_lem c.kp c.zeros v h), rw a.zeros (value_zeros_lem c.zeros v))

-- values written from the same state by another name
pub wrote_from : (w : ℕ) (out : List ℕ) (vs : List ℤ) {c e d : CallState} {o : List ℕ} → c ≡ e → WroteValues w out c vs d o → WroteValues w out e vs d o
wrote_from w out vs {d = d} {o = o} q r = subst (λ x. WroteValues w out x vs d o) q r

-- the first i of some values have no more bits than all
pub call_part : (w kp z i : ℕ) (vs : List ℤ) → length (call_bits w kp z (take i vs)) ≤ length (call_bits w kp z vs)
call_part w kp z i vs =
    let us = take i vs in
    let r = (call_append w kp z us (drop i vs)).0 in
    omega (arith, ap (λ l. length (call_bits w kp z l)) (take-append-drop i vs), ap length r, length-append (call_bits w kp z us) (call_bits w (call_kp kp z us) (call_zeros z us) (drop i vs)))

-- the bytes measured of one value and then the others
pub count_step : (w : ℕ) (p : Measured) (v : ℤ) (vs : List ℤ) → call_count w p (v ∷ vs) ≡ call_count w (value_measure w p v) vs
count_step w p v vs =
    let a = value_bits w p.kp p.zeros v in
    let b = call_bits w (value_kp p.kp p.zeros v) (value_zeros p.zeros v) vs in
    ap (λ n. (counted p.place n).at) (length-append a b) ∙ ap (λ x. x.at) (sym (counted_two p.place (length a) (length b)))

-- no values complete no byte
pub count_none : (w : ℕ) (p : Measured) → p.place.bit_count ≤ 7 → call_count w p [] ≡ p.place.at
count_none w p h = omega arith

-- values lose no byte that was measured before
pub count_mono : (w : ℕ) (p : Measured) (vs : List ℤ) → p.place.at ≤ call_count w p vs
count_mono w p vs = omega arith

-- one value, by its magnitude: those from there on, and those behind it
pub count_next : (w : ℕ) (p : Measured) (vs : List ℤ) (i : ℕ) {m : ℕ} {q : Measured} → i < length vs → SFits w16 (get_or vs i (pos 0)) → m ≡ nat_abs (to_z w16 (of_z w16 (get_or vs i (pos 0)))) → q ≡ value_measure w p (pos m)
    → call_count w p (drop i vs) ≡ call_count w q (drop (i + 1) vs)
count_next w p vs i l f e h =
    let v = get_or vs i (pos 0) in
    let next = h ∙ ap (λ n. value_measure w p (pos n)) (e ∙ ap nat_abs (to_z-of_z w16 v f)) ∙ sym (measure_unsigned w p v) in
    rw add-one (ap (call_count w p) (drop-cons vs i (pos 0) l) ∙ count_step w p v (drop (suc i) vs) ∙ ap (λ x. call_count w x (drop (suc i) vs)) (sym next))

-- what is measured after it is good again, and at most one zero more is pending
pub measured_good : (w : ℕ) (p : Measured) (m : ℕ) {q : Measured} → q ≡ value_measure w p (pos m) → GoodMeasure p → GoodMeasure q × (q.zeros ≤ p.zeros + 1)
measured_good w p m e g = rw e ((omega arith, value_kp_lem p.kp p.zeros (pos m) g.1), value_zeros_lem p.zeros (pos m))

-- ════ a whole call ════

-- the bytes that the writer counts are those of `call_bytes`
pub call_sink : (w : ℕ) (st : SrlWriter) (vs : List ℤ) → (after (sink st) (bits_from w st vs)).at ≡ length (call_bytes w st vs)
call_sink w st vs =
    after_whole_lem (bits_from w st vs) 0 st.current st.bit_count ∙ zero-add (length (call_bytes w st vs))

-- the bytes that are measured are those of `call_bytes`
pub call_count_lem : (w : ℕ) (st : SrlWriter) (vs : List ℤ) → st.bit_count ≤ 7 → call_count w (measure_start st) vs ≡ length (call_bytes w st vs)
call_count_lem w st vs h = sym (ap (λ p. p.at) (count_after_lem (sink st) (bits_from w st vs) h)) ∙ call_sink w st vs

-- the values are written from a state on: k is the writer then, o the output with the whole bytes that waited
pub call_wrote : (w : ℕ) (out : List ℕ) (st : SrlWriter) (vs : List ℤ) {c d : CallState} {k : BitWriter} {o p : List ℕ} → Sound (sink st) → c ≡ call_start st
    → WroteValues w out c vs d o → k ≡ settled d.sink → p ≡ settled_out o d.sink → WroteCall w out st vs (call_done d k) p
call_wrote w out st vs {d = d} {k = k} {o = o} h e r s t =
    let v = wrote_from w out vs e r in
    let f = word_of_lem out (sink st) h in
    let bs = bits_from w st vs in
    let is : k ≡ after (sink st) bs = s ∙ v.bits.writer ∙ ap (λ x. after x bs) f.0 in
    record {
      count = ap (λ x. x.at) is ∙ call_sink w st vs;
      state = λ i. record { kp = v.kp i; pending_zeros = v.zeros i; current = (is i).current; bit_count = (is i).bit_count };
      out = t ∙ v.bits.out ∙ ap (λ x. write x (settled (word_of (sink st))) bs) f.1 ∙ ap (λ x. write out x bs) f.0
          ∙ write_whole bs out 0 st.current st.bit_count;
    }

-- ════ the state after a call whose values cause no refusal ════

call_kp_lem : (kp z : ℕ) (vs : List ℤ) → kp ≤ 80 → call_kp kp z vs ≤ 80
call_kp_lem kp z [] h = h
call_kp_lem kp z (v ∷ vs) h = call_kp_lem (value_kp kp z v) (value_zeros z v) vs (value_kp_lem kp z v h)

-- a value that causes no refusal leaves at most 4,096 zeros pending
pub value_few : (w z : ℕ) (v : ℤ) → z ≤ 4096 → value_fault w z v ≡ None → value_zeros z v ≤ 4096
value_few w z (pos zero) h e = omega (arith, passes z 4096 ZeroRunTooLong e)
value_few w z (pos (suc m)) h e = omega arith
value_few w z (negsuc m) h e = omega arith

call_few : (w z : ℕ) (vs : List ℤ) → z ≤ 4096 → fault w z vs ≡ None → call_zeros z vs ≤ 4096
call_few w z [] h e = h
call_few w z (v ∷ vs) h e =
    let f = first_none (value_fault w z v) (fault w (value_zeros z v) vs) e in
    call_few w (value_zeros z v) vs (value_few w z v h f.0) f.1

-- the refusal from a value on that causes none, by its magnitude: that of those behind it
pub fault_next : (w z : ℕ) (vs : List ℤ) (i : ℕ) {m y : ℕ} → i < length vs → SFits w16 (get_or vs i (pos 0)) → m ≡ nat_abs (to_z w16 (of_z w16 (get_or vs i (pos 0))))
    → value_fault w z (pos m) ≡ None → y ≡ value_zeros z (pos m) → fault w z (drop i vs) ≡ fault w y (drop (i + 1) vs)
fault_next w z vs i l f e none h =
    let v = get_or vs i (pos 0) in
    let rest = drop (suc i) vs in
    let m = e ∙ ap nat_abs (to_z-of_z w16 v f) in
    let u = unsigned w z v in
    rw add-one
    (ap (fault w z) (drop-cons vs i (pos 0) l)
    ∙ ap (λ x. first_of x (fault w (value_zeros z v) rest)) (u.0 ∙ ap (λ m. value_fault w z (pos m)) (sym m) ∙ none)
    ∙ ap (λ x. fault w x rest) (u.1 ∙ ap (λ m. value_zeros z (pos m)) (sym m) ∙ sym h))

-- it is good again
pub call_good : (w : ℕ) (st : SrlWriter) (vs : List ℤ) → GoodWriter st → fault w st.pending_zeros vs ≡ None → GoodWriter (call_after w st vs)
call_good w st vs g e = (
  after_sound (sink st) (bits_from w st vs) g.0,
  call_kp_lem st.kp st.pending_zeros vs g.1,
  call_few w st.pending_zeros vs g.2 e,
)

-- ════ the end of a stream ════

-- the pending run, the padding and a byte 0 behind the bits that wait are `finish_bytes`
pub end_out : (st : SrlWriter) (out : List ℕ) {c : CallState} {n : ℕ} {o : List ℕ} → Sound (sink st) → c ≡ call_start st → WroteEnd out c n o → o ≡ sets out 0 (finish_bytes st)
end_out st out {n = n} {o = o} h e r =
    let f = flush st.kp st.pending_zeros in
    let v : WroteEnd out (call_start st) n o = subst (λ x. WroteEnd out x n o) e r in
    let s = word_of_lem out (sink st) h in
    let bytes = pack st.current st.bit_count f in
    let k : flushed (call_start st) ≡ after (sink st) f = ap (λ x. after x f) s.0 in
    let y : pad_out (flushed_out out (call_start st)) (flushed (call_start st)) ≡ sets out 0 bytes =
    ap (λ x. pad_out (write x (settled (word_of (sink st))) f) (flushed (call_start st))) s.1
    ∙ ap (λ x. pad_out (write out x f) (after x f)) s.0
    ∙ pad_out_lem f out 0 st.current st.bit_count in
    let x : pad_count (flushed (call_start st)) ≡ 0 + length bytes = ap pad_count k ∙ pad_count_lem f out 0 st.current st.bit_count in
    v.out ∙ ap (λ l. set l (pad_count (flushed (call_start st))) 0) y ∙ ap (λ i. set (sets out 0 bytes) i 0) x ∙ sym (sets_append bytes (0 ∷ []) out 0)
