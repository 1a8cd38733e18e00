-- The round trip: what calls of `encode` and `finish` wrote is read back by calls of `decode`, however both sides split the values, and no bit of it is missing.
use mathlib.Core.Path.{◌≡◌, refl, sym, ap, ap₂, ◌∙◌, subst}
use mathlib.Core.Bool.{Bool, true, false, ◌||◌}
use mathlib.Core.List.{List, [], ◌∷◌, ◌++◌, append_assoc, append-nil}
use Prim.Native.Nat.{ℕ, zero, suc, ◌+◌, ◌-◌, ◌*◌, ◌^◌, ◌≤◌, ◌<◌}
use native.Mathlib.Decide.{dec_lt}
use native.Mathlib.Omega.{arith}
use borrow.Author.Tests.{lt-ltb, le-ltb}
use lib.IntN.{ℤ, pos, negsuc, nat_abs}
use lib.ListN.{length, replicate, length-replicate, drop_of_length-le}
use lib.Pow.{pow_pos}
use Rattle.bits.specs.Bits.{bits_read, reader_moved, held}
use Rattle.bits.specs.Missing.{missing_in}
use Rattle.bits.specs.Written.{pack}
use Rattle.bits.proofs.Past.{same, past, alike_held}
use Rattle.bits.proofs.Places.{read_place}
use Rattle.srl_decoder.specs.Srl.{Reader, reader, start, values, reader_after}
use Rattle.srl_decoder.specs.Missing.{read_values, values_missing}
use Rattle.srl_decoder.specs.Decode.{start_state, opened, closed, state_after, state_ok, decode_refusal, decoded, decode_state, decode_out, decoded_missing}
use Rattle.std.specs.Prelude.{Option, None}
use Rattle.answer.specs.declared.Refusal.{Refusal}
use Rattle.answer.specs.declared.Refusal.TheVariants.{InvalidBitCount, MagnitudeOutOfRange}
use Rattle.answer.specs.Answers.{unless, first_of, unless_refused, stored}
use Rattle.answer.proofs.Refusing.{first_none, passes, room_for}
use Rattle.srl_rules.specs.Rules.{width_ok}
use Rattle.srl_encoder.specs.Encode.{value_bits, value_kp, value_zeros, call_bits, call_kp, call_zeros, call_bytes, call_after, fresh_writer, value_fault, fault}
use Rattle.srl_encoder.specs.Finish.{stream_bits}
use Rattle.srl.specs.Laws.{Legal, legal, EncodeCall, Ask, Accepted, stream_from, given, widths, asked, room, read_back, RoundTrip}
use Rattle.srl.specs.Missing.{answer_to, Granted, missed_back, Fine, fine}
use Rattle.srl_decoder.specs.declared.SrlState.{SrlState}
use Rattle.srl_encoder.specs.declared.SrlWriter.{SrlWriter}
use Rattle.srl.proofs.Streamed.{all_bits_of, stream_packed, accepted}
use Rattle.srl_decoder.proofs.States.{after_mono, closed_ok}
use Rattle.srl_decoder.proofs.Missing.{missing_past, missing_in_a_row, values_read_alike}
use Rattle.srl.proofs.Trip.{ReadBack, stream_back}
use Rattle.srl_decoder.proofs.Values.{AlikeReader, alike, reader_trans, values_alike, values_append, length_values}

-- ════ accepted calls ════

-- a value that the encoder does not refuse is legal at its width
value_legal : (w z : ℕ) (v : ℤ) → value_fault w z v ≡ None → nat_abs v < 2 ^ w
value_legal w z (pos zero) e = pow_pos w
value_legal w z (pos (suc m)) e = omega (arith, passes m (2 ^ w - 1) MagnitudeOutOfRange e)
value_legal w z (negsuc m) e = omega (arith, passes m (2 ^ w - 1) MagnitudeOutOfRange e)

call_legal : (w z : ℕ) (vs : List ℤ) {ws : List ℕ} {us : List ℤ} → fault w z vs ≡ None → Legal ws us → Legal (replicate (length vs) w ++ ws) (vs ++ us)
call_legal w z [] e l = l
call_legal w z (v ∷ vs) e l =
    let f = first_none (value_fault w z v) (fault w (value_zeros z v) vs) e in
    legal (value_legal w z v f.0) (call_legal w (value_zeros z v) vs f.1 l)

calls_legal : (st : SrlWriter) (cs : List EncodeCall) → Accepted st cs → Legal (widths cs) (given cs)
calls_legal st [] a = Legal.none
calls_legal st (c ∷ cs) a =
    let t = accepted st c.given (length (call_bytes c.width st c.given)) c.width a.0 in
    call_legal c.width st.pending_zeros c.given t.2 (calls_legal (call_after c.width st c.given) cs a.1)

-- ════ the bits of calls are those of their values ════

call_stream : (w kp z : ℕ) (vs : List ℤ) (ws : List ℕ) (us : List ℤ)
    → stream_bits kp z (replicate (length vs) w ++ ws) (vs ++ us) ≡ call_bits w kp z vs ++ stream_bits (call_kp kp z vs) (call_zeros z vs) ws us
unfolding stream_bits
call_stream w kp z [] ws us = refl
call_stream w kp z (v ∷ vs) ws us =
    ap (λ (bs : List Bool). value_bits w kp z v ++ bs) (call_stream w (value_kp kp z v) (value_zeros z v) vs ws us)
    ∙ sym (append_assoc (value_bits w kp z v) (call_bits w (value_kp kp z v) (value_zeros z v) vs) (stream_bits (call_kp kp z (v ∷ vs)) (call_zeros z (v ∷ vs)) ws us))

calls_stream : (kp z : ℕ) (cs : List EncodeCall) → all_bits_of kp z cs ≡ stream_bits kp z (widths cs) (given cs)
unfolding stream_bits
calls_stream kp z [] = refl
calls_stream kp z (c ∷ cs) =
    ap (λ (bs : List Bool). call_bits c.width kp z c.given ++ bs) (calls_stream (call_kp kp z c.given) (call_zeros z c.given) cs)
    ∙ sym (call_stream c.width kp z c.given (widths cs) (given cs))

-- ════ all values, read one by one ════

-- the values of calls that were all accepted, read one by one from the stream that they wrote, are those that were given, and no bit past its end is read
pub stream_reads : (cs : List EncodeCall) → Accepted fresh_writer cs → ReadBack (stream_from fresh_writer cs) (widths cs) start (given cs) (8 * length (stream_from fresh_writer cs))
stream_reads cs a =
    stream_back (calls_legal fresh_writer cs a) (stream_from fresh_writer cs) (stream_packed fresh_writer cs ∙ ap (λ (bits : List Bool). pack 0 0 bits ++ (0 ∷ [])) (calls_stream 8 0 cs))

-- ════ and by calls ════

fine_call : (w n : ℕ) {ws : List ℕ} → width_ok w ≡ true → Fine ws → Fine (replicate n w ++ ws)
fine_call w zero h f = f
fine_call w (suc n) h f = fine h (fine_call w n h f)

calls_fine : (st : SrlWriter) (cs : List EncodeCall) → Accepted st cs → Fine (widths cs)
calls_fine st [] a = Fine.none
calls_fine st (c ∷ cs) a =
    let t = accepted st c.given (length (call_bytes c.width st c.given)) c.width a.0 in
    fine_call c.width (length c.given) t.1 (calls_fine (call_after c.width st c.given) cs a.1)

fine_rest : (w n : ℕ) {ws : List ℕ} → Fine (replicate n w ++ ws) → Fine ws
fine_rest w zero f = f
fine_rest w (suc n) (fine h f) = fine_rest w n f

-- no call is refused: its width is fine, or it asks for nothing
no_refusal : (s : List ℕ) (st : SrlState) (w n : ℕ) (ws : List ℕ) → state_ok st ≡ true → Fine (replicate n w ++ ws) → decode_refusal s st n n w ≡ None
no_refusal s st w zero ws h f = simp h (by (width_ok w))
  where
    by : (b : Bool) → first_of (unless (b || true) InvalidBitCount) None ≡ None
    by true = refl
    by false = refl
no_refusal s st w (suc n) ws h (fine g f) = simp (h, g) (room_for (suc n))

-- what it stores
out_is : (s : List ℕ) (st : SrlState) (a : Ask) → decode_refusal s st a.count a.count a.width ≡ None
    → decode_out s st (room a) a.count a.width ≡ values s (replicate a.count a.width) (opened st)
out_is s st a e =
    let vs = values s (replicate a.count a.width) (opened st) in
    let l : length (room a) ≡ a.count = length-replicate a.count (pos 0) in
    let n : length vs ≡ a.count = length_values s (replicate a.count a.width) (opened st) ∙ length-replicate a.count a.width in
    ap (λ (k : Option Refusal). stored k vs (room a)) (ap (λ (m : ℕ). decode_refusal s st m a.count a.width) l ∙ e)
    ∙ ap (λ (t : List ℤ). vs ++ t) (drop_of_length-le (room a) {i = length vs} (omega (arith, l, n)))
    ∙ append-nil vs

-- the state after it
next_state : (s : List ℕ) (st : SrlState) (a : Ask) → decode_refusal s st a.count a.count a.width ≡ None → decode_state s st a.count a.count a.width ≡ state_after s st a.count a.width
next_state s st a e = ap (λ (k : Option Refusal). unless_refused k (state_after s st a.count a.width) st) e

-- a state that was handed back reads on as the reader that it was made of
closed_alike : (s : List ℕ) (st : SrlState) (r : Reader) → (opened st).read ≤ r.read → AlikeReader s (opened (closed s st r)) r
closed_alike s st r h = by (dec_lt st.reader.byte_idx (length s))
  where
    by : Dec (st.reader.byte_idx < length s) → AlikeReader s (opened (closed s st r)) r
    by (yes l) =
        let e : bits_read (reader_moved s st.reader r.read) ≡ held s r.read = ap bits_read (simp (lt-ltb _ _ l)) ∙ read_place (held s r.read) in
        subst (λ (n : ℕ). AlikeReader s (reader n r.kp r.run r.pending) r) (sym e) (alike (alike_held s r.read))
    by (no l) =
        let e : bits_read (reader_moved s st.reader r.read) ≡ bits_read st.reader = ap bits_read (simp (le-ltb st.reader.byte_idx (length s) (omega arith))) in
        subst (λ (n : ℕ). AlikeReader s (reader n r.kp r.run r.pending) r) (sym e) (alike (past (omega arith) (omega arith)))

-- calls in a row whose widths are fine are accepted
pub granted : (s : List ℕ) (st : SrlState) (asks : List Ask) → state_ok st ≡ true → Fine (asked asks) → Granted s st asks
granted s st [] h f = tt
granted s st (a ∷ asks) h f =
    let e = no_refusal s st a.width a.count (asked asks) h f in
    (e, subst (λ (q : SrlState). Granted s q asks) (sym (next_state s st a e)) (granted s (state_after s st a.count a.width) asks (closed_ok s st (replicate a.count a.width) h) (fine_rest a.width a.count f)))

-- calls in a row that are accepted store the values that a reader gives which reads on as their state does, and miss the bits that it misses
pub back_reads : (s : List ℕ) (asks : List Ask) (st : SrlState) (r : Reader) → Granted s st asks → AlikeReader s (opened st) r
    → (read_back s st asks ≡ values s (asked asks) r) × (missed_back s st asks ≡ values_missing s (asked asks) r)
unfolding values read_values missing_in
back_reads s [] st r g k = (refl, refl)
back_reads s (a ∷ asks) st r g k =
    let ws = replicate a.count a.width in
    let e = g.0 in
    let v = values_alike s ws k in
    let next = next_state s st a e in
    let after = reader_after s ws (opened st) in
    let m : decoded_missing (answer_to s st a) ≡ values_missing s ws r =
    ap (λ (n : Option Refusal). decoded_missing (decoded n a.count (values_missing s ws (opened st)))) e ∙ ap missing_in (values_read_alike s ws k)
    in
    let ih = back_reads s asks (closed s st after) (reader_after s ws r) (subst (λ (q : SrlState). Granted s q asks) next g.1)
    (reader_trans s (closed_alike s st after (after_mono s ws (opened st))) v.1) in (
      ap₂ (λ (x y : List ℤ). x ++ y) (out_is s st a e ∙ v.0) (ap (λ (t : SrlState). read_back s t asks) next ∙ ih.0) ∙ sym (values_append s ws (asked asks) r),
      ap₂ (λ (x y : ℕ). x + y) m (ap (λ (t : SrlState). missed_back s t asks) next ∙ ih.1) ∙ sym (missing_in_a_row s ws (asked asks) r),
    )

-- both of the calls that read back what was written
pub calls_back : (cs : List EncodeCall) (asks : List Ask) → Accepted fresh_writer cs → asked asks ≡ widths cs
    → (read_back (stream_from fresh_writer cs) start_state asks ≡ given cs) × (missed_back (stream_from fresh_writer cs) start_state asks ≡ 0)
calls_back cs asks a e =
    let s = stream_from fresh_writer cs in
    let r = back_reads s asks start_state start (granted s start_state asks refl (subst Fine (sym e) (calls_fine fresh_writer cs a))) (alike (same refl)) in
    let w = stream_reads cs a in
    (r.0 ∙ ap (λ (ws : List ℕ). values s ws start) e ∙ w.gives, r.1 ∙ ap (λ (ws : List ℕ). values_missing s ws start) e ∙ omega (arith, missing_past s (widths cs) start (omega arith), w.ends))

-- the round trip, however both sides split the values into calls
pub trip : RoundTrip
trip = record { back = λ cs asks a e. (calls_back cs asks a e).0 }
