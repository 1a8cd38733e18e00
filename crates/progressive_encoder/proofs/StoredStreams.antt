-- Laws of storing both streams: events and numbers one by one, and then the ends. Assumes nothing.
use mathlib.Core.Path.{◌≡◌, refl, ap, sym, ◌∙◌, subst}
use mathlib.Core.Bool.{Bool}
use mathlib.Core.List.{List, [], ◌∷◌, ◌++◌}
use Prim.Native.Nat.{ℕ, suc, ◌+◌, ◌≤◌, ◌<◌}
use native.Mathlib.Nat.{zero-add}
use native.Mathlib.Omega.{arith}
use lib.IntN.{ℤ}
use lib.ListN.{length, get_or, set, take, length-append}
use lib.Seq.{sets, length-take-le}
use Rattle.bits.specs.Written.{bits_of, writer, after, pack}
use Rattle.bits.specs.Inner.{write, pad_count, pad_out, settled, settled_out, SoundWord, WroteWords}
use Rattle.bits.specs.declared.writer.BitWriter.{BitWriter}
use Rattle.bits.specs.declared.writer.WordWriter.{WordWriter}
use Rattle.bits.proofs.Puts.{after_append, write_append}
use Rattle.bits.proofs.Packed.{padded, sets_append}
use Rattle.bits.proofs.Words.{words_none, words_then, words_renamed}
use Rattle.srl_encoder.specs.Finish.{flush, stream_bits}
use Rattle.srl_encoder.specs.Inner.{flushed, flushed_out, WroteEnd}
use Rattle.srl_encoder.specs.declared.encoder.CallState.{CallState}
use Rattle.srl_encoder.proofs.Runs.{run_kp_le}
use Rattle.progressive_encoder.specs.Encode.{srl_stream}
use Rattle.progressive_encoder.specs.Inner.{Lists, held, number_of, number_width_of, number_bits, event_zeros, Event, event_bits, event_kp, events_then, events_kp, events_bits, Looked, FoundAll, fresh_sink, StoresEvent, StoresEvents, StoresSrl, StoresRaw}
use Rattle.progressive_encoder.proofs.StreamLengths.{number_more, event_more, event_kp_lem, event_small, stream_some, stream_none, found_bits, found_none, found_some}

-- nothing is stored yet
fresh_sound : SoundWord fresh_sink
fresh_sound = (omega arith, omega arith)

-- ════ numbers ════

pub numbers_none : (l o : List ℕ) → WroteWords o fresh_sink (number_bits (take 0 l)) fresh_sink o
unfolding number_bits
numbers_none l o = words_none o fresh_sink fresh_sound

-- one more
pub numbers_more : (l o : List ℕ) (j : ℕ) → j < length l → {k x : WordWriter} {p q : List ℕ} {m n : ℕ} → m ≡ number_of (get_or l j 0) → n ≡ number_width_of (get_or l j 0)
    → WroteWords o fresh_sink (number_bits (take j l)) k p → WroteWords p k (bits_of n m) x q → WroteWords o fresh_sink (number_bits (take (j + 1) l)) x q
numbers_more l o j h {m = m} {n = n} d e f g =
    words_renamed o fresh_sink ((λ i. number_bits (take j l) ++ bits_of (e i) (d i)) ∙ sym (number_more l j h)) (words_then o fresh_sink (number_bits (take j l)) (bits_of n m) f g)

-- how far a writer has come
pub words_near : (o : List ℕ) (bs : List Bool) {k : WordWriter} {p : List ℕ} → WroteWords o fresh_sink bs k p → k.at ≤ length bs
words_near o bs w = omega (arith, w.near)

-- the end of them
pub raw_stored : (o : List ℕ) (bs : List Bool) {k : WordWriter} {p q : List ℕ} {n : ℕ} → WroteWords o fresh_sink bs k p → n ≡ pad_count (settled k) → q ≡ pad_out (settled_out p k) (settled k) → StoresRaw bs o n q
raw_stored o bs w c d = let r = padded bs o w.writer w.out c d in record { count = r.0; out = r.1 }

-- ════ events ════

pub events_none : (l o : List ℕ) (z : ℕ) → StoresEvents (take 0 l) o (record { sink = fresh_sink; kp = 8; zeros = z }) z o
unfolding events_then events_kp
events_none l o z = record { wrote = words_none o fresh_sink fresh_sound; kp = refl; zeros = refl; low = omega arith; few = omega arith }

-- one more
pub events_more : (l o : List ℕ) (j z : ℕ) → j < length l → Event (get_or l j 0) → {c d : CallState} {p q : List ℕ} → StoresEvents (take j l) o c z p → StoresEvent (get_or l j 0) p c d q → StoresEvents (take (j + 1) l) o d z q
events_more l o j z h e {c = c} f g =
    let xs = take j l in
    let x = get_or l j 0 in
    let size : length xs ≡ j = length-take-le j l (omega arith) in
    let size' : length (take (j + 1) l) ≡ j + 1 = length-take-le (j + 1) l (omega arith) in
    let more = ap (λ (k : ℕ). events_bits xs ++ event_bits k x) f.kp ∙ sym (event_more l j h) in
    let here : length (event_bits c.kp x) ≤ 80000 = event_small c.kp x f.low e in
    record {
      wrote = words_renamed o fresh_sink more (words_then o fresh_sink (events_bits xs) (event_bits c.kp x) f.wrote g.wrote);
      kp = g.kp ∙ ap (λ (k : ℕ). event_kp k x) f.kp ∙ sym (event_kp_lem l j h);
      zeros = g.zeros ∙ f.zeros;
      low = subst (λ (k : ℕ). k ≤ 80) (sym g.kp) (run_kp_le (suc (event_zeros x)) c.kp (event_zeros x) f.low);
      few = omega (arith, ap length more, length-append (events_bits xs) (event_bits c.kp x), here, f.few, size, size');
    }

-- ════ the SRL stream ════

-- its bits are written, k and q are the writer and the output then, n and p what the padding gives, and a byte 0 follows
stream_out_lem : (ws : List ℕ) (vs : List ℤ) (out : List ℕ) {k : BitWriter} {q p : List ℕ} {n : ℕ} → (length vs ≡ 0 → ⊥)
    → k ≡ after (writer 0 0 0) (stream_bits 8 0 ws vs) → q ≡ write out (writer 0 0 0) (stream_bits 8 0 ws vs) → n ≡ pad_count k → p ≡ pad_out q k
    → (n + 1 ≡ length (srl_stream ws vs)) × (set p n 0 ≡ sets out 0 (srl_stream ws vs))
stream_out_lem ws vs out {n = n} h a b c d =
    let bits = stream_bits 8 0 ws vs in
    let bytes = pack 0 0 bits in
    let r = padded bits out a b c d in (
      omega (arith, r.0, length-append bytes (0 ∷ [])) ∙ ap length (sym (stream_some ws vs h)),
      ap (λ l. set l n 0) r.1
          ∙ ap (λ i. set (sets out 0 bytes) i 0) r.0
          ∙ ap (λ i. set (sets out 0 bytes) i 0) (sym (zero-add (length bytes)))
          ∙ sym (sets_append bytes (0 ∷ []) out 0)
          ∙ ap (sets out 0) (sym (stream_some ws vs h)),
    )

-- without a value
pub srl_none : (l : Lists) (y : Looked) (o : List ℕ) → FoundAll l y → y.events.words.count + y.events.zeros ≡ 0 → StoresSrl l o 0 o
srl_none l y o f h =
    let none = stream_none l.widths l.values (found_none l y f h) in
    record { count = sym (ap length none); out = sym (ap (sets o 0) none) }

-- with one: events, and then the end
pub srl_stored : (l : Lists) (y : Looked) (o : List ℕ) → FoundAll l y → y.events.words.count ≤ length y.events.words.list → (y.events.words.count + y.events.zeros ≡ 0 → ⊥)
    → {c : CallState} {p q : List ℕ} {n : ℕ} → StoresEvents (held y.events.words) o c y.events.zeros p → WroteEnd p c n q → StoresSrl l o n q
srl_stored l y o f k h {c = c} {p = p} s e =
    let xs = held y.events.words in
    let bits = events_bits xs in
    let rest = flush c.kp c.zeros in
    let whole : bits ++ rest ≡ stream_bits 8 0 l.widths l.values = (λ i. bits ++ flush (s.kp i) (s.zeros i)) ∙ sym (found_bits l y f) in
    let a : flushed c ≡ after (writer 0 0 0) (stream_bits 8 0 l.widths l.values) =
    ap (λ (w : BitWriter). after w rest) s.wrote.writer ∙ sym (after_append (writer 0 0 0) bits rest) ∙ ap (after (writer 0 0 0)) whole in
    let b : flushed_out p c ≡ write o (writer 0 0 0) (stream_bits 8 0 l.widths l.values) =
    (λ i. write (s.wrote.out i) (s.wrote.writer i) rest) ∙ sym (write_append o (writer 0 0 0) bits rest) ∙ ap (write o (writer 0 0 0)) whole in
    let r = stream_out_lem l.widths l.values o (found_some l y f k h) a b refl refl in
    record { count = e.count ∙ r.0; out = e.out ∙ r.1 }
