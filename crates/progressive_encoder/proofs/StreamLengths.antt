-- Laws of how long both streams are: events and numbers one by one, and then the streams. Assumes nothing.
use mathlib.Core.Path.{◌≡◌, refl, ap, sym, ◌∙◌, subst}
use mathlib.Core.Bool.{Bool, false, ◌||◌, or-false}
use mathlib.Core.List.{List, [], ◌∷◌, ◌++◌, append-nil, append_assoc}
use Prim.Native.Nat.{ℕ, zero, suc, ◌+◌, ◌-◌, ◌/◌, ◌^◌, ◌≤◌, ◌<◌}
use native.Mathlib.Omega.{arith}
use lib.Dec.{ltb}
use lib.IntN.{ℤ}
use lib.ListN.{length, get_or, take, length-append}
use lib.Seq.{length-take-le}
use Rattle.bits.specs.Written.{bits_of, bits_of_all, pack}
use Rattle.bits.proofs.Puts.{length_bits_of}
use Rattle.bits.proofs.Packed.{length_pack}
use Rattle.srl_encoder.specs.Encode.{nonzero_bits, run_bits}
use Rattle.srl_encoder.specs.Finish.{flush, stream_bits}
use Rattle.srl_encoder.proofs.Runs.{length_run, run_kp_le}
use Rattle.srl_encoder.proofs.Nonzeros.{nonzero_le}
use Rattle.progressive_encoder.specs.Encode.{srl_stream, raw_stream}
use Rattle.progressive_encoder.specs.Inner.{Lists, held, number_of, number_width_of, number_bits, event_magnitude, event_negative, event_width, event_zeros, Event, event_bits, event_kp, events_then, events_kp, events_bits, any_event_too_large, event_values, Looked, FoundAll, srl_length, MeasuresEvent, MeasuresEvents}
use Rattle.progressive_encoder.specs.declared.measure.EventsMeasured.{EventsMeasured}
use Rattle.progressive_encoder.proofs.Held.{one_more}
use Rattle.progressive_encoder.proofs.ListedNumbers.{bits_words}
use Rattle.progressive_encoder.proofs.ListedEvents.{events_append, large_append}

-- ════ numbers ════

-- one more
pub number_more : (l : List ℕ) (j : ℕ) → j < length l → number_bits (take (j + 1) l) ≡ number_bits (take j l) ++ bits_of (number_width_of (get_or l j 0)) (number_of (get_or l j 0))
unfolding number_bits
number_more l j h = let x = get_or l j 0 in ap number_bits (one_more l j h) ∙ bits_words (take j l) (x ∷ []) ∙ ap (λ (b : List Bool). number_bits (take j l) ++ b) (append-nil (bits_of (number_width_of x) (number_of x)))

pub number_length : (l : List ℕ) (j : ℕ) → j < length l → length (number_bits (take (j + 1) l)) ≡ length (number_bits (take j l)) + number_width_of (get_or l j 0)
number_length l j h =
    let x = get_or l j 0 in
    ap length (number_more l j h) ∙ length-append (number_bits (take j l)) (bits_of (number_width_of x) (number_of x)) ∙ ap (λ (n : ℕ). length (number_bits (take j l)) + n) (length_bits_of (number_width_of x) (number_of x))

-- ════ events ════

-- some, and what follows at the kp that they leave
pub events_then_lem : (kp : ℕ) (xs : List ℕ) (f : ℕ → List Bool) → events_then kp xs f ≡ events_then kp xs (λ k. []) ++ f (events_kp kp xs)
unfolding events_then events_kp
events_then_lem kp [] f = refl
events_then_lem kp (x ∷ xs) f = ap (λ (l : List Bool). event_bits kp x ++ l) (events_then_lem (event_kp kp x) xs f) ∙ sym (append_assoc (event_bits kp x) (events_then (event_kp kp x) xs (λ k. [])) (f (events_kp (event_kp kp x) xs)))

kp_more : (kp : ℕ) (xs : List ℕ) (x : ℕ) → events_kp kp (xs ++ (x ∷ [])) ≡ event_kp (events_kp kp xs) x
unfolding events_kp
kp_more kp [] x = refl
kp_more kp (y ∷ xs) x = kp_more (event_kp kp y) xs x

-- one more
pub event_more : (l : List ℕ) (j : ℕ) → j < length l → events_bits (take (j + 1) l) ≡ events_bits (take j l) ++ event_bits (events_kp 8 (take j l)) (get_or l j 0)
unfolding events_then
event_more l j h =
    let xs = take j l in
    let x = get_or l j 0 in
    ap events_bits (one_more l j h)
    ∙ events_append 8 xs (x ∷ []) (λ kp. [])
    ∙ events_then_lem 8 xs (λ k. event_bits k x ++ [])
    ∙ ap (λ (b : List Bool). events_bits xs ++ b) (append-nil (event_bits (events_kp 8 xs) x))

pub event_kp_lem : (l : List ℕ) (j : ℕ) → j < length l → events_kp 8 (take (j + 1) l) ≡ event_kp (events_kp 8 (take j l)) (get_or l j 0)
event_kp_lem l j h = ap (events_kp 8) (one_more l j h) ∙ kp_more 8 (take j l) (get_or l j 0)

event_large : (l : List ℕ) (j : ℕ) → j < length l → any_event_too_large (take (j + 1) l) ≡ (any_event_too_large (take j l) || ltb (2 ^ event_width (get_or l j 0) - 1) (event_magnitude (get_or l j 0)))
unfolding any_event_too_large
event_large l j h =
    let x = get_or l j 0 in
    let b = ltb (2 ^ event_width x - 1) (event_magnitude x) in
    ap any_event_too_large (one_more l j h) ∙ large_append (take j l) (x ∷ []) ∙ ap (λ (a : Bool). any_event_too_large (take j l) || a) (or-false b)

-- at most so many bits
pub event_small : (kp x : ℕ) → kp ≤ 80 → Event x → length (event_bits kp x) ≤ 80000
event_small kp x h e =
    let z = event_zeros x in
    let run = run_bits (suc z) kp z in
    let value = nonzero_bits (event_width x) (event_negative x) (event_magnitude x - 1) in
    omega (arith, length-append run value, length_run (suc z) kp z h, nonzero_le (event_width x) (event_magnitude x) (event_negative x) e.some, e.few)

-- no event is measured
pub measured_none : (l : List ℕ) → MeasuresEvents (take 0 l) (record { bits = 0; kp = 8; too_large = false })
unfolding events_then events_kp any_event_too_large
measured_none l = record { bits = refl; kp = refl; large = refl; low = omega arith; few = omega arith }

-- one more
pub measured_more : (l : List ℕ) (j : ℕ) → j < length l → (p q : EventsMeasured) → Event (get_or l j 0) → MeasuresEvents (take j l) p → MeasuresEvent (get_or l j 0) p q → MeasuresEvents (take (j + 1) l) q
measured_more l j h p q e m n =
    let x = get_or l j 0 in
    let xs = take j l in
    let size : length xs ≡ j = length-take-le j l (omega arith) in
    let size' : length (take (j + 1) l) ≡ j + 1 = length-take-le (j + 1) l (omega arith) in
    let here : length (event_bits p.kp x) ≤ 80000 = event_small p.kp x m.low e in
    record {
      bits = n.bits ∙ (λ i. m.bits i + length (event_bits (m.kp i) x)) ∙ sym (ap length (event_more l j h) ∙ length-append (events_bits xs) (event_bits (events_kp 8 xs) x));
      kp = n.kp ∙ ap (λ (k : ℕ). event_kp k x) m.kp ∙ sym (event_kp_lem l j h);
      large = n.large ∙ ap (λ (b : Bool). b || ltb (2 ^ event_width x - 1) (event_magnitude x)) m.large ∙ sym (event_large l j h);
      low = subst (λ (k : ℕ). k ≤ 80) (sym n.kp) (run_kp_le (suc (event_zeros x)) p.kp (event_zeros x) m.low);
      few = omega (arith, n.bits, here, m.few, size, size');
    }

-- ════ the streams ════

-- where there is a value
pub stream_some : (ws : List ℕ) (vs : List ℤ) → (length vs ≡ 0 → ⊥) → srl_stream ws vs ≡ pack 0 0 (stream_bits 8 0 ws vs) ++ (0 ∷ [])
stream_some ws [] h = absurd (h refl)
stream_some ws (v ∷ vs) h = refl

-- where there is none, no byte
pub stream_none : (ws : List ℕ) (vs : List ℤ) → length vs ≡ 0 → srl_stream ws vs ≡ []
stream_none ws [] h = refl
stream_none ws (v ∷ vs) h = absurd (omega arith)

-- its length
pub some_length : (ws : List ℕ) (vs : List ℤ) → (length vs ≡ 0 → ⊥) → length (srl_stream ws vs) ≡ (length (stream_bits 8 0 ws vs) + 7) / 8 + 1
some_length ws vs h =
    let bits = stream_bits 8 0 ws vs in
    ap length (stream_some ws vs h) ∙ omega (arith, length-append (pack 0 0 bits) (0 ∷ []), length_pack bits 0 0 (omega arith))

-- events are values
values_least : (xs : List ℕ) → length xs ≤ event_values xs
unfolding event_values
values_least [] = omega arith
values_least (x ∷ xs) = omega (arith, values_least xs)

-- the bits of a whole SRL stream: its events, and then the zeros behind them
pub found_bits : (l : Lists) (y : Looked) → FoundAll l y → stream_bits 8 0 l.widths l.values ≡ events_bits (held y.events.words) ++ flush (events_kp 8 (held y.events.words)) y.events.zeros
found_bits l y f = f.srl_bits_lem ∙ events_then_lem 8 (held y.events.words) (λ kp. flush kp y.events.zeros)

-- whether there is a value at all: an event or a zero
pub found_none : (l : Lists) (y : Looked) → FoundAll l y → y.events.words.count + y.events.zeros ≡ 0 → length l.values ≡ 0
unfolding event_values
found_none l y f h =
    let none : take y.events.words.count y.events.words.list ≡ [] = ap (λ (n : ℕ). take n y.events.words.list) {x = y.events.words.count} {y = 0} (omega (arith, h)) in
    omega (arith, f.count, ap event_values none, h)

pub found_some : (l : Lists) (y : Looked) → FoundAll l y → y.events.words.count ≤ length y.events.words.list → (y.events.words.count + y.events.zeros ≡ 0 → ⊥) → length l.values ≡ 0 → ⊥
found_some l y f k h e = h (omega (arith, f.count, e, values_least (held y.events.words), length-take-le y.events.words.count y.events.words.list k))

-- the SRL stream's length, as the code has it
pub srl_length_is : (l : Lists) (y : Looked) → FoundAll l y → y.events.words.count ≤ length y.events.words.list → (n : ℕ) → n ≡ y.events.words.count + y.events.zeros
    → srl_length n (length (events_bits (held y.events.words)) + length (flush (events_kp 8 (held y.events.words)) y.events.zeros)) ≡ length (srl_stream l.widths l.values)
srl_length_is l y f k zero e = sym (ap length (stream_none l.widths l.values (found_none l y f (sym e))))
srl_length_is l y f k (suc n) e =
    let a = events_bits (held y.events.words) in
    let b = flush (events_kp 8 (held y.events.words)) y.events.zeros in
    sym (some_length l.widths l.values (found_some l y f k (λ z. omega (arith, e, z))) ∙ ap (λ (m : ℕ). (m + 7) / 8 + 1) (ap length (found_bits l y f) ∙ length-append a b))

-- and the raw stream's
pub raw_length_is : (l : Lists) (y : Looked) → FoundAll l y → (length (number_bits (held y.numbers)) + 7) / 8 ≡ length (raw_stream l.number_widths l.numbers)
raw_length_is l y f = omega (arith, ap length f.raw_bits_lem, length_pack (bits_of_all l.number_widths l.numbers) 0 0 (omega arith))
