-- For inner functions only: what those of the writer ask and promise. A look over the places of a pass leaves two lists of words: the numbers for the raw
-- stream, and the values for the SRL stream that are not 0, each with the zeros before it. Both streams are measured and stored from these.
-- The look's promise is a relation of what stands before some places and what stands after them, whatever comes behind them; so places in a row are
-- relations in a row (proofs/Placewise.antt).
use Rattle.std.specs.Prelude.{◌≡◌, Bool, false, cond, ◌||◌, List, [], ◌∷◌, ◌++◌, ℕ, zero, suc, ◌+◌, ◌-◌, ◌*◌, ◌/◌, ◌%◌, ◌^◌, ◌≤◌, ◌<◌, ltb, eqb, ℤ, pos, length, get_or, take, replicate, Option, Result}
use Rattle.std.proofs.lemmas.List.Edits.{sets}
use Rattle.bits.specs.Written.{bits_of, bits_of_all, pack}
use Rattle.bits.specs.Inner.{WroteWords}
use Rattle.bits.specs.declared.writer.WordWriter.{WordWriter}
use Rattle.answer.specs.declared.Refusal.{Refusal}
use Rattle.answer.specs.Answers.{first_of, stored}
use Rattle.fixed.specs.Fixed.{is_zero}
use Rattle.srl_encoder.specs.Encode.{nonzero_bits, run_bits, run_kp}
use Rattle.srl_encoder.specs.Finish.{flush, stream_bits}
use Rattle.srl_encoder.specs.declared.encoder.CallState.{CallState}
use Rattle.upgrade_steps.specs.Steps.{Step, srl_widths, raw_widths}
use Rattle.upgrade_steps.specs.Inner.{from_srl}
use Rattle.progressive_encoder.specs.Encode.{Rule, srl_differences, raw_differences, srl_stream, raw_stream, any_too_large, values_fault, no_room_for, bytes_of, written}
use Rattle.progressive_encoder.specs.declared.Written.{Written}
use Rattle.progressive_encoder.specs.declared.events.Events.{Events}
use Rattle.progressive_encoder.specs.declared.look.Found.{Found}
use Rattle.progressive_encoder.specs.declared.measure.EventsMeasured.{EventsMeasured}
use Rattle.progressive_encoder.specs.declared.measure.Lengths.{Lengths}

-- ════ what places give ════

-- the values for the SRL stream and their widths, the numbers for the raw stream and theirs
pub record Lists : Type 0 where
  pub values : List ℤ
  pub widths : List ℕ
  pub numbers : List ℕ
  pub number_widths : List ℕ

-- by its four parts
abbrev pub lists : List ℤ → List ℕ → List ℕ → List ℕ → Lists
lists vs ws ms ns = record { values = vs; widths = ws; numbers = ms; number_widths = ns }

-- of a pass
abbrev pub pass_lists : Rule → List Step → List ℤ → List ℤ → List ℤ → Lists
pass_lists r ts cs ps ss = lists (srl_differences r ts cs ps ss) (srl_widths ts ss) (raw_differences r ts cs ps ss) (raw_widths ts ss)

-- of one place
abbrev pub place_lists : Rule → Step → ℤ → ℤ → ℤ → Lists
place_lists r t c p s = pass_lists r (t ∷ []) (c ∷ []) (p ∷ []) (s ∷ [])

-- of the first n places of a band
abbrev pub band_lists : Rule → Step → ℕ → List ℤ → List ℤ → List ℤ → Lists
band_lists r t n cs ps ss = pass_lists r (replicate n t) cs ps ss

-- a slice has an element for each place of a component
abbrev pub Long : {A : Type 0} → List A → Type 0
Long l = 4096 ≤ length l

-- and so have all three
pub record Slices (cs ps ss : List ℤ) : Type 0 where
  pub coefficients : Long cs
  pub previous : Long ps
  pub sign : Long ss

-- a band's part of each
pub record Part (cs ps ss : List ℤ) : Type 0 where
  pub previous : length ps ≡ length cs
  pub sign : length ss ≡ length cs
  pub few : length cs ≤ 1024

-- a walk over what places give: R is what it does from x to y, and B what y can amount to after the first n places
pub record WentOver {X : Type 0} (R : Lists → X → X → Type 0) (B : X → ℕ → Type 0) (l : Lists) (n : ℕ) (x y : X) : Type 0 where
  pub over : R l x y
  pub bound : B y n

-- the same for k places more, after however many: they come behind any n
pub record GoesOver {X : Type 0} (R : Lists → X → X → Type 0) (B : X → ℕ → Type 0) (l : Lists) (k : ℕ) (x y : X) : Type 0 where
  pub over : R l x y
  pub bound : (n : ℕ) → B x n → B y (n + k)

-- all places of a band's part
abbrev pub GoesOverBand : Rule → {X : Type 0} (R : Lists → X → X → Type 0) (B : X → ℕ → Type 0) (t : Step) (cs ps ss : List ℤ) (x y : X) → Type 0
GoesOverBand r R B t cs ps ss x y = GoesOver R B (band_lists r t (length cs) cs ps ss) (length cs) x y

-- x is what a walk can have come to, with k places and perhaps others still before it
pub record Before {X : Type 0} (B : X → ℕ → Type 0) (x : X) (k : ℕ) : Type 0 where
  pub done : ℕ
  pub bound : B x done
  pub left : done + k ≤ 4096

-- ════ the numbers for the raw stream ════

-- a word is a number and its width
abbrev pub number_of : ℕ → ℕ
number_of x = x % 65536

abbrev pub number_width_of : ℕ → ℕ
number_width_of x = x / 65536

-- the bits of some words
unfoldable pub number_bits : List ℕ → List Bool
number_bits [] = []
number_bits (x ∷ xs) = bits_of (number_width_of x) (number_of x) ++ number_bits xs

-- a list of words, and how many of its elements count
pub record Words : Type 0 where
  pub list : List ℕ
  pub count : ℕ

-- by its two parts
abbrev pub words_of : List ℕ → ℕ → Words
words_of l n = record { list = l; count = n }

-- those that count
abbrev pub held : Words → List ℕ
held x = take x.count x.list

-- the bits of the raw stream, from here on
abbrev pub raw_then : Words → List ℕ → List ℕ → List Bool
raw_then x ns ms = number_bits (held x) ++ bits_of_all ns ms

-- the numbers of some places are listed
pub record ListsNumbers (l : Lists) (x y : Words) : Type 0 where
  pub bits : (ns ms : List ℕ) → raw_then x (l.number_widths ++ ns) (l.numbers ++ ms) ≡ raw_then y ns ms

-- a word whose number has the bits of its width, at most 15
pub record NumberWord (x : ℕ) : Type 0 where
  pub small : number_of x < 2 ^ number_width_of x
  pub narrow : number_width_of x ≤ 15

-- each of some words satisfies a property
pub data Each (P : ℕ → Type 0) : List ℕ → Type 0 where
  none : Each P []
  one : {x : ℕ} {xs : List ℕ} → P x → Each P xs → Each P (x ∷ xs)

-- n places have at most n words
pub record FewWords (x : Words) (n : ℕ) : Type 0 where
  pub few : x.count ≤ n
  pub all : Each NumberWord (held x)

-- ════ the values for the SRL stream that are not 0: events ════

-- a word is a magnitude, whether it is negative, its width, and how many zeros come before it
abbrev pub event_magnitude : ℕ → ℕ
event_magnitude x = x % 65536

abbrev pub event_negative : ℕ → Bool
event_negative x = eqb (x / 65536 % 2) 1

abbrev pub event_width : ℕ → ℕ
event_width x = x / 131072 % 16

abbrev pub event_zeros : ℕ → ℕ
event_zeros x = x / 2097152

-- a word that stands for a value of a width from 1 to 15
pub record Event (x : ℕ) : Type 0 where
  pub some : 1 ≤ event_magnitude x
  pub wide : 1 ≤ event_width x
  pub few : event_zeros x ≤ 4096

-- its bits: the run of zeros, and then the value
abbrev pub event_bits : ℕ → ℕ → List Bool
event_bits kp x =
    run_bits (suc (event_zeros x)) kp (event_zeros x) ++ nonzero_bits (event_width x) (event_negative x) (event_magnitude x - 1)

-- kp then
abbrev pub event_kp : ℕ → ℕ → ℕ
event_kp kp x = run_kp (suc (event_zeros x)) kp (event_zeros x)

-- the bits of some events, and what follows at the kp that they leave
unfoldable pub events_then : ℕ → List ℕ → (ℕ → List Bool) → List Bool
events_then kp [] f = f kp
events_then kp (x ∷ xs) f = event_bits kp x ++ events_then (event_kp kp x) xs f

-- kp behind some events
unfoldable pub events_kp : ℕ → List ℕ → ℕ
events_kp kp [] = kp
events_kp kp (x ∷ xs) = events_kp (event_kp kp x) xs

-- the bits of some events alone
abbrev pub events_bits : List ℕ → List Bool
events_bits xs = events_then 8 xs (λ kp. [])

-- whether one has "a magnitude above the maximum of its width"
unfoldable pub any_event_too_large : List ℕ → Bool
any_event_too_large [] = false
any_event_too_large (x ∷ xs) = ltb (2 ^ event_width x - 1) (event_magnitude x) || any_event_too_large xs

-- how many values they are, with the zeros before them
unfoldable pub event_values : List ℕ → ℕ
event_values [] = 0
event_values (x ∷ xs) = event_zeros x + 1 + event_values xs

-- a list of events and the zeros pending behind them
pub record Listed : Type 0 where
  pub words : Words
  pub zeros : ℕ

-- by its parts
abbrev pub listed_of : List ℕ → ℕ → ℕ → Listed
listed_of l n z = record { words = words_of l n; zeros = z }

-- of what the code has of it
abbrev pub listed_by : List ℕ → Events → Listed
listed_by l e = listed_of l e.count e.zeros

-- the bits of the SRL stream, from here on
abbrev pub srl_then : Listed → List ℕ → List ℤ → List Bool
srl_then x ws us = events_then 8 (held x.words) (λ kp. stream_bits kp x.zeros ws us)

-- whether a value is too large, from here on
abbrev pub large_then : Listed → List ℕ → List ℤ → Bool
large_then x ws us = any_event_too_large (held x.words) || any_too_large ws us

-- the values of some places are listed
pub record ListsEvents (l : Lists) (x y : Listed) : Type 0 where
  pub bits : (ws : List ℕ) (us : List ℤ) → srl_then x (l.widths ++ ws) (l.values ++ us) ≡ srl_then y ws us
  pub large : (ws : List ℕ) (us : List ℤ) → large_then x (l.widths ++ ws) (l.values ++ us) ≡ large_then y ws us
  pub count : event_values (held x.words) + x.zeros + length l.values ≡ event_values (held y.words) + y.zeros

-- n places have at most n events, each of which is one, and at most n zeros pending
pub record FewEvents (x : Listed) (n : ℕ) : Type 0 where
  pub few : x.words.count ≤ n
  pub zeros : x.zeros ≤ n
  pub all : Each Event (held x.words)

-- ════ both lists ════

pub record Looked : Type 0 where
  pub numbers : Words
  pub events : Listed

-- of what the code has of them
abbrev pub looked_by : List ℕ → List ℕ → Found → Looked
looked_by raws words f = record { numbers = words_of raws f.numbers; events = listed_by words f.events }

-- before the first place
abbrev pub nothing_found : Found
nothing_found = record { numbers = 0; events = record { count = 0; zeros = 0 } }

-- some places are looked at
pub record Looks (l : Lists) (x y : Looked) : Type 0 where
  pub numbers : ListsNumbers l x.numbers y.numbers
  pub events : ListsEvents l x.events y.events

-- what n places can amount to
pub record FewFound (x : Looked) (n : ℕ) : Type 0 where
  pub numbers : FewWords x.numbers n
  pub events : FewEvents x.events n

-- ════ what the loops of a band leave for each other ════

-- what a place gives: 0, a value 0 for the SRL stream; 1, a number for the raw stream; 2, another value
abbrev pub class_of : Rule → Step → ℤ → ℤ → ℤ → ℕ
class_of r t c p s = cond (from_srl t s) (cond (is_zero (r.value t.position c p)) 0 2) 1

-- of each place of a band
abbrev pub Classed : Rule → Step → List ℤ → List ℤ → List ℤ → List ℕ → Type 0
Classed r t cs ps ss ks =
    (k : ℕ) → k < length cs → get_or ks k 0 ≡ class_of r t (get_or cs k (pos 0)) (get_or ps k (pos 0)) (get_or ss k (pos 0))

-- the low bits of the number that each place would give
abbrev pub Numbered : Rule → Step → List ℤ → List ℤ → List ℕ → Type 0
Numbered r t cs ps ns =
    (k : ℕ) → k < length cs → get_or ns k 0 ≡ r.number t.bottom t.position (get_or cs k (pos 0)) (get_or ps k (pos 0)) % 2 ^ t.width

-- the places from one to another, behind whatever stands for those before them
pub record PlacesOver (r : Rule) {X : Type 0} (R : Lists → X → X → Type 0) (B : X → ℕ → Type 0) (t : Step) (cs ps ss : List ℤ) (from to : ℕ) (y z : X) : Type 0 where
  pub on : (x : X) → GoesOver R B (band_lists r t from cs ps ss) from x y → GoesOver R B (band_lists r t to cs ps ss) to x z

-- the numbers of these places are listed, by the classes and the numbers of a band, whatever the band is
pub record TakesNumbers (t : Step) (ks ns : List ℕ) (from to : ℕ) (y z : Words) : Type 0 where
  pub over : (r : Rule) (cs ps ss : List ℤ) → Part cs ps ss → to ≤ length cs → Classed r t cs ps ss ks → Numbered r t cs ps ns
      → PlacesOver r ListsNumbers FewWords t cs ps ss from to y z
  pub few : z.count ≤ y.count + (to - from)

-- the same of the values
pub record TakesEvents (r : Rule) (t : Step) (cs ps : List ℤ) (ks : List ℕ) (from to : ℕ) (y z : Listed) : Type 0 where
  pub over : (ss : List ℤ) → Part cs ps ss → to ≤ length cs → Classed r t cs ps ss ks → PlacesOver r ListsEvents FewEvents t cs ps ss from to y z
  pub few : z.words.count ≤ y.words.count + (to - from)
  pub zeros : z.zeros ≤ y.zeros + (to - from)

-- the sum of k classes from place i on
unfoldable pub sum_from : List ℕ → ℕ → ℕ → ℕ
sum_from ks i zero = 0
sum_from ks i (suc k) = get_or ks i 0 + sum_from ks (suc i) k

-- ════ measuring ════

-- one event is measured
pub record MeasuresEvent (x : ℕ) (p q : EventsMeasured) : Type 0 where
  pub bits : q.bits ≡ p.bits + length (event_bits p.kp x)
  pub kp : q.kp ≡ event_kp p.kp x
  pub large : q.too_large ≡ (p.too_large || ltb (2 ^ event_width x - 1) (event_magnitude x))

-- some events are
pub record MeasuresEvents (xs : List ℕ) (q : EventsMeasured) : Type 0 where
  pub bits : q.bits ≡ length (events_bits xs)
  pub kp : q.kp ≡ events_kp 8 xs
  pub large : q.too_large ≡ any_event_too_large xs
  pub low : q.kp ≤ 80
  pub few : q.bits ≤ 80000 * length xs

-- how many bytes an SRL stream of so many values and bits has: "the writer gives no SRL bytes" where there is none
abbrev pub srl_length : ℕ → ℕ → ℕ
srl_length zero bits = 0
srl_length (suc n) bits = (bits + 7) / 8 + 1

-- the lengths of both streams, and whether a value is too large
pub record MeasuresStreams (l : Lists) (r : Lengths) : Type 0 where
  pub large : r.too_large ≡ any_too_large l.widths l.values
  pub srl : r.srl ≡ length (srl_stream l.widths l.values)
  pub raw : r.raw ≡ length (raw_stream l.number_widths l.numbers)

-- what was found of places, all of them
pub record FoundAll (l : Lists) (x : Looked) : Type 0 where
  pub srl_bits_lem : stream_bits 8 0 l.widths l.values ≡ events_then 8 (held x.events.words) (λ kp. flush kp x.events.zeros)
  pub large : any_too_large l.widths l.values ≡ any_event_too_large (held x.events.words)
  pub count : length l.values ≡ event_values (held x.events.words) + x.events.zeros
  pub raw_bits_lem : bits_of_all l.number_widths l.numbers ≡ number_bits (held x.numbers)
  pub few : FewFound x 4096

-- both lists have room for the places of a component
pub record Roomy (raws words : List ℕ) : Type 0 where
  pub numbers : 4096 ≤ length raws
  pub events : 4096 ≤ length words

-- ════ storing ════

-- at the start of a stream
abbrev pub fresh_sink : WordWriter
fresh_sink = record { at = 0; word = 0; held = 0 }

-- one event is stored behind what a writer has
pub record StoresEvent (x : ℕ) (o : List ℕ) (c d : CallState) (o' : List ℕ) : Type 0 where
  pub wrote : WroteWords o c.sink (event_bits c.kp x) d.sink o'
  pub kp : d.kp ≡ event_kp c.kp x
  pub zeros : d.zeros ≡ c.zeros

-- the events of a list are stored
pub record StoresEvents (xs : List ℕ) (o : List ℕ) (d : CallState) (z : ℕ) (o' : List ℕ) : Type 0 where
  pub wrote : WroteWords o fresh_sink (events_bits xs) d.sink o'
  pub kp : d.kp ≡ events_kp 8 xs
  pub zeros : d.zeros ≡ z
  pub low : d.kp ≤ 80
  pub few : length (events_bits xs) ≤ 80000 * length xs

-- the SRL stream is stored, n bytes
pub record StoresSrl (l : Lists) (o : List ℕ) (n : ℕ) (o' : List ℕ) : Type 0 where
  pub count : n ≡ length (srl_stream l.widths l.values)
  pub out : o' ≡ sets o 0 (srl_stream l.widths l.values)

-- bits are stored and padded, n bytes
pub record StoresRaw (bs : List Bool) (o : List ℕ) (n : ℕ) (o' : List ℕ) : Type 0 where
  pub count : n ≡ length (pack 0 0 bs)
  pub out : o' ≡ sets o 0 (pack 0 0 bs)

-- ════ both streams: the answer, and what the two outputs hold then ════

-- what is refused of what places give
abbrev pub lists_refusal : Lists → List ℕ → List ℕ → Option Refusal
lists_refusal l srlOut rawOut =
    first_of (values_fault l.widths l.values)
    (no_room_for (srl_stream l.widths l.values) srlOut (raw_stream l.number_widths l.numbers) rawOut)

-- the answer
abbrev pub lists_answer : Lists → List ℕ → List ℕ → Result Written Refusal
lists_answer l srlOut rawOut =
    written (lists_refusal l srlOut rawOut) (length (srl_stream l.widths l.values)) (length (raw_stream l.number_widths l.numbers))

-- the SRL output then
abbrev pub lists_srl_out : Lists → List ℕ → List ℕ → List ℕ
lists_srl_out l srlOut rawOut = stored (lists_refusal l srlOut rawOut) (srl_stream l.widths l.values) srlOut

-- the raw output then
abbrev pub lists_raw_out : Lists → List ℕ → List ℕ → List ℕ
lists_raw_out l srlOut rawOut = stored (lists_refusal l srlOut rawOut) (raw_stream l.number_widths l.numbers) rawOut

-- both streams are stored, where there is room for both
pub record StoresStreams (l : Lists) (srlOut rawOut : List ℕ) (r : Written) (srlOut' rawOut' : List ℕ) : Type 0 where
  pub answer : r ≡ bytes_of (length (srl_stream l.widths l.values)) (length (raw_stream l.number_widths l.numbers))
  pub srl : srlOut' ≡ sets srlOut 0 (srl_stream l.widths l.values)
  pub raw : rawOut' ≡ sets rawOut 0 (raw_stream l.number_widths l.numbers)

-- both streams are refused or stored
pub record WritesStreams (l : Lists) (srlOut rawOut : List ℕ) (r : Result Written Refusal) (srlOut' rawOut' : List ℕ) : Type 0 where
  pub answer : r ≡ lists_answer l srlOut rawOut
  pub srl : srlOut' ≡ lists_srl_out l srlOut rawOut
  pub raw : rawOut' ≡ lists_raw_out l srlOut rawOut
