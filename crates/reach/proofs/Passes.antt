-- A pass over places, as lists: what it gives is what each place may become (`pass_sound`), and all of that is given by some streams (`pass_whole`).
-- Everything holds for every list of bands.
use mathlib.Core.Path.{◌≡◌, refl, sym, ap, ap₂, ◌∙◌, subst}
use mathlib.Core.Bool.{Bool, true, false}
use mathlib.Core.List.{List, [], ◌∷◌, map, append-nil}
use Prim.Native.Nat.{ℕ, zero, suc, ◌+◌, ◌-◌, ◌*◌, ◌≤◌, ◌<◌}
use native.Mathlib.Nat.{zero-lt-suc}
use native.Mathlib.Omega.{arith}
use lib.IntN.{ℤ}
use lib.ListN.{length, length-append}
use lib.Pow.{pow_mono}
use Rattle.bands.specs.Bands.{is_bottom_band, position_of}
use Rattle.fixed.specs.Fixed.{is_zero}
use Rattle.bits.specs.Bits.{numbers}
use Rattle.bits.specs.Written.{bits_of, bits_of_all}
use Rattle.bits.proofs.Numbers.{num_lt}
use Rattle.bits.proofs.Puts.{length_bits_of}
use Rattle.srl_decoder.specs.Srl.{start}
use Rattle.srl.specs.Laws.{Wide, wide, Legal, legal}
use Rattle.srl.proofs.Magnitudes.{magnitudes as read-magnitudes}
use Rattle.upgrade_steps.specs.Steps.{Step, step_of, Source, skipped, srl, raw, source, source_of, srl_width, srl_widths, raw_width, raw_widths}
use Rattle.progressive_decoder.specs.Upgrade.{sign_then, signs_after, coefficient_then, coefficients_after, srl_values, raw_numbers, upgraded_signs, upgraded_coefficients}
use Rattle.progressive.specs.Laws.{Small, small}
use Rattle.progressive_encoder.specs.Encode.{srl_stream, raw_stream}
use Rattle.progressive.proofs.AnyRule.{read_values_lem, read_numbers_lem}
use Rattle.bits.proofs.Holds.{pack_holds}
use Rattle.reach.proofs.Streams.{magnitudes, Stream, srl_stream_lem, raw_stream_lem}
use Rattle.fitting.specs.Place.{Place, place, Fits}
use Rattle.reach.specs.Place.{Gains}
use Rattle.reach.proofs.Places.{due, gain_refl, gain_same, gain_mid, raw_sound, raw_whole, srl_sound, srl_whole}

-- no position of q is above that of p, row by row
abbrev pub Below : List ℕ → List ℕ → Type 0
Below p q = (b : ℕ) → position_of q b ≤ position_of p b

-- every place fits
pub data FitsRow (p : List ℕ) : List ℕ → List ℤ → List ℤ → Type 0 where
  none : FitsRow p [] [] []
  one : {b : ℕ} {c s : ℤ} {bs : List ℕ} {cs ss : List ℤ} → Fits (is_bottom_band b) (position_of p b) (place c s) → FitsRow p bs cs ss → FitsRow p (b ∷ bs) (c ∷ cs) (s ∷ ss)

-- and gains
pub data GainsRow (p q : List ℕ) : List ℕ → List ℤ → List ℤ → List ℤ → List ℤ → Type 0 where
  none : GainsRow p q [] [] [] [] []
  one : {b : ℕ} {c s c' s' : ℤ} {bs : List ℕ} {cs ss cs' ss' : List ℤ} → Gains (is_bottom_band b) (position_of p b) (position_of q b) (place c s) (place c' s')
      → GainsRow p q bs cs ss cs' ss' → GainsRow p q (b ∷ bs) (c ∷ cs) (s ∷ ss) (c' ∷ cs') (s' ∷ ss')

-- ════ from a position to itself, and by a position between ════

-- from their positions to the same, places do not change
pub row_same : {p bs : List ℕ} {cs ss cs' ss' : List ℤ} → FitsRow p bs cs ss → GainsRow p p bs cs ss cs' ss' → (cs' ≡ cs) × (ss' ≡ ss)
row_same FitsRow.none GainsRow.none = (refl, refl)
row_same {p} (FitsRow.one {b = b} f fs) (GainsRow.one g gs) =
    let e = gain_same (is_bottom_band b) (position_of p b) f g in
    let r = row_same fs gs in
    (ap₂ (λ (x : Place) (l : List ℤ). x.coefficient ∷ l) e r.0, ap₂ (λ (x : Place) (l : List ℤ). x.sign ∷ l) e r.1)

-- places between
pub record Between (p q r bs : List ℕ) (cs ss cs'' ss'' : List ℤ) : Type 0 where
  pub coefficients : List ℤ
  pub signs : List ℤ
  pub before : GainsRow p q bs cs ss coefficients signs
  pub behind : GainsRow q r bs coefficients signs cs'' ss''

-- what places may become goes by way of any positions between
pub row_mid : {p r bs : List ℕ} {cs ss cs'' ss'' : List ℤ} (q : List ℕ) → Below p q → FitsRow p bs cs ss → GainsRow p r bs cs ss cs'' ss'' → Between p q r bs cs ss cs'' ss''
row_mid q l FitsRow.none GainsRow.none = record { coefficients = []; signs = []; before = GainsRow.none; behind = GainsRow.none }
row_mid {p} {r} q l (FitsRow.one {b = b} f fs) (GainsRow.one g gs) =
    let m = gain_mid (is_bottom_band b) (position_of p b) (position_of q b) (position_of r b) (l b) f g in
    let ms = row_mid q l fs gs in
    record {
      coefficients = m.0.coefficient ∷ ms.coefficients;
      signs = m.0.sign ∷ ms.signs;
      before = GainsRow.one m.1 ms.before;
      behind = GainsRow.one m.2 ms.behind;
    }

-- ════ where a place's value comes from ════

-- what its source says of a place
abbrev Says : Source → Bool → ℕ → ℤ → Type 0
Says skipped b w s = w ≡ 0
Says srl b w s = (due b s ≡ true) × (0 < w)
Says raw b w s = due b s ≡ false

says : (b : Bool) (w : ℕ) (s : ℤ) → Says (source_of b w (is_zero s)) b w s
says b zero s = refl
says true (suc w) s = refl
says false (suc w) s = by (is_zero s) refl
  where
    by : (z : Bool) → is_zero s ≡ z → Says (source_of false (suc w) z) false (suc w) s
    by true e = (e, zero-lt-suc w)
    by false e = e

-- width 0: the position stays
still : (b : Bool) (p q : ℕ) {x : Place} → q ≤ p → p - q ≡ 0 → Fits b p x → Gains b p q x x
still b p q {x} h e f = let s : p ≡ q = omega arith in subst (λ (q : ℕ). Gains b p q x x) s (gain_refl b p f)

still_same : (b : Bool) (p q : ℕ) {x y : Place} → q ≤ p → p - q ≡ 0 → Fits b p x → Gains b p q x y → y ≡ x
still_same b p q {x} {y} h e f g = let s : q ≡ p = omega arith in gain_same b p f (subst (λ (q : ℕ). Gains b p q x y) s g)

-- ════ values and numbers of their widths give what places may become ════

module _ {p q bs ws us : List ℕ} {cs ss : List ℤ} {b : ℕ} {c s : ℤ} (h : position_of q b ≤ position_of p b) (f : Fits (is_bottom_band b) (position_of p b) (place c s))
    (k : List ℤ → List ℕ → List ℤ) (j : List ℤ → List ℤ) (rec : (vs : List ℤ) (ms : List ℕ) → Legal ws vs → Small us ms → GainsRow p q bs cs ss (k vs ms) (j vs)) where
  place_sound : (o : Source) → Says o (is_bottom_band b) (position_of p b - position_of q b) s → (vs : List ℤ) (ms : List ℕ)
      → Legal (srl_width o (position_of p b - position_of q b) ws) vs → Small (raw_width o (position_of p b - position_of q b) us) ms
      → GainsRow p q (b ∷ bs) (c ∷ cs) (s ∷ ss) (coefficient_then o (step_of p q b) c s vs ms k) (sign_then o s vs j)
  place_sound skipped e vs ms l m = GainsRow.one (still (is_bottom_band b) (position_of p b) (position_of q b) h e f) (rec vs ms l m)
  place_sound srl e vs ms (legal {v = v} {vs = vs'} n l) m = GainsRow.one (srl_sound (is_bottom_band b) (position_of p b) (position_of q b) v h f e.0 n) (rec vs' ms l m)
  place_sound raw e vs ms l (small {m = n} {ms = ms'} t m) = GainsRow.one (raw_sound (is_bottom_band b) (position_of p b) (position_of q b) n h f e t) (rec vs ms' l m)

walk_sound : {p q bs : List ℕ} {cs ss : List ℤ} → Below p q → FitsRow p bs cs ss → (vs : List ℤ) (ms : List ℕ)
    → Legal (srl_widths (map (step_of p q) bs) ss) vs → Small (raw_widths (map (step_of p q) bs) ss) ms
    → GainsRow p q bs cs ss (coefficients_after (map (step_of p q) bs) cs ss vs ms) (signs_after (map (step_of p q) bs) ss vs)
unfolding srl_widths raw_widths coefficients_after signs_after
walk_sound l FitsRow.none vs ms g m = GainsRow.none
walk_sound {p} {q} l (FitsRow.one {b = b} {c = c} {s = s} {bs = bs} {cs = cs} {ss = ss} f fs) vs ms g m =
    place_sound (l b) f (coefficients_after (map (step_of p q) bs) cs ss) (signs_after (map (step_of p q) bs) ss) (walk_sound l fs)
    (source (step_of p q b) s) (says (is_bottom_band b) (position_of p b - position_of q b) s) vs ms g m

-- ════ and all of it ════

-- how much values and numbers for n places can take
record Few (vs : List ℤ) (us ms : List ℕ) (n : ℕ) : Type 0 where
  pub count : length vs ≤ n
  pub sum : magnitudes vs ≤ 32768 * n
  pub bits : length (bits_of_all us ms) ≤ 15 * n

-- values and numbers that give cs' and ss'
record Found (p q bs : List ℕ) (cs ss cs' ss' : List ℤ) : Type 0 where
  vs : List ℤ
  ms : List ℕ
  legals : Legal (srl_widths (map (step_of p q) bs) ss) vs
  smalls : Small (raw_widths (map (step_of p q) bs) ss) ms
  coefficients : coefficients_after (map (step_of p q) bs) cs ss vs ms ≡ cs'
  signs : signs_after (map (step_of p q) bs) ss vs ≡ ss'
  few : Few vs (raw_widths (map (step_of p q) bs) ss) ms (length bs)

-- the same of one place in front of others
record Put (o : Source) (p q ws us : List ℕ) (b : ℕ) (c s : ℤ) (k : List ℤ → List ℕ → List ℤ) (j : List ℤ → List ℤ) (cs' ss' : List ℤ) (n : ℕ) : Type 0 where
  vs : List ℤ
  ms : List ℕ
  legals : Legal (srl_width o (position_of p b - position_of q b) ws) vs
  smalls : Small (raw_width o (position_of p b - position_of q b) us) ms
  coefficients : coefficient_then o (step_of p q b) c s vs ms k ≡ cs'
  signs : sign_then o s vs j ≡ ss'
  few : Few vs (raw_width o (position_of p b - position_of q b) us) ms (suc n)

cons : {a b : ℤ} {k l : List ℤ} → a ≡ b → k ≡ l → a ∷ k ≡ b ∷ l
cons e f = ap₂ (λ (a : ℤ) (l : List ℤ). a ∷ l) e f

module _ {p q ws us : List ℕ} {cs' ss' : List ℤ} {b : ℕ} {c s c' s' : ℤ} (h : position_of q b ≤ position_of p b) (f : Fits (is_bottom_band b) (position_of p b) (place c s))
    (g : Gains (is_bottom_band b) (position_of p b) (position_of q b) (place c s) (place c' s')) (k : List ℤ → List ℕ → List ℤ) (j : List ℤ → List ℤ)
    (vs : List ℤ) (ms : List ℕ) (l : Legal ws vs) (m : Small us ms) (kc : k vs ms ≡ cs') (js : j vs ≡ ss') {n : ℕ} (t : Few vs us ms n) where
  place_whole : (o : Source) → Says o (is_bottom_band b) (position_of p b - position_of q b) s → Put o p q ws us b c s k j (c' ∷ cs') (s' ∷ ss') n
  unfolding bits_of_all
  place_whole skipped e =
      let y = still_same (is_bottom_band b) (position_of p b) (position_of q b) h e f g in
      record {
        vs = vs;
        ms = ms;
        legals = l;
        smalls = m;
        coefficients = cons (ap (λ (x : Place). x.coefficient) (sym y)) kc;
        signs = cons (ap (λ (x : Place). x.sign) (sym y)) js;
        few = record { count = omega (arith, t.count); sum = omega (arith, t.sum); bits = omega (arith, t.bits) };
      }
  place_whole srl e =
      let r = srl_whole (is_bottom_band b) (position_of p b) (position_of q b) h f e.0 g in
      record {
        vs = r.0 ∷ vs;
        ms = ms;
        legals = legal r.1 l;
        smalls = m;
        coefficients = cons (ap (λ (x : Place). x.coefficient) r.2) kc;
        signs = cons (ap (λ (x : Place). x.sign) r.2) js;
        few = record { count = omega (arith, t.count); sum = omega (arith, t.sum, r.1, pow_mono {i = position_of p b - position_of q b} {j = 15} (omega (arith, f.low))); bits = omega (arith, t.bits) };
      }
  place_whole raw e =
      let r = raw_whole (is_bottom_band b) (position_of p b) (position_of q b) h f e g in
      record {
        vs = vs;
        ms = r.0 ∷ ms;
        legals = l;
        smalls = small r.1 m;
        coefficients = cons (ap (λ (x : Place). x.coefficient) r.2) kc;
        signs = cons (ap (λ (x : Place). x.sign) r.2) js;
        few = record {
          count = omega (arith, t.count);
          sum = omega (arith, t.sum);
          bits = omega (arith, t.bits, f.low, length-append (bits_of (position_of p b - position_of q b) r.0) (bits_of_all us ms), length_bits_of (position_of p b - position_of q b) r.0);
        };
      }

walk_whole : {p q bs : List ℕ} {cs ss cs' ss' : List ℤ} → Below p q → FitsRow p bs cs ss → GainsRow p q bs cs ss cs' ss' → Found p q bs cs ss cs' ss'
unfolding srl_widths raw_widths coefficients_after signs_after bits_of_all
walk_whole l FitsRow.none GainsRow.none = record { vs = []; ms = []; legals = Legal.none; smalls = Small.none; coefficients = refl; signs = refl; few = record { count = omega arith; sum = omega arith; bits = omega arith } }
walk_whole {p} {q} l (FitsRow.one {b = b} {c = c} {s = s} {bs = bs} {cs = cs} {ss = ss} f fs) (GainsRow.one g gs) =
    let r = walk_whole l fs gs in
    let t = place_whole {p = p} {q = q} {b = b} {c = c} {s = s} (l b) f g (coefficients_after (map (step_of p q) bs) cs ss) (signs_after (map (step_of p q) bs) ss) r.vs r.ms r.legals r.smalls r.coefficients r.signs r.few
    (source (step_of p q b) s) (says (is_bottom_band b) (position_of p b - position_of q b) s) in
    record { vs = t.vs; ms = t.ms; legals = t.legals; smalls = t.smalls; coefficients = t.coefficients; signs = t.signs; few = t.few }

-- ════ from streams ════

source_wide : (b : Bool) (w : ℕ) (z : Bool) {ws : List ℕ} → Wide ws → Wide (srl_width (source_of b w z) w ws)
source_wide b zero z h = h
source_wide true (suc w) z h = h
source_wide false (suc w) true h = wide (zero-lt-suc w) h
source_wide false (suc w) false h = h

widths_wide : (ts : List Step) (ss : List ℤ) → Wide (srl_widths ts ss)
unfolding srl_widths
widths_wide [] ss = Wide.none
widths_wide (t ∷ ts) [] = Wide.none
widths_wide (t ∷ ts) (s ∷ ss) = source_wide t.bottom t.width (is_zero s) (widths_wide ts ss)

numbers_small : (s ws : List ℕ) (n : ℕ) → Small ws (numbers s ws n)
unfolding numbers
numbers_small s [] n = Small.none
numbers_small s (w ∷ ws) n = small (num_lt s n w) (numbers_small s ws (n + w))

-- whatever the streams hold
pub pass_sound : {p q bs : List ℕ} {cs ss : List ℤ} → Below p q → FitsRow p bs cs ss → (srl_data raw_data : List ℕ)
    → GainsRow p q bs cs ss (upgraded_coefficients (map (step_of p q) bs) srl_data raw_data cs ss) (upgraded_signs (map (step_of p q) bs) srl_data ss)
pass_sound {p} {q} {bs} {cs} {ss} l f srl_data raw_data =
    let ts = map (step_of p q) bs in
    walk_sound l f (srl_values ts srl_data ss) (raw_numbers ts raw_data ss)
    (read-magnitudes.bounded srl_data (srl_widths ts ss) start (widths_wide ts ss)) (numbers_small raw_data (raw_widths ts ss) 0)

-- streams that give cs' and ss'
pub record Streams (p q bs : List ℕ) (cs ss cs' ss' : List ℤ) : Type 0 where
  pub srl_data : List ℕ
  pub raw_data : List ℕ
  pub srl : Stream srl_data (length bs)
  pub raw : Stream raw_data (length bs)
  pub coefficients : upgraded_coefficients (map (step_of p q) bs) srl_data raw_data cs ss ≡ cs'
  pub signs : upgraded_signs (map (step_of p q) bs) srl_data ss ≡ ss'

-- what each place may become, some streams give: those that the writer makes of the values and numbers
pub pass_whole : {p q bs : List ℕ} {cs ss cs' ss' : List ℤ} → Below p q → FitsRow p bs cs ss → GainsRow p q bs cs ss cs' ss' → Streams p q bs cs ss cs' ss'
pass_whole {p} {q} {bs} {cs} {ss} l f g =
    let ts = map (step_of p q) bs in
    let r = walk_whole l f g in
    let ws = srl_widths ts ss in
    let us = raw_widths ts ss in
    let v : srl_values ts (srl_stream ws r.vs) ss ≡ r.vs = (read_values_lem ws r.vs r.legals).gives in
    let m : raw_numbers ts (raw_stream us r.ms) ss ≡ r.ms = read_raw r.smalls in
    record {
      srl_data = srl_stream ws r.vs;
      raw_data = raw_stream us r.ms;
      srl = srl_stream_lem ws r.vs (length bs) r.few.count r.few.sum;
      raw = raw_stream_lem us r.ms (length bs) r.few.bits;
      coefficients = ap₂ (coefficients_after ts cs ss) v m ∙ r.coefficients;
      signs = ap (signs_after ts ss) v ∙ r.signs;
    }
  where
    read_raw : {us ms : List ℕ} → Small us ms → numbers (raw_stream us ms) us 0 ≡ ms
    read_raw {us} {ms} h =
        let bits = bits_of_all us ms in
        let s = raw_stream us ms in
        read_numbers_lem h s 0 (pack_holds bits s 0 0 0 [] (omega arith) (sym (append-nil s)))
