-- One place, by its level: what it may become is a greater level of its family, and a pass brings it there. `fitting` has the families and the levels.
use mathlib.Core.Path.{◌≡◌, refl, sym, ap, ◌∙◌}
use mathlib.Core.Logic.{◌≢◌}
use mathlib.Core.Bool.{Bool, true, false, ◌||◌, true≢false}
use Prim.Native.Nat.{ℕ, zero, suc, ◌+◌, ◌-◌, ◌*◌, ◌%◌, ◌^◌, ◌≤◌, ◌<◌, min}
use native.Mathlib.Nat.{suc-add, zero-add, zero-mul, mul-pos, zero-lt-suc, add-zero, add-suc, le_trans, le_refl}
use native.Mathlib.Omega.{arith}
use native.Mathlib.Decide.{dec_lt}
use lib.IntN.{ℤ, pos, negsuc, neg_ℤ, nat_abs, ◌+ℤ◌, +ℤ_assoc, +ℤ_idl, +ℤ_idr, pos-ne-negsuc}
use lib.Signed.{mag}
use lib.Pow.{pow_pos, pow_mono}
use Rattle.fixed.specs.Cut.{cut_level}
use Rattle.fixed.proofs.Clamp.{clamp_same}
use Rattle.fixed.proofs.Cuts.{cut_rest, rest_small}
use Rattle.fixed.proofs.Sign.{abs_minus}
use Rattle.fixed.specs.Fixed.{clamp_i16, is_zero, is_one, sign_of, add_scaled, sub_scaled}
use Rattle.progressive_decoder.specs.Upgrade.{srl_coefficient, srl_sign, raw_coefficient}
use Rattle.fitting.specs.Place.{Place, Multiple, Fits, level_of}
use Rattle.fitting.proofs.Level.{multiple_down, multiple_add, multiple_diff, multiple_times, add_small, small_add, room, cut_multiple}
use Rattle.fitting.proofs.Families.{own, Family, plus, minus, floor, bottom, at_level, top, side_of, mag_neg, floor_range, more_floor, level_fits, place_path, own_is, floor_is, floor_level, level_below, level_multiple, Levelled, levelled}
use Rattle.reach.specs.Place.{Kept, More, Gains}

-- ---- integers

clamp_id : (z : ℤ) → mag z < 32768 → clamp_i16 z ≡ z
clamp_id z h = sym (clamp_same z h)

-- away from zero
down : (a d : ℕ) → negsuc a +ℤ neg_ℤ (pos d) ≡ neg_ℤ (pos (suc a + d))
down a zero = +ℤ_idr (negsuc a) ∙ ap (λ (x : ℕ). neg_ℤ (pos x)) (sym (add-zero (suc a)))
down a (suc d) = ap (λ (x : ℕ). neg_ℤ (pos x)) (sym (suc-add a (suc d) ∙ ap suc (add-suc a d)))

-- ---- a level rises to any greater one

kept_plus : (a d : ℕ) → Kept false (own (pos a)) (own (pos (a + d)))
unfolding sign_of
kept_plus zero d = λ f. absurd (f refl)
kept_plus (suc a) d = λ f. rw (suc-add a d)

kept_minus : (a d : ℕ) → Kept false (own (neg_ℤ (pos a))) (own (neg_ℤ (pos (a + d))))
unfolding sign_of
kept_minus zero d = λ f. absurd (f refl)
kept_minus (suc a) d = λ f. rw (suc-add a d)

-- a place may become that of any level of its family that is less than 2^p above its own
pub level_gain : (f : Family) (p q a d : ℕ) → q ≤ 15 → d < 2 ^ p → a + d < top f → Multiple (2 ^ q) (a + d) → Gains (bottom f) p q (at_level f a) (at_level f (a + d))
level_gain plus p q a d h l t k = record { fits = level_fits plus q (a + d) h t k; kept = kept_plus a d; added = d; more = refl; less = omega arith }
level_gain minus p q a d h l t k = record { fits = level_fits minus q (a + d) h t k; kept = kept_minus a d; added = d; more = abs_minus (a + d) ∙ ap (λ (x : ℕ). x + d) (sym (abs_minus a)); less = omega arith }
level_gain (floor s) p q a d h l t k = record { fits = level_fits (floor s) q (a + d) h t k; kept = refl; added = d; more = more_floor a d; less = omega arith }

-- ---- every place that fits is at a level, and what it may become is a greater level of the same family

-- both places by their levels: from base at the position p to base + up at q
pub record Rise (b : Bool) (p q : ℕ) (x y : Place) : Type 0 where
  pub family : Family
  pub base : ℕ
  pub up : ℕ
  pub kind : b ≡ bottom family
  pub from : x ≡ at_level family base
  pub to : y ≡ at_level family (base + up)
  pub low : p ≤ 15
  pub lower : q ≤ 15
  pub start : Multiple (2 ^ p) base
  pub last : Multiple (2 ^ q) (base + up)
  pub less : up < 2 ^ p
  pub below : base + up < top family

record Side (c c' : ℤ) (d : ℕ) : Type 0 where
  family : Family
  kind : false ≡ bottom family
  from : own c ≡ at_level family (nat_abs c)
  to : own c' ≡ at_level family (nat_abs c + d)
  below : mag c' < 32768 → nat_abs c + d < top family

side : (c c' : ℤ) (d : ℕ) → nat_abs c' ≡ nat_abs c + d → (sign_of c ≢ pos 0 → sign_of c' ≡ sign_of c) → Side c c' d
unfolding sign_of
side (pos n) (pos m) d e k = record { family = plus; kind = refl; from = refl; to = ap (λ (x : ℕ). own (pos x)) e; below = λ h. omega arith }
side (pos zero) (negsuc m) d e k = record { family = minus; kind = refl; from = refl; to = ap (λ (x : ℕ). own (neg_ℤ (pos x))) e; below = λ h. omega arith }
side (pos (suc n)) (negsuc m) d e k = absurd (pos-ne-negsuc 1 0 (sym (k (λ f. omega (arith, ap nat_abs f)))))
side (negsuc n) (pos zero) d e k = absurd (pos-ne-negsuc 0 0 (k (λ f. pos-ne-negsuc 0 0 (sym f))))
side (negsuc n) (pos (suc m)) d e k = absurd (pos-ne-negsuc 1 0 (k (λ f. pos-ne-negsuc 0 0 (sym f))))
side (negsuc n) (negsuc m) d e k = record { family = minus; kind = refl; from = refl; to = ap (λ (x : ℕ). own (neg_ℤ (pos x))) e; below = λ h. omega arith }

-- what a place that fits may become is a greater level of its family
pub rise : (b : Bool) (p q : ℕ) {x y : Place} → Fits b p x → Gains b p q x y → Rise b p q x y
rise false p q {x} {y} h g = record {
  family = s.family;
  base = nat_abs x.coefficient;
  up = g.added;
  kind = s.kind;
  from = own_is x h.own ∙ s.from;
  to = own_is y g.fits.own ∙ s.to;
  low = h.low;
  lower = g.fits.low;
  start = h.multiple;
  last = rw g.more at g.fits.multiple;
  less = omega (arith, g.less, pow_pos p);
  below = s.below g.fits.range;
}
  where
    stays : x.sign ≢ pos 0 → y.sign ≡ x.sign
    stays = g.kept

    s : Side x.coefficient y.coefficient g.added
    s = side x.coefficient y.coefficient g.added g.more (λ f. sym g.fits.own ∙ stays (λ e. f (sym h.own ∙ e)) ∙ h.own)
rise true p q {x} {y} h g = record {
  family = floor x.sign;
  base = level_of true x.coefficient;
  up = g.added;
  kind = refl;
  from = place_path (floor_is x.coefficient h.range) refl;
  to = place_path here g.kept;
  low = h.low;
  lower = g.fits.low;
  start = level_multiple true p x.coefficient h.low h.range h.multiple;
  last = rw same at (level_multiple true q y.coefficient g.fits.low g.fits.range g.fits.multiple);
  less = omega (arith, g.less, pow_pos p);
  below = rw same at (level_below true y g.fits.range);
}
  where
    here : y.coefficient ≡ pos (level_of true x.coefficient + g.added) +ℤ negsuc 32767
    here = g.more ∙ ap (λ (z : ℤ). z +ℤ pos g.added) (floor_is x.coefficient h.range) ∙ sym (more_floor (level_of true x.coefficient) g.added)

    same : level_of true y.coefficient ≡ level_of true x.coefficient + g.added
    same = ap (level_of true) here ∙ floor_level (level_of true x.coefficient + g.added)

-- ---- what a place may become: nothing, one step after another, one step before another

-- from a position to the same a place may stay
pub gain_refl : (b : Bool) (p : ℕ) {x : Place} → Fits b p x → Gains b p p x x
gain_refl true p {x} h = record { fits = h; kept = refl; added = 0; more = sym (+ℤ_idr x.coefficient); less = omega (arith, pow_pos p) }
gain_refl false p h = record { fits = h; kept = λ f. refl; added = 0; more = omega arith; less = omega (arith, pow_pos p) }

module _ {b : Bool} {p q : ℕ} {x y : Place} (r : Rise b p q x y) where
  up_multiple : q ≤ p → Multiple (2 ^ q) r.up
  up_multiple h = multiple_diff r.up (pow_pos q) (multiple_down r.base h r.start) r.last refl

-- from a position to the same it cannot change
pub gain_same : (b : Bool) (p : ℕ) {x y : Place} → Fits b p x → Gains b p p x y → y ≡ x
gain_same b p {x} {y} h g = r.to ∙ ap (at_level r.family) none ∙ sym r.from
  where
    r : Rise b p p x y
    r = rise b p p h g

    none : r.base + r.up ≡ r.base
    none = omega (arith, room (le_refl p) (up_multiple r (le_refl p)) r.less)

kept_trans : (b : Bool) (x y z : Place) → Kept b x y → Kept b y z → Kept b x z
kept_trans true x y z k l = l ∙ k
kept_trans false x y z k l = λ f. l (λ e. f (sym (k f) ∙ e)) ∙ k f

more_trans : (b : Bool) (x y z : Place) (d e : ℕ) → More b x d y → More b y e z → More b x (d + e) z
more_trans true x y z d e k l = l ∙ ap (λ (c : ℤ). c +ℤ pos e) k ∙ +ℤ_assoc x.coefficient (pos d) (pos e)
more_trans false x y z d e k l = omega arith

added_multiple : (b : Bool) (p q : ℕ) {x y : Place} → q ≤ p → Fits b p x → (g : Gains b p q x y) → Multiple (2 ^ q) g.added
unfolding rise
added_multiple true p q h f g = up_multiple (rise true p q f g) h
added_multiple false p q h f g = up_multiple (rise false p q f g) h

-- two gains one after the other are one
pub gain_trans : (b : Bool) (p q r : ℕ) {x y z : Place} → q ≤ p → Fits b p x → Gains b p q x y → Gains b q r y z → Gains b p r x z
gain_trans b p q r {x} {y} {z} h f g k = record {
  fits = k.fits;
  kept = kept_trans b x y z g.kept k.kept;
  added = g.added + k.added;
  more = more_trans b x y z g.added k.added g.more k.more;
  less = omega (arith, room h (added_multiple b p q h f g) g.less, k.less);
}

rise_mid : (b : Bool) (p q r : ℕ) (x z : Place) → q ≤ p → Rise b p r x z → (y : Place) × Gains b p q x y × Gains b q r y z
rise_mid b p q r x z h v = (at_level v.family (v.base + cut_level q v.up), first, second)
  where
    d : ℕ
    d = v.up % 2 ^ q

    e : v.up ≡ cut_level q v.up + d
    e = cut_rest q v.up

    first : Gains b p q x (at_level v.family (v.base + cut_level q v.up))
    first = rw (v.kind, v.from)
        (level_gain v.family p q v.base (cut_level q v.up) (le_trans h v.low) (omega (arith, e, v.less)) (omega (arith, e, v.below))
        (multiple_add (multiple_down v.base h v.start) (cut_multiple q v.up)))

    same : v.base + v.up ≡ v.base + cut_level q v.up + d
    same = omega (arith, e)

    second : Gains b q r (at_level v.family (v.base + cut_level q v.up)) z
    second = rw (v.kind, v.to, same)
        (level_gain v.family q r (v.base + cut_level q v.up) d v.lower (rest_small q v.up) (rw same at v.below) (rw same at v.last))

-- the target, cut at the position between
pub gain_mid : (b : Bool) (p q r : ℕ) {x z : Place} → q ≤ p → Fits b p x → Gains b p r x z → (y : Place) × Gains b p q x y × Gains b q r y z
gain_mid b p q r {x} {z} h f g = rise_mid b p q r x z h (rise b p r f g)

-- ---- what a pass does at a place

-- an SRL value is due: outside the bottom, at a zero sign
abbrev pub due : Bool → ℤ → Bool
due true s = false
due false s = is_zero s

-- a place after an SRL value
abbrev pub srl_place : ℕ → ℤ → Place → Place
srl_place q v x = record { coefficient = srl_coefficient q v x.coefficient; sign = srl_sign v x.sign }

-- and after raw bits
abbrev pub raw_place : Bool → ℕ → ℕ → Place → Place
raw_place b q r x = record { coefficient = raw_coefficient (b || is_one x.sign) q r x.coefficient; sign = x.sign }

-- ---- raw bits

-- a level that raw bits reach rises by them
raw_step : (f : Family) (q a r : ℕ) → due (bottom f) (at_level f a).sign ≡ false → a + r * 2 ^ q < top f → raw_place (bottom f) q r (at_level f a) ≡ at_level f (a + r * 2 ^ q)
unfolding sign_of is_zero is_one add_scaled sub_scaled
raw_step plus q zero r e h = absurd (true≢false e)
raw_step plus q (suc a) r e h = place_path (clamp_id (pos (suc a + r * 2 ^ q)) h) (rw (suc-add a (r * 2 ^ q)))
raw_step minus q zero r e h = absurd (true≢false e)
raw_step minus q (suc a) r e h =
    place_path (ap clamp_i16 (down a (r * 2 ^ q)) ∙ clamp_id (neg_ℤ (pos (suc a + r * 2 ^ q))) (mag_neg (suc a + r * 2 ^ q) h)) (rw (suc-add a (r * 2 ^ q)))
raw_step (floor s) q a r e h = place_path (ap clamp_i16 (sym (more_floor a (r * 2 ^ q))) ∙ clamp_id (pos (a + r * 2 ^ q) +ℤ negsuc 32767) (floor_range (a + r * 2 ^ q) h)) refl

-- −32768 stays
raw_stuck : (q a r : ℕ) → due false (at_level minus a).sign ≡ false → 32768 ≤ a → a < 32769 → raw_place false q r (at_level minus a) ≡ at_level minus a
unfolding sign_of is_zero is_one add_scaled sub_scaled clamp_i16
raw_stuck q zero r e h l = absurd (true≢false e)
raw_stuck q (suc a) r e h l = place_path (ap clamp_i16 (down a (r * 2 ^ q)) ∙ ap (λ (x : ℕ). clamp_i16 (neg_ℤ (pos x))) (suc-add a (r * 2 ^ q)) ∙ ap negsuc {x = min (a + r * 2 ^ q) 32767} {y = a} (omega arith)) refl

-- raw bits, at a level
module _ (p q r : ℕ) (h : q ≤ p) (u : p ≤ 15) (l : r < 2 ^ (p - q)) where
  raw_rises : (f : Family) (a : ℕ) → due (bottom f) (at_level f a).sign ≡ false → a + 2 ^ p ≤ top f → Multiple (2 ^ p) a → Gains (bottom f) p q (at_level f a) (raw_place (bottom f) q r (at_level f a))
  raw_rises f a e t m =
      let s : r * 2 ^ q < 2 ^ p = add_small r h l in
      rw (raw_step f q a r e (omega arith))
      (level_gain f p q a (r * 2 ^ q) (omega arith) s (omega arith) (multiple_add (multiple_down a h m) (multiple_times (2 ^ q) r)))

  raw_level : (f : Family) (a : ℕ) → due (bottom f) (at_level f a).sign ≡ false → a < top f → Multiple (2 ^ p) a → Gains (bottom f) p q (at_level f a) (raw_place (bottom f) q r (at_level f a))
  raw_level plus a e t m = raw_rises plus a e (room {p = 15} u m t) m
  raw_level (floor s) a e t m = raw_rises (floor s) a e (room {p = 16} (omega arith) m t) m
  raw_level minus a e t m = pick (dec_lt a 32768)
    where
      stays : 32768 ≤ a → Gains false p q (at_level minus a) (at_level minus a)
      stays b = rw add-zero at (level_gain minus p q a 0 (omega arith) (pow_pos p) (omega arith) (rw (add-zero a) (multiple_down a h m)))

      pick : Dec (a < 32768) → Gains false p q (at_level minus a) (raw_place false q r (at_level minus a))
      pick (yes b) = raw_rises minus a e (omega (arith, room {p = 15} u m b)) m
      pick (no b) = rw (raw_stuck q a r e (omega arith) t) (stays (omega arith))

-- by its level
raw_rise : (b : Bool) (p q r : ℕ) (x : Place) → q ≤ p → Levelled b p x → due b x.sign ≡ false → r < 2 ^ (p - q) → Gains b p q x (raw_place b q r x)
raw_rise b p q r x h v e l = rw (v.kind, v.is)
    (raw_level p q r h v.low l v.family v.level (rw (v.kind, v.is) at e) v.below v.multiple)

-- raw bits bring a place that fits to what it may become
pub raw_sound : (b : Bool) (p q r : ℕ) {x : Place} → q ≤ p → Fits b p x → due b x.sign ≡ false → r < 2 ^ (p - q) → Gains b p q x (raw_place b q r x)
raw_sound b p q r {x} h f e l = raw_rise b p q r x h (levelled b p f) e l

-- the bits that bring it to a greater level
rise_raw : (b : Bool) (p q : ℕ) (x y : Place) → q ≤ p → due b x.sign ≡ false → (v : Rise b p q x y) → (m : Multiple (2 ^ q) v.up) → (r : ℕ) × (r < 2 ^ (p - q)) × (raw_place b q r x ≡ y)
rise_raw b p q x y h e v m = (m.times, small_add m.times h (rw m.is at v.less), same)
  where
    same : raw_place b q m.times x ≡ y
    same = rw (v.to, m.is, v.kind, v.from)
        (raw_step v.family q v.base m.times (rw (v.kind, v.from) at e) (rw m.is at v.below))

-- and to all of it, by some bits
pub raw_whole : (b : Bool) (p q : ℕ) {x y : Place} → q ≤ p → Fits b p x → due b x.sign ≡ false → Gains b p q x y → (r : ℕ) × (r < 2 ^ (p - q)) × (raw_place b q r x ≡ y)
raw_whole b p q {x} {y} h f e g = rise_raw b p q x y h e (rise b p q f g) (up_multiple (rise b p q f g) h)

-- ---- an SRL value

due_zero : (b : Bool) (p : ℕ) (x : Place) → Fits b p x → due b x.sign ≡ true → (b ≡ false) × (x ≡ own (pos 0))
unfolding is_zero sign_of
due_zero true p x f e = absurd (true≢false (sym e))
due_zero false p x f e = (refl, own_is x f.own ∙ ap own (go x.coefficient (rw f.own at e)))
  where
    go : (c : ℤ) → due false (sign_of c) ≡ true → c ≡ pos 0
    go (pos zero) e = refl
    go (pos (suc n)) e = absurd (true≢false (sym e))
    go (negsuc n) e = absurd (true≢false (sym e))

sgn_pos : (k : ℕ) → 0 < k → pos 1 ≡ sign_of (pos k)
unfolding sign_of
sgn_pos zero h = absurd (omega arith)
sgn_pos (suc k) h = refl

sgn_neg : (k : ℕ) → 0 < k → negsuc 0 ≡ sign_of (neg_ℤ (pos k))
unfolding sign_of
sgn_neg zero h = absurd (omega arith)
sgn_neg (suc k) h = refl

srl_step : (q : ℕ) (v : ℤ) → nat_abs v * 2 ^ q < 32768 → srl_place q v (own (pos 0)) ≡ at_level (side_of v) (nat_abs v * 2 ^ q)
unfolding sign_of add_scaled sub_scaled
srl_step q (pos zero) h = ap (λ (n : ℕ). own (pos n)) (sym (zero-mul (2 ^ q)))
srl_step q (pos (suc n)) h =
    place_path (ap (λ (k : ℕ). clamp_i16 (pos k)) (zero-add (suc n * 2 ^ q)) ∙ clamp_id (pos (suc n * 2 ^ q)) h) (sgn_pos (suc n * 2 ^ q) (mul-pos (zero-lt-suc n) (pow_pos q)))
srl_step q (negsuc n) h =
    place_path (ap clamp_i16 (+ℤ_idl (neg_ℤ (pos (suc n * 2 ^ q)))) ∙ clamp_id (neg_ℤ (pos (suc n * 2 ^ q))) (mag_neg (suc n * 2 ^ q) (omega arith)))
    (sgn_neg (suc n * 2 ^ q) (mul-pos (zero-lt-suc n) (pow_pos q)))

side_gain : (v : ℤ) (p q k : ℕ) → q ≤ 15 → k < 2 ^ p → k < 32768 → Multiple (2 ^ q) k → Gains false p q (own (pos 0)) (at_level (side_of v) k)
side_gain (pos n) p q k h l t m = rw (zero-add k) at (level_gain plus p q 0 k h l (omega arith) (rw (zero-add k) m))
side_gain (negsuc n) p q k h l t m = rw (zero-add k) at (level_gain minus p q 0 k h l (omega arith) (rw (zero-add k) m))

-- an SRL value brings a place that fits to what it may become
pub srl_sound : (b : Bool) (p q : ℕ) (v : ℤ) {x : Place} → q ≤ p → Fits b p x → due b x.sign ≡ true → nat_abs v < 2 ^ (p - q) → Gains b p q x (srl_place q v x)
srl_sound b p q v {x} h f e l =
    let small : nat_abs v * 2 ^ q < 2 ^ p = add_small (nat_abs v) h l in
    let range : nat_abs v * 2 ^ q < 32768 = omega (arith, pow_mono {j = 15} f.low) in
    rw ((due_zero b p x f e).0, (due_zero b p x f e).1, srl_step q v range)
    (side_gain v p q (nat_abs v * 2 ^ q) (omega (arith, f.low)) small range (multiple_times (2 ^ q) (nat_abs v)))

srl_value : (q k : ℕ) (c : ℤ) → nat_abs c ≡ k * 2 ^ q → nat_abs c < 32768 → (v : ℤ) × (nat_abs v ≡ k) × (srl_place q v (own (pos 0)) ≡ own c)
srl_value q k (pos n) e h = (pos k, refl, srl_step q (pos k) (omega arith) ∙ ap (λ (n : ℕ). own (pos n)) (sym e))
srl_value q zero (negsuc n) e h = absurd (omega arith)
srl_value q (suc k) (negsuc n) e h = (negsuc k, refl, srl_step q (negsuc k) (omega arith) ∙ ap (λ (n : ℕ). own (neg_ℤ (pos n))) (sym e))

-- the value that brings 0 there
zero_whole : (p q : ℕ) (y : Place) → q ≤ p → p ≤ 15 → Gains false p q (own (pos 0)) y → (v : ℤ) × (nat_abs v < 2 ^ (p - q)) × (srl_place q v (own (pos 0)) ≡ y)
zero_whole p q y h u g = (w.0, rw w.1 (small_add m.times h (omega (arith, m.is, g.more, g.less))), w.2 ∙ sym (own_is y g.fits.own))
  where
    m : Multiple (2 ^ q) (nat_abs y.coefficient)
    m = g.fits.multiple

    w : (v : ℤ) × (nat_abs v ≡ m.times) × (srl_place q v (own (pos 0)) ≡ own y.coefficient)
    w = srl_value q m.times y.coefficient m.is (omega (arith, g.more, g.less, pow_mono {j = 15} u))

-- and to all of it, by some value
pub srl_whole : (b : Bool) (p q : ℕ) {x y : Place} → q ≤ p → Fits b p x → due b x.sign ≡ true → Gains b p q x y → (v : ℤ) × (nat_abs v < 2 ^ (p - q)) × (srl_place q v x ≡ y)
srl_whole b p q {x} {y} h f e g = rw (due_zero b p x f e).1 (zero_whole p q y h f.low (rw ((due_zero b p x f e).0, (due_zero b p x f e).1) at g))
