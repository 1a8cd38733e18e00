-- The round trip by the symmetric rule over a target's own cut: one place outside the bottom, one of the bottom, then all places, then the calls.
use mathlib.Core.Path.{◌≡◌, refl, sym, ap, ap₂, ◌∙◌, subst, subst₂}
use mathlib.Core.Bool.{Bool, true, false, not, true≢false}
use mathlib.Core.List.{List, [], ◌∷◌, ◌++◌, map, append-nil}
use Prim.Native.Nat.{ℕ, zero, suc, ◌+◌, ◌-◌, ◌*◌, ◌/◌, ◌^◌, ◌≤◌, ◌<◌}
use native.Mathlib.Nat.{zero-div, zero-mul, suc-mul, add-zero, mul_assoc, mul_comm, mul-pos, mul-le-mul_right}
use native.Mathlib.Omega.{arith}
use borrow.Author.Tests.{le-ltb, le-leb}
use lib.Arith.{digits_div}
use lib.IntN.{ℤ, pos, negsuc, neg_ℤ, nat_abs, ◌+ℤ◌, ◌-ℤ◌, ◌*ℤ◌, +ℤ_assoc, +ℤ_comm, +ℤ_idr, +ℤ-suc_ℤ, suc_ℤ-*ℤ, +ℤ-neg_ℤ_cancel, zero-*ℤ}
use lib.ListN.{length, get_or, replicate, length-append, length-replicate}
use lib.Pow.{pow_pos, pow-add, shr-shr, shl-shr, shr_mono}
use lib.Signed.{mag}
use Rattle.fixed.specs.Fixed.{clamp_i16, floor_shift, is_zero, is_one, is_negative, sign_of, with_sign, add_scaled}
use Rattle.fixed.specs.Cut.{cut_level, toward_zero, downward}
use Rattle.fixed.proofs.Clamp.{clamp_same}
use Rattle.fixed.proofs.Cuts.{cut_below, cut_clean, down_rest, abs_toward, toward_range}
use Rattle.fixed.proofs.Sign.{zero_is, abs_minus}
use Rattle.bands.specs.Bands.{position_of, bands_of}
use Rattle.bands.specs.Positions.{row_in_domain}
use Rattle.bands.proofs.Every.{both_pass, row_low}
use Rattle.bands.proofs.Spread.{place_map, place_whole, bands_whole}
use Rattle.answer.specs.Answers.{long_enough}
use Rattle.upgrade_steps.specs.Steps.{Step, Source, srl, raw, source, source_of, steps, step_of}
use Rattle.upgrade_steps.specs.Cut.{cut_at, cut_sign_at, cut_all, cut_signs_all, cut_component, cut_component_signs}
use Rattle.upgrade_steps.proofs.CutLists.{cut_length, cut_signs_length, cut_mapped, cut_signs_mapped}
use Rattle.progressive_decoder.specs.Upgrade.{srl_coefficient, srl_sign}
use Rattle.progressive_encoder.specs.Encode.{symmetric_rule, cut_difference, cut_number, not_below, srl_given, srl_differences, raw_given, raw_differences}
use Rattle.progressive.specs.CutTrip.{before, cut_before, signs_before, cut_behind, signs_behind, Aimed, aimed, Brings, Alike, CutAsked, CutCalls, extremes, CutRoundTrip}
use Rattle.progressive.proofs.AnyRule.{Fitting, Fittings, fitting, all_sent, comes_to, sign_to, Comes, comes, come_back, room_decides, calls_come}
use Rattle.progressive.proofs.Regained.{from_zero, down_range, raw_cut, sign_cut}
use Rattle.progressive.proofs.OwnCuts.{number_small, sign_none}

-- ════ integers ════

-- a coefficient is its magnitude with its sign
with_own : (c : ℤ) → c ≡ with_sign (is_negative c) (nat_abs c)
with_own (pos n) = sym (ap (λ (b : Bool). with_sign b n) (le-ltb n 0 (omega arith)))
with_own (negsuc n) = refl

-- a product with a magnitude keeps the sign
with_times : (u : Bool) (m k : ℕ) → with_sign u m *ℤ pos k ≡ with_sign u (m * k)
with_times false m k = refl
with_times true zero k = zero-*ℤ (pos k) ∙ sym (ap (λ (n : ℕ). neg_ℤ (pos n)) (zero-mul k))
with_times true (suc m) k = refl

-- and so does a magnitude that is divided
with_shift : (u : Bool) (m k : ℕ) → with_sign (is_negative (with_sign u m)) (nat_abs (with_sign u m) / k) ≡ with_sign u (m / k)
with_shift false m k = ap (λ (b : Bool). with_sign b (m / k)) (le-ltb m 0 (omega arith))
with_shift true zero k = ap pos (zero-div k) ∙ sym (ap (λ (n : ℕ). neg_ℤ (pos n)) (zero-div k))
with_shift true (suc m) k = refl

-- one product for two
times_twice : (z : ℤ) (a b : ℕ) → z *ℤ pos a *ℤ pos b ≡ z *ℤ pos (a * b)
times_twice (pos n) a b = ap pos (mul_assoc n a b)
times_twice (negsuc n) a b = with_times true (suc n * a) b ∙ ap (λ (m : ℕ). neg_ℤ (pos m)) (mul_assoc (suc n) a b)

-- a product of a sum
times_add : (x : ℤ) (r k : ℕ) → (x +ℤ pos r) *ℤ pos k ≡ x *ℤ pos k +ℤ pos (r * k)
times_add x zero k = ap (λ (z : ℤ). z *ℤ pos k) (+ℤ_idr x) ∙ sym (ap (λ (n : ℕ). x *ℤ pos k +ℤ pos n) (zero-mul k) ∙ +ℤ_idr (x *ℤ pos k))
times_add x (suc r) k =
    ap (λ (z : ℤ). z *ℤ pos k) (+ℤ-suc_ℤ x (pos r))
    ∙ suc_ℤ-*ℤ (x +ℤ pos r) (pos k)
    ∙ ap (λ (z : ℤ). z +ℤ pos k) (times_add x r k)
    ∙ +ℤ_assoc (x *ℤ pos k) (pos (r * k)) (pos k)
    ∙ ap (λ (n : ℕ). x *ℤ pos k +ℤ pos n) (sym (suc-mul r k))

-- ════ a place outside the bottom ════

-- over 0 the value is the coefficient, its magnitude shifted down
over_zero : (q : ℕ) (c : ℤ) → cut_difference q c (pos 0) ≡ with_sign (is_negative c) (nat_abs c / 2 ^ q)
over_zero q c = ap (λ (z : ℤ). with_sign (is_negative z) (nat_abs z / 2 ^ q)) (+ℤ_idr c)

-- shifted up again it is the coefficient's cut
shifted_up : (q : ℕ) (c : ℤ) → with_sign (is_negative c) (nat_abs c / 2 ^ q) *ℤ pos (2 ^ q) ≡ toward_zero q c
shifted_up q c = with_times (is_negative c) (nat_abs c / 2 ^ q) (2 ^ q)

-- the magnitude of a magnitude with a sign
abs_with : (u : Bool) (m : ℕ) → nat_abs (with_sign u m) ≡ m
abs_with false m = refl
abs_with true m = abs_minus m

-- a sign that is not 0 is that of a magnitude above 0
above : (u : Bool) (m : ℕ) → is_zero (sign_of (with_sign u m)) ≡ false → 0 < m
unfolding is_zero sign_of
above false zero e = absurd (true≢false e)
above true zero e = absurd (true≢false e)
above u (suc m) e = omega arith

-- all of those have the same sign
sign_one : (u : Bool) (m : ℕ) → 0 < m → sign_of (with_sign u m) ≡ sign_of (with_sign u 1)
unfolding sign_of
sign_one u zero h = absurd (omega arith)
sign_one false (suc m) h = refl
sign_one true (suc m) h = refl

sign_above : (u : Bool) (m n : ℕ) → 0 < m → 0 < n → sign_of (with_sign u m) ≡ sign_of (with_sign u n)
sign_above u m n h k = sign_one u m h ∙ sym (sign_one u n k)

-- which tells the side to which raw bits go
side_above : (u : Bool) (m : ℕ) → 0 < m → u ≡ not (is_one (sign_of (with_sign u m)))
unfolding sign_of is_one
side_above u zero h = absurd (omega arith)
side_above false (suc m) h = refl
side_above true (suc m) h = refl

-- a multiple has the same sign
sign_times : (u : Bool) (m k : ℕ) → 0 < k → sign_of (with_sign u m) ≡ sign_of (with_sign u (m * k))
sign_times u zero k h = ap (λ (n : ℕ). sign_of (with_sign u n)) (sym (zero-mul k))
sign_times u (suc m) k h = sign_above u (suc m) (suc m * k) (omega arith) (mul-pos (omega arith) h)

-- what the writer gives at a place for c fits its width, and brings p with the sign s to p' with the sign s'
record Goes (o : Source) (t : Step) (c p s p' s' : ℤ) : Type 0 where
  fits : Fitting symmetric_rule o t c p
  to : comes_to symmetric_rule o t c p s ≡ p'
  sign : sign_to symmetric_rule o t c p s ≡ s'

-- a step by its parts
abbrev step_by : Bool → ℕ → ℕ → Step
step_by b q w = record { bottom = b; width = w; position = q }

-- at a cut of 0 it is an SRL value
srl_goes : (q w : ℕ) (c : ℤ) → mag c < 32768 → is_zero (sign_of (toward_zero (q + w) c)) ≡ true
    → Goes srl (step_by false q w) c (toward_zero (q + w) c) (sign_of (toward_zero (q + w) c)) (toward_zero q c) (sign_of (toward_zero q c))
srl_goes q w c l e =
    let p = toward_zero (q + w) c in
    let none : p ≡ pos 0 = sign_none p (zero_is (sign_of p) e) in
    let m = nat_abs c / 2 ^ q in
    let v = with_sign (is_negative c) m in
    let value : cut_difference q c p ≡ v = ap (cut_difference q c) none ∙ over_zero q c in
    let small : m - 0 / 2 ^ q < 2 ^ w = number_small q w c (pos 0) none in
    let up : v *ℤ pos (2 ^ q) ≡ toward_zero q c = shifted_up q c in
    record {
      fits = rw (value, abs_with (is_negative c) m) (omega (arith, small, zero-div (2 ^ q)));
      to = ap₂ (λ (v p : ℤ). srl_coefficient q v p) value none ∙ from_zero q v (rw up (toward_range q c l)) ∙ up;
      sign = ap (λ (v : ℤ). srl_sign v (sign_of p)) value ∙ sign_cut v (sign_of p) e ∙ sign_times (is_negative c) m (2 ^ q) (pow_pos q);
    }

-- at another a raw number
raw_goes : (q w : ℕ) (c : ℤ) → mag c < 32768 → is_zero (sign_of (toward_zero (q + w) c)) ≡ false
    → Goes raw (step_by false q w) c (toward_zero (q + w) c) (sign_of (toward_zero (q + w) c)) (toward_zero q c) (sign_of (toward_zero q c))
raw_goes q w c l e =
    let p = toward_zero (q + w) c in
    let u = is_negative c in
    let n = nat_abs c in
    let near = cut_level (q + w) n in
    let clean : cut_level q near ≡ near = cut_clean q w n in
    let more : cut_level q near ≤ cut_level q n = mul-le-mul_right (2 ^ q) (shr_mono q (cut_below (q + w) n)) in
    let some : 0 < near = above u near e in
    let side : u ≡ not (is_one (sign_of p)) = side_above u near some in
    record {
      fits = number_small q w c p refl;
      to = raw_cut (is_one (sign_of p)) q c p (record {
        far = n;
        near = near;
        goal = with_own c ∙ ap (λ (b : Bool). with_sign b n) side;
        from = ap (λ (b : Bool). with_sign b near) side;
        further = cut_below (q + w) n;
        range = l;
        clean = clean;
      });
      sign = sign_above u near (cut_level q n) some (omega (arith, some, clean, more));
    }

-- ════ a place of the bottom ════

-- what was shifted up comes back
floor_back : (q : ℕ) (z : ℤ) → floor_shift (z *ℤ pos (2 ^ q)) q ≡ z
floor_back q (pos n) = ap pos (shl-shr n q)
floor_back q (negsuc n) =
    let e : suc n * 2 ^ q ≡ suc (n * 2 ^ q + (2 ^ q - 1)) = omega (arith, suc-mul n (2 ^ q), pow_pos q) in
    ap (λ (m : ℕ). floor_shift (neg_ℤ (pos m)) q) e ∙ ap negsuc (digits_div n {m = 2 ^ q} {r = 2 ^ q - 1} (omega (arith, pow_pos q)))

-- two shifts are one
floor_twice : (q w : ℕ) (c : ℤ) → floor_shift c (q + w) ≡ floor_shift (floor_shift c q) w
floor_twice q w (pos n) = ap pos (sym (shr-shr n q w))
floor_twice q w (negsuc n) = ap negsuc (sym (shr-shr n q w))

-- so a cut at 2^(q + w) is a cut at 2^w, in steps of 2^q
down_split : (q w : ℕ) (c : ℤ) → downward (q + w) c ≡ downward w (floor_shift c q) *ℤ pos (2 ^ q)
down_split q w c =
    ap₂ (λ (z : ℤ) (k : ℕ). z *ℤ pos k) (floor_twice q w c) (pow-add 2 q w ∙ mul_comm (2 ^ q) (2 ^ w))
    ∙ sym (times_twice (floor_shift (floor_shift c q) w) (2 ^ w) (2 ^ q))

-- a sum less its first part
add_minus : (x d : ℤ) → x +ℤ d -ℤ x ≡ d
add_minus x d = ap (λ (z : ℤ). z -ℤ x) (+ℤ_comm x d) ∙ +ℤ-neg_ℤ_cancel d x

-- the number is how far the floor lies above its cut, and is added
bottom_goes : (q w : ℕ) (c s : ℤ) → q ≤ 15 → mag c < 32768 → Goes raw (step_by true q w) c (downward (q + w) c) s (downward q c) s
unfolding add_scaled
bottom_goes q w c s h l =
    let v = floor_shift c q in
    let x = downward w v in
    let r = down_rest w v in
    let d = r.rest in
    let from : downward (q + w) c ≡ x *ℤ pos (2 ^ q) = down_split q w c in
    let apart : v -ℤ floor_shift (downward (q + w) c) q ≡ pos d =
    ap (λ (z : ℤ). v -ℤ floor_shift z q) from ∙ ap (λ (z : ℤ). v -ℤ z) (floor_back q x) ∙ ap (λ (z : ℤ). z -ℤ x) r.is ∙ add_minus x (pos d) in
    let number : cut_number true q c (downward (q + w) c) ≡ d = ap not_below apart in
    record {
      fits = rw number r.less;
      to =
          ap₂ (λ (m : ℕ) (z : ℤ). clamp_i16 (z +ℤ pos (m * 2 ^ q))) number from
          ∙ ap clamp_i16 (sym (times_add x d (2 ^ q)) ∙ ap (λ (z : ℤ). z *ℤ pos (2 ^ q)) (sym r.is))
          ∙ sym (clamp_same (downward q c) (down_range q c h l));
      sign = refl;
    }

-- ════ any place ════

-- by its source
place_goes : (b : Bool) (q w : ℕ) (c s : ℤ) → q + w ≤ 15 → mag c < 32768
    → Goes (source (step_by b q w) (cut_sign_at b (q + w) c s)) (step_by b q w) c (cut_at b (q + w) c) (cut_sign_at b (q + w) c s) (cut_at b q c) (cut_sign_at b q c s)
place_goes b q zero c s h l = record { fits = tt; to = ap (λ (k : ℕ). cut_at b k c) (add-zero q); sign = ap (λ (k : ℕ). cut_sign_at b k c s) (add-zero q) }
place_goes true q (suc w) c s h l = bottom_goes q (suc w) c s (omega arith) l
place_goes false q (suc w) c s h l = by (is_zero z) refl
  where
    z : ℤ
    z = sign_of (toward_zero (q + suc w) c)

    by : (b : Bool) → is_zero z ≡ b → Goes (source_of false (suc w) b) (step_by false q (suc w)) c (toward_zero (q + suc w) c) z (toward_zero q c) (sign_of (toward_zero q c))
    by true e = srl_goes q (suc w) c l e
    by false e = raw_goes q (suc w) c l e

-- a target that is cut already gives the same value
alike_value : (q w : ℕ) (c : ℤ) → is_zero (sign_of (toward_zero (q + w) c)) ≡ true → cut_difference q (toward_zero q c) (toward_zero (q + w) c) ≡ cut_difference q c (toward_zero (q + w) c)
alike_value q w c e =
    let p = toward_zero (q + w) c in
    let none : p ≡ pos 0 = sign_none p (zero_is (sign_of p) e) in
    let u = is_negative c in
    let n = nat_abs c in
    ap (cut_difference q (toward_zero q c)) none
    ∙ over_zero q (toward_zero q c)
    ∙ with_shift u (cut_level q n) (2 ^ q)
    ∙ ap (with_sign u) (shl-shr (n / 2 ^ q) q)
    ∙ sym (ap (cut_difference q c) none ∙ over_zero q c)

-- and the same number, over whatever coefficient
alike_number : (b : Bool) (q : ℕ) (c p : ℤ) → cut_number b q (cut_at b q c) p ≡ cut_number b q c p
alike_number true q c p = ap (λ (z : ℤ). not_below (z -ℤ floor_shift p q)) (floor_back q (floor_shift c q))
alike_number false q c p = ap (λ (m : ℕ). m - nat_abs p / 2 ^ q) (ap (λ (m : ℕ). m / 2 ^ q) (abs_toward q c) ∙ shl-shr (nat_abs c / 2 ^ q) q)

-- ════ all places ════

module _ (xs ys : List ℤ) where
  all_fitting : {ts : List Step} {cs ss : List ℤ} → Aimed ts cs ss → Fittings symmetric_rule ts cs (cut_before ts cs ++ xs) (signs_before ts cs ss ++ ys)
  unfolding cut_all cut_signs_all
  all_fitting Aimed.none = Fittings.none
  all_fitting (aimed {t = t} {c = c} {s = s} h l a) = fitting (place_goes t.bottom t.position t.width c s h l).fits (all_fitting a)

  all_come : {ts : List Step} {cs ss : List ℤ} → Aimed ts cs ss
      → Comes symmetric_rule ts cs (cut_before ts cs ++ xs) (signs_before ts cs ss ++ ys) (cut_behind ts cs ++ xs) (signs_behind ts cs ss ++ ys)
  unfolding cut_all cut_signs_all
  all_come Aimed.none = Comes.none
  all_come (aimed {t = t} {c = c} {s = s} h l a) =
      let g = place_goes t.bottom t.position t.width c s h l in
      comes g.to g.sign (all_come a)

  all_brought : {ts : List Step} {cs ss : List ℤ} → Aimed ts cs ss
      → Brings ts cs (cut_before ts cs ++ xs) (signs_before ts cs ss ++ ys) (cut_behind ts cs ++ xs) (signs_behind ts cs ss ++ ys)
  all_brought a =
      let sent = all_sent (all_fitting a) in
      let back = come_back sent (all_come a) in
      record { sent = sent; coefficients = back.0; signs = back.1 }

-- ════ a target cut already ════

-- what a place before others gives for the SRL stream
value_then : (b : Bool) (q w : ℕ) (c s : ℤ) (vs : List ℤ)
    → srl_given (source (step_by b q w) (cut_sign_at b (q + w) c s)) (cut_difference q (cut_at b q c) (cut_at b (q + w) c)) vs
    ≡ srl_given (source (step_by b q w) (cut_sign_at b (q + w) c s)) (cut_difference q c (cut_at b (q + w) c)) vs
value_then b q zero c s vs = refl
value_then true q (suc w) c s vs = refl
value_then false q (suc w) c s vs = by (is_zero (sign_of p)) refl
  where
    p : ℤ
    p = toward_zero (q + suc w) c

    by : (b : Bool) → is_zero (sign_of p) ≡ b → srl_given (source_of false (suc w) b) (cut_difference q (toward_zero q c) p) vs ≡ srl_given (source_of false (suc w) b) (cut_difference q c p) vs
    by true e = ap (λ (v : ℤ). v ∷ vs) (alike_value q (suc w) c e)
    by false e = refl

module _ (xs ys : List ℤ) where
  values_alike : {ts : List Step} {cs ss : List ℤ} → Aimed ts cs ss
      → srl_differences symmetric_rule ts (cut_behind ts cs) (cut_before ts cs ++ xs) (signs_before ts cs ss ++ ys) ≡ srl_differences symmetric_rule ts cs (cut_before ts cs ++ xs) (signs_before ts cs ss ++ ys)
  unfolding srl_differences cut_all cut_signs_all
  values_alike Aimed.none = refl
  values_alike (aimed {t = t} {c = c} {s = s} h l a) =
      value_then t.bottom t.position t.width c s _
      ∙ ap (srl_given (source t (cut_sign_at t.bottom (before t) c s)) (cut_difference t.position c (cut_at t.bottom (before t) c))) (values_alike a)

  numbers_alike : {ts : List Step} {cs ss : List ℤ} → Aimed ts cs ss
      → raw_differences symmetric_rule ts (cut_behind ts cs) (cut_before ts cs ++ xs) (signs_before ts cs ss ++ ys) ≡ raw_differences symmetric_rule ts cs (cut_before ts cs ++ xs) (signs_before ts cs ss ++ ys)
  unfolding raw_differences cut_all cut_signs_all
  numbers_alike Aimed.none = refl
  numbers_alike (aimed {t = t} {c = c} {s = s} h l a) =
      ap₂ (raw_given (source t (cut_sign_at t.bottom (before t) c s))) (alike_number t.bottom t.position c (cut_at t.bottom (before t) c)) (numbers_alike a)

-- ════ a component ════

-- nothing past the places
nils : (P : List ℤ → List ℤ → Type 0) (p s : List ℤ) → P (p ++ []) (s ++ []) → P p s
nils P p s x = subst₂ P (append-nil p) (append-nil s) x

module _ {prev curr : List ℕ} {cs ss : List ℤ} (a : CutAsked prev curr cs ss) (e : Bool) where
  before_is : (b : ℕ) → before (step_of prev curr b) ≡ position_of prev b
  before_is b = omega (arith, a.no_raise b)

  by_bands : steps e prev curr ≡ map (step_of prev curr) (bands_of e)
  by_bands = place_map e (step_of prev curr) (λ b. b)

  cut_before_lem : cut_before (steps e prev curr) cs ≡ cut_component e prev cs
  cut_before_lem = ap (λ (ts : List Step). cut_before ts cs) by_bands ∙ cut_mapped (step_of prev curr) (λ t. t.bottom) before (position_of prev) before_is (bands_of e) cs

  signs_before_lem : signs_before (steps e prev curr) cs ss ≡ cut_component_signs e prev cs ss
  signs_before_lem = ap (λ (ts : List Step). signs_before ts cs ss) by_bands ∙ cut_signs_mapped (step_of prev curr) (λ t. t.bottom) before (position_of prev) before_is (bands_of e) cs ss

  cut_behind_lem : cut_behind (steps e prev curr) cs ≡ cut_component e curr cs
  cut_behind_lem = ap (λ (ts : List Step). cut_behind ts cs) by_bands ∙ cut_mapped (step_of prev curr) (λ t. t.bottom) (λ t. t.position) (position_of curr) (λ b. refl) (bands_of e) cs

  signs_behind_lem : signs_behind (steps e prev curr) cs ss ≡ cut_component_signs e curr cs ss
  signs_behind_lem =
      ap (λ (ts : List Step). signs_behind ts cs ss) by_bands ∙ cut_signs_mapped (step_of prev curr) (λ t. t.bottom) (λ t. t.position) (position_of curr) (λ b. refl) (bands_of e) cs ss

  aimed_bands : (bs : List ℕ) (cs ss : List ℤ) → length bs ≤ length cs → length bs ≤ length ss → ((i : ℕ) → mag (get_or cs i (pos 0)) < 32768) → Aimed (map (step_of prev curr) bs) cs ss
  aimed_bands [] cs ss h k r = Aimed.none
  aimed_bands (b ∷ bs) [] ss h k r = absurd (omega arith)
  aimed_bands (b ∷ bs) (c ∷ cs) [] h k r = absurd (omega arith)
  aimed_bands (b ∷ bs) (c ∷ cs) (s ∷ ss) h k r =
      aimed {t = step_of prev curr b} (omega (arith, before_is b, row_low prev b a.previous)) (r zero) (aimed_bands bs cs ss (omega arith) (omega arith) (λ i. r (suc i)))

  aimed_steps : Aimed (steps e prev curr) cs ss
  aimed_steps =
      let whole = bands_whole e in
      subst (λ (ts : List Step). Aimed ts cs ss) (sym by_bands)
      (aimed_bands (bands_of e) cs ss (omega (arith, whole, a.coefficients_long)) (omega (arith, whole, a.signs_long)) a.sixteen_bits)

  -- a slice that begins with as many as there are steps is long enough
  whole_long : (l xs : List ℤ) → length l ≡ length (steps e prev curr) → long_enough (l ++ xs) ≡ true
  whole_long l xs h = le-leb 4096 (length (l ++ xs)) (omega (arith, h, place_whole e (step_of prev curr), length-append l xs))

  -- the calls, by their steps
  steps_calls : (xs ys : List ℤ) (srlOut rawOut : List ℕ)
      → CutCalls e prev curr cs srlOut rawOut
      (cut_before (steps e prev curr) cs ++ xs) (signs_before (steps e prev curr) cs ss ++ ys)
      (cut_behind (steps e prev curr) cs ++ xs) (signs_behind (steps e prev curr) cs ss ++ ys)
  steps_calls xs ys srlOut rawOut =
      let ts = steps e prev curr in
      let ps = cut_before ts cs ++ xs in
      let sg = signs_before ts cs ss ++ ys in
      let whole = place_whole e (step_of prev curr) in
      let c : length ts ≤ length cs = omega (arith, whole, a.coefficients_long) in
      let s : length ts ≤ length ss = omega (arith, whole, a.signs_long) in
      let j = whole_long (cut_before ts cs) xs (cut_length (λ t. t.bottom) before ts cs c) in
      let k = whole_long (signs_before ts cs ss) ys (cut_signs_length (λ t. t.bottom) before ts cs ss c s) in
      let rows = both_pass (row_in_domain prev) (row_in_domain curr) a.previous a.current in
      let sent = all_sent (all_fitting xs ys aimed_steps) in
      let back = calls_come prev curr e j k rows sent (all_come xs ys aimed_steps) in
      record {
        refusal = room_decides symmetric_rule cs ps sg prev curr e srlOut rawOut (le-leb 4096 (length cs) a.coefficients_long) j k rows sent.srl_fits;
        whole = sent.raw_fits;
        coefficients = back.0;
        signs = back.1;
      }

  -- what holds of the steps' cuts holds of the component's
  at_rows : (P : (ps ss ps' ss' : List ℤ) → Type 0)
      → P (cut_before (steps e prev curr) cs) (signs_before (steps e prev curr) cs ss) (cut_behind (steps e prev curr) cs) (signs_behind (steps e prev curr) cs ss)
      → P (cut_component e prev cs) (cut_component_signs e prev cs ss) (cut_component e curr cs) (cut_component_signs e curr cs ss)
  at_rows P x =
      let ts = steps e prev curr in
      subst₂ (λ (p s : List ℤ). P p s (cut_component e curr cs) (cut_component_signs e curr cs ss)) cut_before_lem signs_before_lem
      (subst₂ (λ (p s : List ℤ). P (cut_before ts cs) (signs_before ts cs ss) p s) cut_behind_lem signs_behind_lem x)

  component_calls : (xs ys : List ℤ) (srlOut rawOut : List ℕ)
      → CutCalls e prev curr cs srlOut rawOut
      (cut_component e prev cs ++ xs) (cut_component_signs e prev cs ss ++ ys)
      (cut_component e curr cs ++ xs) (cut_component_signs e curr cs ss ++ ys)
  component_calls xs ys srlOut rawOut =
      at_rows (λ p s p' s'. CutCalls e prev curr cs srlOut rawOut (p ++ xs) (s ++ ys) (p' ++ xs) (s' ++ ys)) (steps_calls xs ys srlOut rawOut)

  -- a pass from a component's cut at a row to its cut at the next one
  pub component_brings : Brings (steps e prev curr) cs (cut_component e prev cs) (cut_component_signs e prev cs ss) (cut_component e curr cs) (cut_component_signs e curr cs ss)
  component_brings =
      let ts = steps e prev curr in
      let ps = cut_before ts cs in
      let sg = signs_before ts cs ss in
      let ps' = cut_behind ts cs in
      let sg' = signs_behind ts cs ss in
      at_rows (Brings ts cs)
      (nils (λ p s. Brings ts cs p s ps' sg') ps sg (nils (Brings ts cs (ps ++ []) (sg ++ [])) ps' sg' (all_brought [] [] aimed_steps)))

  -- gives the same to both streams from the target and from its next cut
  pub component_alike : Alike (steps e prev curr) cs (cut_component e curr cs) (cut_component e prev cs) (cut_component_signs e prev cs ss)
  component_alike =
      let ts = steps e prev curr in
      at_rows (λ p s p' s'. Alike ts cs p' p s)
      (nils (Alike ts cs (cut_behind ts cs)) (cut_before ts cs) (signs_before ts cs ss) (record { values = values_alike [] [] aimed_steps; numbers = numbers_alike [] [] aimed_steps }))

-- ════ the law ════

-- what holds of the one element of a list and of 0 holds wherever it is read
pub replicate_has : {A : Type 0} (P : A → Type 0) (n i : ℕ) (a d : A) → P a → P d → P (get_or (replicate n a) i d)
replicate_has P zero i a d x y = y
replicate_has P (suc n) zero a d x y = x
replicate_has P (suc n) (suc i) a d x y = replicate_has P n i a d x y

extremes_met : CutAsked (replicate 10 15) (replicate 10 0) extremes (replicate 4096 (pos 0))
extremes_met = record {
  coefficients_long = omega (arith, length-replicate 4093 (negsuc 0));
  signs_long = omega (arith, length-replicate 4096 (pos 0));
  sixteen_bits = each;
  previous = refl;
  current = refl;
  no_raise = λ b. subst (λ (k : ℕ). k ≤ get_or (replicate 10 15) b 0) (replicate_has (λ k. 0 ≡ k) 10 b 0 0 refl refl) (omega arith);
}
  where
    each : (i : ℕ) → mag (get_or extremes i (pos 0)) < 32768
    each zero = omega arith
    each (suc zero) = omega arith
    each (suc (suc zero)) = omega arith
    each (suc (suc (suc i))) = replicate_has (λ c. mag c < 32768) 4093 i (negsuc 0) (pos 0) (omega arith) (omega arith)

-- the law, in its four parts
pub cut_round_trip_lem : CutRoundTrip
cut_round_trip_lem = record {
  every = λ ts cs ss xs ys a. all_brought xs ys a;
  calls = λ e prev curr cs ss xs ys srlOut rawOut a. component_calls a e xs ys srlOut rawOut;
  cut_or_not = λ ts cs ss xs ys a. record { values = values_alike xs ys a; numbers = numbers_alike xs ys a };
  met = extremes_met;
}
