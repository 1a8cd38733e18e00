-- The round trip of a pass by the source's rule: what the reader makes of each place, then of lists, then the calls.
use mathlib.Core.Path.{◌≡◌, refl, sym, ap, ap₂, ◌∙◌, subst}
use mathlib.Core.Bool.{Bool, true, false, true≢false}
use mathlib.Core.List.{List}
use Prim.Native.Nat.{ℕ, zero, suc, ◌+◌, ◌-◌, ◌*◌, ◌/◌, ◌^◌, ◌≤◌, ◌<◌}
use native.Mathlib.Nat.{zero-div, div-le_self, div-lt_iff_lt-mul, le-div_iff_mul-le, mul-le-mul_right, add-mul}
use native.Mathlib.Omega.{arith}
use lib.IntN.{ℤ, pos, negsuc, neg_ℤ, ◌+ℤ◌, ◌-ℤ◌, ◌*ℤ◌, +ℤ_idl, +ℤ_idr, neg_ℤ-+ℤ}
use lib.Pow.{pow_pos, pow-add}
use lib.Signed.{mag}
use Rattle.fixed.specs.Fixed.{clamp_i16, floor_shift, is_zero, sign_of, add_scaled, sub_scaled}
use Rattle.fixed.specs.Cut.{cut_level, toward_zero, downward}
use Rattle.fixed.proofs.Clamp.{clamp_same}
use Rattle.fixed.proofs.Cuts.{cut_below, toward_pos, toward_neg}
use Rattle.fixed.proofs.Sign.{with_minus, abs_minus}
use Rattle.upgrade_steps.specs.Steps.{Step, Source, skipped, srl, raw, source, source_of, steps, raw_widths}
use Rattle.progressive_decoder.specs.Upgrade.{srl_coefficient, srl_sign, adds, raw_coefficient, decode_coefficients, decode_signs}
use Rattle.std.specs.Prelude.{None}
use Rattle.progressive_encoder.specs.Encode.{floor_rule, srl_difference, raw_difference, raw_differences, srl_bytes, raw_bytes, encode_pass_refusal}
use Rattle.progressive.specs.Laws.{Small, Sent, cut_by, cuts, cut_sign, cut_signs, Onward, Regained, Regains, regained, PassRoundTrip}
use Rattle.progressive.proofs.AnyRule.{values_back, numbers_back, comes_to, sign_to, Comes, comes, come_back, taken, long, calls_come}

-- ════ a place with an SRL value ════

floor_small : (q : ℕ) (c : ℤ) → mag c < 32768 → mag (floor_shift c q) < 32768
floor_small q (pos n) h = omega (arith, div-le_self n (2 ^ q))
floor_small q (negsuc n) h = omega (arith, div-le_self n (2 ^ q))

-- over 0 the writer's value is the coefficient, shifted down
over_zero : (q : ℕ) (c : ℤ) → mag c < 32768 → srl_difference q c (pos 0) ≡ floor_shift c q
over_zero q c h =
    let z = floor_shift c q in
    ap (λ (k : ℕ). clamp_i16 (z +ℤ neg_ℤ (pos k))) (zero-div (2 ^ q)) ∙ ap clamp_i16 (+ℤ_idr z) ∙ sym (clamp_same z (floor_small q c h))

-- sums that stay within sixteen bits
up : (n : ℕ) → n ≤ 32767 → clamp_i16 (pos n) ≡ pos n
up n h = sym (clamp_same (pos n) (omega arith))

neg_small : (n : ℕ) → n ≤ 32768 → mag (neg_ℤ (pos n)) < 32768
neg_small zero h = omega arith
neg_small (suc n) h = omega arith

down : (n : ℕ) → n ≤ 32768 → clamp_i16 (neg_ℤ (pos n)) ≡ neg_ℤ (pos n)
down n h = sym (clamp_same (neg_ℤ (pos n)) (neg_small n h))

-- from 0 a value brings its multiple of 2^q, where that stays so
pub from_zero : (q : ℕ) (v : ℤ) → mag (v *ℤ pos (2 ^ q)) < 32768 → srl_coefficient q v (pos 0) ≡ v *ℤ pos (2 ^ q)
unfolding add_scaled sub_scaled
from_zero q (pos zero) h = ap pos {x = 0} {y = 0 * 2 ^ q} (omega arith)
from_zero q (pos (suc m)) h = ap clamp_i16 (+ℤ_idl (pos (suc m * 2 ^ q))) ∙ sym (clamp_same (pos (suc m * 2 ^ q)) h)
from_zero q (negsuc m) h = ap clamp_i16 (with_minus (suc m * 2 ^ q) true refl) ∙ sym (clamp_same (neg_ℤ (pos (suc m * 2 ^ q))) h)

-- rounded down, no coefficient leaves sixteen bits
floor_room : (q n : ℕ) → q ≤ 15 → n < 32768 → suc (n / 2 ^ q) * 2 ^ q ≤ 32768
floor_room q n l h =
    let y = 2 ^ (15 - q) in
    let sum : 15 - q + q ≡ 15 = omega arith in
    let whole : y * 2 ^ q ≡ 32768 = sym (pow-add 2 (15 - q) q) ∙ ap (λ (k : ℕ). 2 ^ k) sum in
    let less : n / 2 ^ q < y = (div-lt_iff_lt-mul {k = 2 ^ q} {x = n} {y = y} (pow_pos q)).1 (omega (arith, whole)) in
    omega (arith, whole, mul-le-mul_right {m = suc (n / 2 ^ q)} {n = y} (2 ^ q) (omega (arith, less)))

pub down_range : (q : ℕ) (c : ℤ) → q ≤ 15 → mag c < 32768 → mag (downward q c) < 32768
down_range q (pos n) l h = omega (arith, cut_below q n)
down_range q (negsuc n) l h = neg_small (suc (n / 2 ^ q) * 2 ^ q) (floor_room q n l h)

-- ════ a place with raw bits ════

neg_minus : (a b : ℕ) → neg_ℤ (pos a) -ℤ pos b ≡ neg_ℤ (pos (a + b))
neg_minus a b = sym (neg_ℤ-+ℤ (pos a) (pos b))

-- what is added to the previous magnitude brings the target's
gained : (q far near : ℕ) → near ≤ far → cut_level q near ≡ near → near + (far / 2 ^ q - near / 2 ^ q) * 2 ^ q ≡ cut_level q far
gained q far near l e =
    let a = near / 2 ^ q in
    let b = far / 2 ^ q in
    let more : a ≤ b = (le-div_iff_mul-le {k = 2 ^ q} {x = a} {y = far} (pow_pos q)).1 (omega (arith, e)) in
    let sum : b ≡ a + (b - a) = omega (arith, more) in
    sym (ap (λ (k : ℕ). k * 2 ^ q) sum ∙ add-mul a (b - a) (2 ^ q) ∙ ap (λ (k : ℕ). k + (b - a) * 2 ^ q) e)

raw_up : (q far near : ℕ) → far < 32768 → near ≤ far → cut_level q near ≡ near → add_scaled (pos near) (far / 2 ^ q - near / 2 ^ q) q ≡ pos (cut_level q far)
unfolding add_scaled
raw_up q far near h l e =
    ap (λ (n : ℕ). clamp_i16 (pos n)) (gained q far near l e)
    ∙ up (cut_level q far) (omega (arith, cut_below q far))

raw_down : (q far near : ℕ) → far ≤ 32768 → near ≤ far → cut_level q near ≡ near → sub_scaled (neg_ℤ (pos near)) (far / 2 ^ q - near / 2 ^ q) q ≡ neg_ℤ (pos (cut_level q far))
unfolding sub_scaled
raw_down q far near h l e =
    ap clamp_i16 (neg_minus near ((far / 2 ^ q - near / 2 ^ q) * 2 ^ q) ∙ ap (λ (n : ℕ). neg_ℤ (pos n)) (gained q far near l e))
    ∙ down (cut_level q far) (omega (arith, cut_below q far))

neg_range : (n : ℕ) → mag (neg_ℤ (pos n)) < 32768 → n ≤ 32768
neg_range zero h = omega arith
neg_range (suc n) h = omega arith

-- so raw bits bring the target
pub raw_cut : (b : Bool) (q : ℕ) (c p : ℤ) → Onward b q c p → raw_coefficient b q (raw_difference q c p) p ≡ toward_zero q c
raw_cut true q c p o =
    ap₂ (λ (c p : ℤ). raw_coefficient true q (raw_difference q c p) p) o.goal o.from
    ∙ raw_up q o.far o.near (subst (λ (c : ℤ). mag c < 32768) o.goal o.range) o.further o.clean
    ∙ sym (ap (toward_zero q) o.goal ∙ toward_pos q o.far)
raw_cut false q c p o =
    ap₂ (λ (c p : ℤ). raw_coefficient false q (raw_difference q c p) p) o.goal o.from
    ∙ ap₂ (λ (a b : ℕ). sub_scaled (neg_ℤ (pos o.near)) (a / 2 ^ q - b / 2 ^ q) q) (abs_minus o.far) (abs_minus o.near)
    ∙ raw_down q o.far o.near (neg_range o.far (subst (λ (c : ℤ). mag c < 32768) o.goal o.range)) o.further o.clean
    ∙ sym (ap (toward_zero q) o.goal ∙ toward_neg q o.far)

-- ════ all places ════

place_cut : (o : Source) (t : Step) (c p s : ℤ) → Regained o t c p s → comes_to floor_rule o t c p s ≡ cut_by o t.position c p
place_cut skipped t c p s r = refl
place_cut srl t c p s r =
    let q = t.position in
    ap (λ (p : ℤ). srl_coefficient q (srl_difference q c p) p) r.0 ∙ ap (λ (v : ℤ). srl_coefficient q v (pos 0)) (over_zero q c r.1) ∙ from_zero q (floor_shift c q) (down_range q c r.2 r.1)
place_cut raw t c p s r = raw_cut (adds t s) t.position c p r

-- a place that has an SRL value has sign 0
abbrev IsSrl : Source → Type 0
IsSrl skipped = ⊥
IsSrl srl = Unit {0}
IsSrl raw = ⊥

srl_zero : (b : Bool) (w : ℕ) (z : Bool) → IsSrl (source_of b w z) → z ≡ true
srl_zero b zero z e = absurd e
srl_zero true (suc w) z e = absurd e
srl_zero false (suc w) true e = refl
srl_zero false (suc w) false e = absurd e

-- and a value that is not 0 sets it
pub sign_cut : (v s : ℤ) → is_zero s ≡ true → srl_sign v s ≡ sign_of v
unfolding is_zero sign_of
sign_cut v (pos (suc n)) e = absurd (true≢false (sym e))
sign_cut v (negsuc n) e = absurd (true≢false (sym e))
sign_cut (pos zero) (pos zero) e = refl
sign_cut (pos (suc m)) (pos zero) e = refl
sign_cut (negsuc m) (pos zero) e = refl

place_sign : (o : Source) (t : Step) (c p s : ℤ) → source t s ≡ o → Regained o t c p s → sign_to floor_rule o t c p s ≡ cut_sign o t.position c s
place_sign skipped t c p s h r = refl
place_sign srl t c p s h r =
    let q = t.position in
    ap (λ (v : ℤ). srl_sign v s) (ap (srl_difference q c) r.0 ∙ over_zero q c r.1) ∙ sign_cut (floor_shift c q) s (srl_zero t.bottom t.width (is_zero s) (subst IsSrl (sym h) tt))
place_sign raw t c p s h r = refl

all_regained : {ts : List Step} {cs ps ss : List ℤ} → Regains ts cs ps ss → Comes floor_rule ts cs ps ss (cuts ts cs ps ss) (cut_signs ts cs ss)
unfolding cuts cut_signs
all_regained Regains.none = Comes.none
all_regained (regained {t = t} {c = c} {p = p} {s = s} r rs) =
    comes (place_cut (source t s) t c p s r) (place_sign (source t s) t c p s refl r) (all_regained rs)

-- ════ the law ════

calls_back : (cs ps ss : List ℤ) (prev curr : List ℕ) (e : Bool) (srlOut rawOut : List ℕ)
    → encode_pass_refusal floor_rule cs ps prev curr ss e srlOut rawOut ≡ None
    → Small (raw_widths (steps e prev curr) ss) (raw_differences floor_rule (steps e prev curr) cs ps ss)
    → Regains (steps e prev curr) cs ps ss
    → (decode_coefficients (srl_bytes floor_rule (steps e prev curr) cs ps ss) (raw_bytes floor_rule (steps e prev curr) cs ps ss) prev curr e ps ss ≡ cuts (steps e prev curr) cs ps ss)
    × (decode_signs (srl_bytes floor_rule (steps e prev curr) cs ps ss) prev curr e ps ss ≡ cut_signs (steps e prev curr) cs ss)
calls_back cs ps ss prev curr e srlOut rawOut k m r =
    let t = taken floor_rule cs ps ss prev curr e srlOut rawOut k in
    let sent : Sent floor_rule (steps e prev curr) cs ps ss =
    record {
      coefficients_long = long e prev curr cs t.coefficients_long;
      previous_long = long e prev curr ps t.previous_long;
      signs_long = long e prev curr ss t.signs_long;
      srl_fits = t.no_fault;
      raw_fits = m;
    } in
    calls_come prev curr e t.previous_long t.signs_long t.rows sent (all_regained r)

-- the law, in its five parts
pub pass_round_trip_lem : PassRoundTrip
pass_round_trip_lem = record {
  values = values_back;
  numbers = numbers_back;
  coefficients = λ ts cs ps ss h r. (come_back h (all_regained r)).0;
  signs = λ ts cs ps ss h r. (come_back h (all_regained r)).1;
  calls = calls_back;
}
