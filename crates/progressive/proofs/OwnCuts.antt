-- A pass that goes on from the coefficients' own cut: what each place gives fits its width, then all places, then the writer's call. Assumes nothing.
use mathlib.Core.Path.{◌≡◌, refl, sym, ap, ◌∙◌}
use mathlib.Core.Logic.{◌≢◌}
use mathlib.Core.Bool.{Bool, true, false, cond, ◌&&◌, true≢false}
use mathlib.Core.List.{List}
use Prim.Native.Nat.{ℕ, zero, suc, ◌+◌, ◌-◌, ◌*◌, ◌/◌, ◌^◌, ◌≤◌, ◌<◌}
use native.Mathlib.Nat.{zero-div, div-lt_iff_lt-mul}
use native.Mathlib.Omega.{arith}
use lib.Dec.{ltb}
use lib.IntN.{ℤ, pos, negsuc, nat_abs, ◌-ℤ◌, +ℤ_idr}
use lib.ListN.{length}
use lib.Pow.{pow_pos}
use Rattle.fixed.specs.Fixed.{clamp_i16, floor_shift, is_zero, sign_of}
use Rattle.fixed.specs.Cut.{cut_level, toward_zero}
use Rattle.fixed.proofs.Cuts.{cut_steps, steps_rest, gain_small, abs_toward}
use Rattle.fixed.proofs.Sign.{zero_is}
use Rattle.bands.specs.Positions.{row_in_domain}
use Rattle.upgrade_steps.specs.Steps.{Step, source, source_of, steps}
use Rattle.std.specs.Prelude.{Option, None, Some}
use Rattle.answer.specs.declared.Refusal.{Refusal}
use Rattle.answer.specs.declared.Refusal.TheVariants.{SliceTooShort, OutOfDomain, MagnitudeOutOfRange, OutputTooShort}
use Rattle.answer.specs.Answers.{unless, first_of, long_enough, number}
use Rattle.answer.proofs.Refusing.{some_not_none}
use Rattle.progressive_encoder.specs.Encode.{floor_rule, srl_difference, raw_difference, srl_bytes, raw_bytes, pass_fault, encode_pass_refusal}
use Rattle.progressive.specs.OwnCuts.{OwnCut, OwnCuts, OwnCutsSent}
use Rattle.progressive.proofs.AnyRule.{Fitting, Fittings, fitting, all_sent}

-- ════ a magnitude ════

-- what a cut takes away is less than 2^w steps of 2^q
taken_small : (q w n : ℕ) → n / 2 ^ q - cut_level (q + w) n / 2 ^ q < 2 ^ w
taken_small q w n = omega (arith, cut_steps q w n, steps_rest q w n, gain_small q w n)

-- ════ one place ════

-- a raw number over the own cut
pub number_small : (q w : ℕ) (c p : ℤ) → toward_zero (q + w) c ≡ p → raw_difference q c p < 2 ^ w
number_small q w c p e =
    let n : nat_abs p ≡ cut_level (q + w) (nat_abs c) = ap nat_abs (sym e) ∙ abs_toward (q + w) c in
    rw n (taken_small q w (nat_abs c))

-- without bits below the position, rounded down is not further from zero than cut
floor_abs : (q : ℕ) (c : ℤ) → toward_zero q c ≡ c → nat_abs (floor_shift c q) ≤ nat_abs c / 2 ^ q
floor_abs q (pos n) e = omega arith
floor_abs q (negsuc n) e =
    let k = suc n / 2 ^ q in
    let all : k * 2 ^ q ≡ suc n = sym (abs_toward q (negsuc n)) ∙ ap nat_abs e in
    (div-lt_iff_lt-mul {k = 2 ^ q} {x = n} {y = k} (pow_pos q)).1 (omega (arith, all))

-- the clamp makes no magnitude larger
clamp_less : (z : ℤ) → nat_abs (clamp_i16 z) ≤ nat_abs z
unfolding clamp_i16
clamp_less (pos n) = omega arith
clamp_less (negsuc n) = omega arith

-- an SRL value over the own cut, which is 0
value_small : (q w : ℕ) (c p : ℤ) → toward_zero q c ≡ c → toward_zero (q + w) c ≡ p → p ≡ pos 0 → nat_abs (srl_difference q c p) < 2 ^ w
value_small q w c p h e z =
    let v = floor_shift c q in
    let d : srl_difference q c p ≡ clamp_i16 v =
    ap (srl_difference q c) z ∙ ap (λ (k : ℕ). clamp_i16 (v -ℤ pos k)) (zero-div (2 ^ q)) ∙ ap clamp_i16 (+ℤ_idr v) in
    let k : nat_abs c / 2 ^ q - 0 / 2 ^ q < 2 ^ w = number_small q w c (pos 0) (e ∙ z) in
    rw d (omega (arith, clamp_less v, floor_abs q c h, k, zero-div (2 ^ q)))

-- a sign is 0 only where the value is
pub sign_none : (v : ℤ) → sign_of v ≡ pos 0 → v ≡ pos 0
unfolding is_zero sign_of
sign_none (pos zero) e = refl
sign_none (pos (suc n)) e = absurd (true≢false (ap is_zero (sym e)))
sign_none (negsuc n) e = absurd (true≢false (ap is_zero (sym e)))

-- by where its value goes: a width of 0 gives nothing, and outside the bottom a zero sign says that the previous coefficient is 0
place_fitting : (t : Step) (c p s : ℤ) → OwnCut t c p s → Fitting floor_rule (source t s) t c p
place_fitting t c p s o = by t.bottom refl t.width (is_zero s) refl
  where
    value : p ≡ pos 0 → nat_abs (srl_difference t.position c p) < 2 ^ t.width
    value z = value_small t.position _ c p o.whole o.from z

    number : raw_difference t.position c p < 2 ^ t.width
    number = number_small t.position _ c p o.from

    by : (b : Bool) → t.bottom ≡ b → (w : ℕ) (z : Bool) → is_zero s ≡ z → Fitting floor_rule (source_of b w z) t c p
    by b f zero z e = tt
    by true f (suc w) z e = number
    by false f (suc w) true e = value (sign_none p (o.own f ∙ zero_is s e))
    by false f (suc w) false e = number

-- ════ all places ════

-- one after another
all_fitting : {ts : List Step} {cs ps ss : List ℤ} → OwnCuts ts cs ps ss → Fittings floor_rule ts cs ps ss
all_fitting OwnCuts.none = Fittings.none
all_fitting (OwnCuts.own {t = t} {c = c} {p = p} {s = s} o os) = fitting (place_fitting t c p s o) (all_fitting os)

-- ════ the law ════

-- without a fault, what is refused is refused by 1, 2 or 7
no_5 : (a b c d : Bool) (f : Option Refusal) → f ≡ None
    → first_of (unless a SliceTooShort) (first_of (unless b OutOfDomain) (first_of f (first_of (cond c (Some OutputTooShort) None) (cond d (Some OutputTooShort) None)))) ≢ Some MagnitudeOutOfRange
no_5 a b c d (Some r) h e = some_not_none h
no_5 false b c d None h e = absurd (omega (arith, ap number e))
no_5 true false c d None h e = absurd (omega (arith, ap number e))
no_5 true true true d None h e = absurd (omega (arith, ap number e))
no_5 true true false true None h e = absurd (omega (arith, ap number e))
no_5 true true false false None h e = some_not_none (sym e)

-- of a call
calls_sent : (cs ps ss : List ℤ) (prev curr : List ℕ) (e : Bool) (srlOut rawOut : List ℕ)
    → OwnCuts (steps e prev curr) cs ps ss → encode_pass_refusal floor_rule cs ps prev curr ss e srlOut rawOut ≢ Some MagnitudeOutOfRange
calls_sent cs ps ss prev curr e srlOut rawOut o =
    let ts = steps e prev curr in
    no_5 (long_enough cs && (long_enough ps && long_enough ss)) (row_in_domain prev && row_in_domain curr)
    (ltb (length srlOut) (length (srl_bytes floor_rule ts cs ps ss))) (ltb (length rawOut) (length (raw_bytes floor_rule ts cs ps ss)))
    (pass_fault floor_rule ts cs ps ss)
    (all_sent (all_fitting o)).srl_fits

-- the law, in both its parts
pub own_cuts_sent_lem : OwnCutsSent
own_cuts_sent_lem = record { sent = λ ts cs ps ss o. all_sent (all_fitting o); never_5 = calls_sent }
