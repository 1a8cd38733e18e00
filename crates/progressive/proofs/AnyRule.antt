-- What holds of a pass by any rule: what was written is read back, what fits is sent, what the reader makes of each place, and then the two calls.
use mathlib.Core.Path.{◌≡◌, refl, sym, ap, ap₂, ◌∙◌, subst}
use mathlib.Core.Bool.{Bool, true, false, cond, ◌&&◌, ◌||◌}
use mathlib.Core.List.{List, [], ◌∷◌, append-nil}
use Prim.Native.Nat.{ℕ, ◌+◌, ◌-◌, ◌*◌, ◌^◌, ◌≤◌, ◌<◌}
use native.Mathlib.Omega.{arith}
use borrow.Author.Tests.{leb-true, le-ltb, ltb-false}
use lib.Dec.{ltb}
use lib.IntN.{ℤ, nat_abs}
use lib.ListN.{length}
use lib.Pow.{pow_pos}
use Rattle.bands.specs.Positions.{row_in_domain}
use Rattle.bands.proofs.Every.{both_true}
use Rattle.bands.proofs.Spread.{place_whole}
use Rattle.bits.specs.Bits.{numbers}
use Rattle.bits.specs.Written.{bits_of, bits_of_all, pack}
use Rattle.bits.proofs.Holds.{Holds, holds_append, num_holds, pack_holds}
use Rattle.bits.proofs.Puts.{length_bits_of}
use Rattle.srl_decoder.specs.Srl.{start, values, reader_after}
use Rattle.srl.specs.Laws.{Legal, legal}
use Rattle.srl.proofs.Trip.{ReadBack, stream_back}
use Rattle.upgrade_steps.specs.Steps.{Step, Source, skipped, srl, raw, source, steps, step_of, srl_width, srl_widths, raw_width, raw_widths}
use Rattle.std.specs.Prelude.{Option, None, Some}
use Rattle.answer.specs.declared.Refusal.{Refusal}
use Rattle.answer.specs.declared.Refusal.TheVariants.{SliceTooShort, OutOfDomain, MagnitudeOutOfRange}
use Rattle.answer.specs.Answers.{unless, first_of, long_enough, unless_refused}
use Rattle.answer.proofs.Refusing.{some_not_none, first_none}
use Rattle.progressive_decoder.specs.Upgrade.{srl_coefficient, srl_sign, adds, raw_coefficient, sign_then, signs_after, coefficient_then, coefficients_after, srl_values, raw_numbers, upgraded_signs, upgraded_coefficients, decode_pass_refusal, decode_coefficients, decode_signs}
use Rattle.progressive_encoder.specs.Encode.{Rule, srl_given, srl_differences, raw_given, raw_differences, srl_stream, srl_bytes, raw_bytes, any_too_large, values_fault, pass_fault, no_room_for, encode_pass_refusal}
use Rattle.progressive_encoder.proofs.Placewise.{same_length}
use Rattle.progressive.specs.Laws.{Small, small, Sent}

-- ════ the values and numbers that were written are read back ════

all_legal : (ws : List ℕ) (vs : List ℤ) → length vs ≡ length ws → values_fault ws vs ≡ None → Legal ws vs
unfolding any_too_large
all_legal [] [] l e = Legal.none
all_legal [] (v ∷ vs) l e = absurd (omega (arith, l))
all_legal (w ∷ ws) [] l e = absurd (omega (arith, l))
all_legal (w ∷ ws) (v ∷ vs) l e = by (ltb (2 ^ w - 1) (nat_abs v)) refl e (all_legal ws vs (omega (arith, l)))
  where
    by : (b : Bool) → ltb (2 ^ w - 1) (nat_abs v) ≡ b → cond (b || any_too_large ws vs) (Some MagnitudeOutOfRange) None ≡ None → (values_fault ws vs ≡ None → Legal ws vs) → Legal (w ∷ ws) (v ∷ vs)
    by true q e ih = absurd (some_not_none e)
    by false q e ih = legal {w = w} {v = v} (omega (arith, ltb-false (2 ^ w - 1) (nat_abs v) q, pow_pos w)) (ih e)

-- the SRL stream of values that fit their widths is read back as these values, and no bit past its end is read
pub read_values_lem : (ws : List ℕ) (vs : List ℤ) → Legal ws vs → ReadBack (srl_stream ws vs) ws start vs (8 * length (srl_stream ws vs))
unfolding values reader_after
read_values_lem [] [] l = record { gives = refl; ends = omega arith }
read_values_lem (w ∷ ws) [] l = elim l [ ]
read_values_lem ws (v ∷ vs) l = stream_back l (srl_stream ws (v ∷ vs)) refl

-- and so is a raw stream, from wherever the bits of its numbers stand
pub read_numbers_lem : {ws ms : List ℕ} → Small ws ms → (s : List ℕ) (n : ℕ) → Holds s n (bits_of_all ws ms) → numbers s ws n ≡ ms
unfolding numbers bits_of_all
read_numbers_lem Small.none s n h = refl
read_numbers_lem (small {w = w} {m = m} {ws = ws} {ms = ms} l ls) s n h =
    let r = holds_append s n (bits_of w m) (bits_of_all ws ms) h in
    ap₂ (λ (x : ℕ) (xs : List ℕ). x ∷ xs) (num_holds s n w m l r.0)
    (read_numbers_lem ls s (n + w) (subst (λ (k : ℕ). Holds s (n + k) (bits_of_all ws ms)) (length_bits_of w m) r.1))

-- the SRL values of an accepted pass
pub pass_values : (r : Rule) (ts : List Step) (cs ps ss : List ℤ) → length ts ≤ length cs → length ts ≤ length ps → length ts ≤ length ss → pass_fault r ts cs ps ss ≡ None
    → ReadBack (srl_bytes r ts cs ps ss) (srl_widths ts ss) start (srl_differences r ts cs ps ss) (8 * length (srl_bytes r ts cs ps ss))
pass_values r ts cs ps ss h j k e =
    read_values_lem (srl_widths ts ss) (srl_differences r ts cs ps ss) (all_legal (srl_widths ts ss) (srl_differences r ts cs ps ss) (sym (same_length r ts cs ps ss h j k)) e)

pub values_back : (r : Rule) (ts : List Step) (cs ps ss : List ℤ) → Sent r ts cs ps ss → srl_values ts (srl_bytes r ts cs ps ss) ss ≡ srl_differences r ts cs ps ss
values_back r ts cs ps ss h = (pass_values r ts cs ps ss h.coefficients_long h.previous_long h.signs_long h.srl_fits).gives

pub numbers_back : (r : Rule) (ts : List Step) (cs ps ss : List ℤ) → Sent r ts cs ps ss → raw_numbers ts (raw_bytes r ts cs ps ss) ss ≡ raw_differences r ts cs ps ss
numbers_back r ts cs ps ss h =
    let bits = bits_of_all (raw_widths ts ss) (raw_differences r ts cs ps ss) in
    read_numbers_lem h.raw_fits (pack 0 0 bits) 0 (pack_holds bits (pack 0 0 bits) 0 0 0 [] (omega arith) (sym (append-nil (pack 0 0 bits))))

-- ════ what fits is sent ════

-- what a place gives has no more bits than its width
abbrev pub Fitting : Rule → Source → Step → ℤ → ℤ → Type 0
Fitting r skipped t c p = Unit {0}
Fitting r srl t c p = nat_abs (r.value t.position c p) < 2 ^ t.width
Fitting r raw t c p = r.number t.bottom t.position c p < 2 ^ t.width

-- at every place of a list of steps
pub data Fittings (r : Rule) : List Step → List ℤ → List ℤ → List ℤ → Type 0 where
  none : {cs ps ss : List ℤ} → Fittings r [] cs ps ss
  fitting : {t : Step} {c p s : ℤ} {ts : List Step} {cs ps ss : List ℤ} → Fitting r (source t s) t c p → Fittings r ts cs ps ss → Fittings r (t ∷ ts) (c ∷ cs) (p ∷ ps) (s ∷ ss)

-- a place before others: the values
legal_then : (r : Rule) (o : Source) (t : Step) (c p : ℤ) {ws : List ℕ} {vs : List ℤ} → Fitting r o t c p → Legal ws vs
    → Legal (srl_width o t.width ws) (srl_given o (r.value t.position c p) vs)
legal_then r skipped t c p h l = l
legal_then r srl t c p h l = legal h l
legal_then r raw t c p h l = l

-- the raw numbers
small_then : (r : Rule) (o : Source) (t : Step) (c p : ℤ) {ws ms : List ℕ} → Fitting r o t c p → Small ws ms
    → Small (raw_width o t.width ws) (raw_given o (r.number t.bottom t.position c p) ms)
small_then r skipped t c p h l = l
small_then r srl t c p h l = l
small_then r raw t c p h l = small h l

-- values that fit are not too large
none_large : {ws : List ℕ} {vs : List ℤ} → Legal ws vs → any_too_large ws vs ≡ false
unfolding any_too_large
none_large Legal.none = refl
none_large (legal {w = w} {v = v} {ws = ws} {vs = vs} h l) = ap (λ (b : Bool). b || any_too_large ws vs) (le-ltb (2 ^ w - 1) (nat_abs v) (omega arith)) ∙ none_large l

-- what such a pass gives
record Gives (r : Rule) (ts : List Step) (cs ps ss : List ℤ) : Type 0 where
  coefficients_long : length ts ≤ length cs
  previous_long : length ts ≤ length ps
  signs_long : length ts ≤ length ss
  legals : Legal (srl_widths ts ss) (srl_differences r ts cs ps ss)
  smalls : Small (raw_widths ts ss) (raw_differences r ts cs ps ss)

-- place by place
gives : {r : Rule} {ts : List Step} {cs ps ss : List ℤ} → Fittings r ts cs ps ss → Gives r ts cs ps ss
unfolding srl_widths srl_differences raw_widths raw_differences
gives Fittings.none = record { coefficients_long = omega arith; previous_long = omega arith; signs_long = omega arith; legals = Legal.none; smalls = Small.none }
gives {r} (fitting {t = t} {c = c} {p = p} {s = s} f fs) =
    let g = gives fs in
    record {
      coefficients_long = omega (arith, g.coefficients_long);
      previous_long = omega (arith, g.previous_long);
      signs_long = omega (arith, g.signs_long);
      legals = legal_then r (source t s) t c p f g.legals;
      smalls = small_then r (source t s) t c p f g.smalls;
    }

-- of every list of steps
pub all_sent : {r : Rule} {ts : List Step} {cs ps ss : List ℤ} → Fittings r ts cs ps ss → Sent r ts cs ps ss
all_sent f =
    let g = gives f in
    record {
      coefficients_long = g.coefficients_long;
      previous_long = g.previous_long;
      signs_long = g.signs_long;
      srl_fits = ap (λ (b : Bool). cond b (Some MagnitudeOutOfRange) None) (none_large g.legals);
      raw_fits = g.smalls;
    }

-- ════ what the reader makes of each place ════

-- its coefficient: c is the writer's, p the previous one, s the sign
abbrev pub comes_to : Rule → Source → Step → ℤ → ℤ → ℤ → ℤ
comes_to r skipped t c p s = p
comes_to r srl t c p s = srl_coefficient t.position (r.value t.position c p) p
comes_to r raw t c p s = raw_coefficient (adds t s) t.position (r.number t.bottom t.position c p) p

-- and its sign
abbrev pub sign_to : Rule → Source → Step → ℤ → ℤ → ℤ → ℤ
sign_to r skipped t c p s = s
sign_to r srl t c p s = srl_sign (r.value t.position c p) s
sign_to r raw t c p s = s

-- what it makes of all places; what stands past the steps stays
pub data Comes (r : Rule) : List Step → List ℤ → List ℤ → List ℤ → List ℤ → List ℤ → Type 0 where
  none : {cs ps ss : List ℤ} → Comes r [] cs ps ss ps ss
  comes : {t : Step} {c p s p' s' : ℤ} {ts : List Step} {cs ps ss ps' ss' : List ℤ} → comes_to r (source t s) t c p s ≡ p' → sign_to r (source t s) t c p s ≡ s'
      → Comes r ts cs ps ss ps' ss' → Comes r (t ∷ ts) (c ∷ cs) (p ∷ ps) (s ∷ ss) (p' ∷ ps') (s' ∷ ss')

-- a place before others
coefficient_then_lem : (r : Rule) (o : Source) (t : Step) (c p s : ℤ) (vs : List ℤ) (ms : List ℕ) (rest : List ℤ → List ℕ → List ℤ)
    → coefficient_then o t p s (srl_given o (r.value t.position c p) vs) (raw_given o (r.number t.bottom t.position c p) ms) rest ≡ comes_to r o t c p s ∷ rest vs ms
coefficient_then_lem r skipped t c p s vs ms rest = refl
coefficient_then_lem r srl t c p s vs ms rest = refl
coefficient_then_lem r raw t c p s vs ms rest = refl

sign_then_lem : (r : Rule) (o : Source) (t : Step) (c p s : ℤ) (vs : List ℤ) (rest : List ℤ → List ℤ) → sign_then o s (srl_given o (r.value t.position c p) vs) rest ≡ sign_to r o t c p s ∷ rest vs
sign_then_lem r skipped t c p s vs rest = refl
sign_then_lem r srl t c p s vs rest = refl
sign_then_lem r raw t c p s vs rest = refl

-- all coefficients
coefficients_come : {r : Rule} {ts : List Step} {cs ps ss ps' ss' : List ℤ} → Comes r ts cs ps ss ps' ss' → coefficients_after ts ps ss (srl_differences r ts cs ps ss) (raw_differences r ts cs ps ss) ≡ ps'
unfolding coefficients_after srl_differences raw_differences
coefficients_come Comes.none = refl
coefficients_come {r} (comes {t = t} {c = c} {p = p} {s = s} {ts = ts} {cs = cs} {ps = ps} {ss = ss} e f g) =
    coefficient_then_lem r (source t s) t c p s (srl_differences r ts cs ps ss) (raw_differences r ts cs ps ss) (coefficients_after ts ps ss)
    ∙ ap₂ (λ (x : ℤ) (k : List ℤ). x ∷ k) e (coefficients_come g)

-- all signs
signs_come : {r : Rule} {ts : List Step} {cs ps ss ps' ss' : List ℤ} → Comes r ts cs ps ss ps' ss' → signs_after ts ss (srl_differences r ts cs ps ss) ≡ ss'
unfolding signs_after srl_differences
signs_come Comes.none = refl
signs_come {r} (comes {t = t} {c = c} {p = p} {s = s} {ts = ts} {cs = cs} {ps = ps} {ss = ss} e f g) =
    sign_then_lem r (source t s) t c p s (srl_differences r ts cs ps ss) (signs_after ts ss)
    ∙ ap₂ (λ (x : ℤ) (k : List ℤ). x ∷ k) f (signs_come g)

-- of the streams that were written
pub come_back : {r : Rule} {ts : List Step} {cs ps ss ps' ss' : List ℤ} → Sent r ts cs ps ss → Comes r ts cs ps ss ps' ss'
    → (upgraded_coefficients ts (srl_bytes r ts cs ps ss) (raw_bytes r ts cs ps ss) ps ss ≡ ps') × (upgraded_signs ts (srl_bytes r ts cs ps ss) ss ≡ ss')
come_back {r} {ts} {cs} {ps} {ss} h g =
    let v = values_back r ts cs ps ss h in
    (ap₂ (coefficients_after ts ps ss) v (numbers_back r ts cs ps ss h) ∙ coefficients_come g, ap (signs_after ts ss) v ∙ signs_come g)

-- ════ the calls ════

-- what an accepted call of the writer says of its arguments
pub record Taken (r : Rule) (cs ps ss : List ℤ) (prev curr : List ℕ) (e : Bool) : Type 0 where
  pub coefficients_long : long_enough cs ≡ true
  pub previous_long : long_enough ps ≡ true
  pub signs_long : long_enough ss ≡ true
  pub rows : (row_in_domain prev && row_in_domain curr) ≡ true
  pub no_fault : pass_fault r (steps e prev curr) cs ps ss ≡ None

-- an accepted call passed every test
pub taken : (r : Rule) (cs ps ss : List ℤ) (prev curr : List ℕ) (e : Bool) (srlOut rawOut : List ℕ) → encode_pass_refusal r cs ps prev curr ss e srlOut rawOut ≡ None → Taken r cs ps ss prev curr e
taken r cs ps ss prev curr e srlOut rawOut = by (long_enough cs && (long_enough ps && long_enough ss)) refl (row_in_domain prev && row_in_domain curr) refl
  where
    rest : Option Refusal
    rest = no_room_for (srl_bytes r (steps e prev curr) cs ps ss) srlOut (raw_bytes r (steps e prev curr) cs ps ss) rawOut

    by : (a : Bool) → (long_enough cs && (long_enough ps && long_enough ss)) ≡ a → (b : Bool) → (row_in_domain prev && row_in_domain curr) ≡ b
        → first_of (unless a SliceTooShort) (first_of (unless b OutOfDomain) (first_of (pass_fault r (steps e prev curr) cs ps ss) rest)) ≡ None → Taken r cs ps ss prev curr e
    by true la true lb k =
        let one = both_true (long_enough cs) (long_enough ps && long_enough ss) la in
        let two = both_true (long_enough ps) (long_enough ss) one.1 in
        record { coefficients_long = one.0; previous_long = two.0; signs_long = two.1; rows = lb; no_fault = (first_none (pass_fault r (steps e prev curr) cs ps ss) rest k).0 }
    by true la false lb k = absurd (some_not_none k)
    by false la b lb k = absurd (some_not_none k)

-- a slice that is long enough has an element for each place
pub long : {A : Type 0} (e : Bool) (prev curr : List ℕ) (l : List A) → long_enough l ≡ true → length (steps e prev curr) ≤ length l
long e prev curr l h = omega (arith, leb-true 4096 (length l) h, place_whole e (step_of prev curr))

-- the writer is refused for want of room only, where slices and rows are as they must be and every value fits
pub room_decides : (r : Rule) (cs ps ss : List ℤ) (prev curr : List ℕ) (e : Bool) (srlOut rawOut : List ℕ)
    → long_enough cs ≡ true → long_enough ps ≡ true → long_enough ss ≡ true → (row_in_domain prev && row_in_domain curr) ≡ true → pass_fault r (steps e prev curr) cs ps ss ≡ None
    → encode_pass_refusal r cs ps prev curr ss e srlOut rawOut ≡ no_room_for (srl_bytes r (steps e prev curr) cs ps ss) srlOut (raw_bytes r (steps e prev curr) cs ps ss) rawOut
room_decides r cs ps ss prev curr e srlOut rawOut h j k l n =
    let ts = steps e prev curr in
    let room = no_room_for (srl_bytes r ts cs ps ss) srlOut (raw_bytes r ts cs ps ss) rawOut in
    simp (h, j, k, l) (ap (λ (f : Option Refusal). first_of f room) n)

-- and then the reader comes to the same
pub calls_come : {r : Rule} {cs ps ss ps' ss' : List ℤ} (prev curr : List ℕ) (e : Bool)
    → long_enough ps ≡ true → long_enough ss ≡ true → (row_in_domain prev && row_in_domain curr) ≡ true
    → Sent r (steps e prev curr) cs ps ss → Comes r (steps e prev curr) cs ps ss ps' ss'
    → (decode_coefficients (srl_bytes r (steps e prev curr) cs ps ss) (raw_bytes r (steps e prev curr) cs ps ss) prev curr e ps ss ≡ ps')
    × (decode_signs (srl_bytes r (steps e prev curr) cs ps ss) prev curr e ps ss ≡ ss')
calls_come {r} {cs} {ps} {ss} prev curr e j k l h g =
    let b = come_back h g in
    let none : decode_pass_refusal prev curr ps ss ≡ None = simp (j, k, l) in
    let coefficients = upgraded_coefficients (steps e prev curr) (srl_bytes r (steps e prev curr) cs ps ss) (raw_bytes r (steps e prev curr) cs ps ss) ps ss in
    let signs = upgraded_signs (steps e prev curr) (srl_bytes r (steps e prev curr) cs ps ss) ss in
    (ap (λ (n : Option Refusal). unless_refused n coefficients ps) none ∙ b.0, ap (λ (n : Option Refusal). unless_refused n signs ss) none ∙ b.1)
