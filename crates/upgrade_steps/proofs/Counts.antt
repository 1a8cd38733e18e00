-- How many SRL values a pass can have: no more than the places outside the bottom, which are counted over both tables of bands. Assumes nothing.
use mathlib.Core.Path.{◌≡◌, refl, ap, ◌∙◌}
use mathlib.Core.Bool.{Bool, true, false, cond}
use mathlib.Core.List.{List, [], ◌∷◌, ◌++◌}
use Prim.Native.Nat.{ℕ, zero, suc, ◌+◌, ◌≤◌}
use native.Mathlib.Omega.{arith}
use lib.IntN.{ℤ, pos}
use lib.ListN.{length, replicate}
use Rattle.fixed.specs.Fixed.{is_zero}
use Rattle.bands.specs.Bands.{layout, count_of, is_bottom_band, spread}
use Rattle.bands.specs.declared.BandInfo.{BandInfo}
use Rattle.upgrade_steps.specs.Steps.{Step, source_of, step_of, steps, srl_width, srl_widths}
use Rattle.upgrade_steps.specs.Counts.{most_srl_values, FewSrlValues}

-- ════ no more values than places outside the bottom ════

-- the steps outside the bottom
abbrev outside : List Step → ℕ
outside [] = 0
outside (t ∷ ts) = cond t.bottom 0 1 + outside ts

-- a place has at most one value, and none in the bottom
at_most : (b : Bool) (w : ℕ) (z : Bool) (v : ℕ) (ws : List ℕ) → length (srl_width (source_of b w z) v ws) ≤ cond b 0 1 + length ws
at_most b zero z v ws = omega arith
at_most true (suc w) z v ws = omega arith
at_most false (suc w) true v ws = omega arith
at_most false (suc w) false v ws = omega arith

-- and so all places
widths_few : (ts : List Step) (ss : List ℤ) → length (srl_widths ts ss) ≤ outside ts
unfolding srl_widths
widths_few [] ss = omega arith
widths_few (t ∷ ts) [] = omega arith
widths_few (t ∷ ts) (s ∷ ss) = omega (arith, at_most t.bottom t.width (is_zero s) t.width (srl_widths ts ss), widths_few ts ss)

-- ════ the places outside the bottom, counted ════

-- those of the bands numbered from b on
abbrev outside_of : ℕ → List BandInfo → ℕ
outside_of b [] = 0
outside_of b (i ∷ is) = cond (is_bottom_band b) 0 (count_of i) + outside_of (suc b) is

-- the test: over both tables of bands
tested : (e : Bool) → outside_of 0 (layout e) ≡ most_srl_values e
tested true = refl
tested false = refl

-- one place more
one_more : (b : Bool) (n r : ℕ) → cond b 0 1 + (cond b 0 n + r) ≡ cond b 0 (suc n) + r
one_more true n r = omega arith
one_more false n r = omega arith

none : (b : Bool) (r : ℕ) → r ≡ cond b 0 0 + r
none true r = omega arith
none false r = omega arith

-- a band's places before others
of_band : (n : ℕ) (t : Step) (us : List Step) → outside (replicate n t ++ us) ≡ cond t.bottom 0 n + outside us
of_band zero t us = none t.bottom (outside us)
of_band (suc n) t us = ap (λ (k : ℕ). cond t.bottom 0 1 + k) (of_band n t us) ∙ one_more t.bottom n (outside us)

-- all bands
of_bands : (prev curr : List ℕ) (b : ℕ) (is : List BandInfo) → outside (spread (step_of prev curr) b is) ≡ outside_of b is
unfolding spread
of_bands prev curr b [] = refl
of_bands prev curr b (i ∷ is) =
    of_band (count_of i) (step_of prev curr b) (spread (step_of prev curr) (suc b) is)
    ∙ ap (λ (k : ℕ). cond (is_bottom_band b) 0 (count_of i) + k) (of_bands prev curr (suc b) is)

counted : (e : Bool) (prev curr : List ℕ) → outside (steps e prev curr) ≡ most_srl_values e
counted e prev curr = of_bands prev curr 0 (layout e) ∙ tested e

-- ════ the law ════

-- a pass with as many values
reached : (e : Bool) → length (srl_widths (steps e (replicate 10 1) (replicate 10 0)) (replicate 4096 (pos 0))) ≡ most_srl_values e
unfolding spread srl_widths is_zero
reached true = refl
reached false = refl

-- the law, in both its parts
pub few_srl_values_lem : FewSrlValues
few_srl_values_lem =
    record {
      most = λ e prev curr ss. omega (arith, widths_few (steps e prev curr) ss, counted e prev curr);
      reached = reached;
    }
