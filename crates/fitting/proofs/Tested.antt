-- The tests say what the statements say. Assumes nothing.
use mathlib.Core.Path.{◌≡◌, refl, sym, ap}
use mathlib.Core.Bool.{Bool, true, false, ◌&&◌, true≢false}
use mathlib.Core.List.{List, [], ◌∷◌}
use Prim.Native.Nat.{ℕ, zero, suc, ◌%◌, ◌/◌, ◌^◌, ◌<◌, suc-le-suc}
use native.Mathlib.Nat.{suc_inj, le_of_suc-le-suc, mul-mod_left}
use native.Mathlib.Omega.{arith}
use borrow.Author.Tests.{leb-true, ltb-true, eqb-true, le-leb, lt-ltb, eq-eqb}
use lib.Dec.{eqb, leb, ltb}
use lib.IntN.{ℤ, pos, negsuc, nat_abs}
use lib.ListN.{length, get_or}
use lib.Signed.{mag}
use Rattle.fixed.specs.Fixed.{sign_of}
use Rattle.fixed.proofs.Cuts.{cut_rest}
use Rattle.bands.specs.Bands.{is_bottom_band, position_of}
use Rattle.bands.proofs.Every.{both_true, both_pass}
use Rattle.fitting.specs.Place.{Place, place, Multiple, OwnSign, Fits, eq_z, has_own_sign, fits}
use Rattle.fitting.specs.Component.{place_of_lists, ComponentFits, component_fits}
use Rattle.fitting.specs.Tested.{FitsTested}

-- ════ a place ════

-- a number without a rest is a multiple of 2^p, and a multiple has no rest
pub multiple_yes : (p n : ℕ) → n % 2 ^ p ≡ 0 → Multiple (2 ^ p) n
multiple_yes p n e = record { times = n / 2 ^ p; is = omega (arith, cut_rest p n, e) }

-- and a multiple has no rest
pub multiple_rest : (p n : ℕ) → Multiple (2 ^ p) n → n % 2 ^ p ≡ 0
multiple_rest p n m = rw m.is (mul-mod_left m.times (2 ^ p))

same_number : (a b : ℤ) → eq_z a b ≡ true → a ≡ b
same_number (pos m) (pos n) e = ap pos (eqb-true m n e)
same_number (pos m) (negsuc n) e = absurd (true≢false (sym e))
same_number (negsuc m) (pos n) e = absurd (true≢false (sym e))
same_number (negsuc m) (negsuc n) e = ap negsuc (eqb-true m n e)

number_same : (a : ℤ) → eq_z a a ≡ true
number_same (pos m) = eq-eqb m m refl
number_same (negsuc m) = eq-eqb m m refl

own_yes : (b : Bool) (x : Place) → has_own_sign b x ≡ true → OwnSign b x
own_yes true x e = tt
own_yes false x e = same_number x.sign (sign_of x.coefficient) e

own_test : (b : Bool) (x : Place) → OwnSign b x → has_own_sign b x ≡ true
own_test true x o = refl
own_test false x o = rw o (number_same (sign_of x.coefficient))

-- a place for which the test holds fits
pub fits_yes : (b : Bool) (p : ℕ) (x : Place) → fits b p x ≡ true → Fits b p x
fits_yes b p x e =
    let n = nat_abs x.coefficient in
    let one = both_true (leb p 15) (ltb (mag x.coefficient) 32768 && (eqb (n % 2 ^ p) 0 && has_own_sign b x)) e in
    let two = both_true (ltb (mag x.coefficient) 32768) (eqb (n % 2 ^ p) 0 && has_own_sign b x) one.1 in
    let three = both_true (eqb (n % 2 ^ p) 0) (has_own_sign b x) two.1 in
    record {
      low = leb-true p 15 one.0;
      range = ltb-true (mag x.coefficient) 32768 two.0;
      multiple = multiple_yes p n (eqb-true (n % 2 ^ p) 0 three.0);
      own = own_yes b x three.1;
    }

-- and for one that fits the test holds
pub fits_test : (b : Bool) (p : ℕ) (x : Place) → Fits b p x → fits b p x ≡ true
fits_test b p x f =
    let n = nat_abs x.coefficient in
    both_pass (leb p 15) _ (le-leb p 15 f.low)
    (both_pass (ltb (mag x.coefficient) 32768) _ (lt-ltb (mag x.coefficient) 32768 f.range)
    (both_pass (eqb (n % 2 ^ p) 0) _ (eq-eqb (n % 2 ^ p) 0 (multiple_rest p n f.multiple)) (own_test b x f.own)))

-- ════ a component ════

module _ {b : ℕ} {bs row : List ℕ} {c s : ℤ} {cs ss : List ℤ} where
  -- the first place of a component that fits
  pub first_fits : ComponentFits (b ∷ bs) row (c ∷ cs) (s ∷ ss) → Fits (is_bottom_band b) (position_of row b) (place c s)
  first_fits f = f.each zero (omega arith)

  -- the places behind it
  pub others_fit : ComponentFits (b ∷ bs) row (c ∷ cs) (s ∷ ss) → ComponentFits bs row cs ss
  others_fit f = record { coefficients = suc_inj f.coefficients; signs = suc_inj f.signs; each = λ i h. f.each (suc i) (suc-le-suc h) }

  -- and both together
  pub all_fit : Fits (is_bottom_band b) (position_of row b) (place c s) → ComponentFits bs row cs ss → ComponentFits (b ∷ bs) row (c ∷ cs) (s ∷ ss)
  all_fit f g = record { coefficients = ap suc g.coefficients; signs = ap suc g.signs; each = each }
    where
      each : (i : ℕ) → i < suc (length bs) → Fits (is_bottom_band (get_or (b ∷ bs) i 0)) (position_of row (get_or (b ∷ bs) i 0)) (place_of_lists (c ∷ cs) (s ∷ ss) i)
      each zero h = f
      each (suc i) h = g.each i (le_of_suc-le-suc h)

-- a component for which the test holds fits
pub component_yes : (bs row : List ℕ) (cs ss : List ℤ) → component_fits bs row cs ss ≡ true → ComponentFits bs row cs ss
unfolding component_fits
component_yes [] row [] [] e = record { coefficients = refl; signs = refl; each = λ i h. absurd (omega arith) }
component_yes [] row [] (s ∷ ss) e = absurd (true≢false (sym e))
component_yes [] row (c ∷ cs) ss e = absurd (true≢false (sym e))
component_yes (b ∷ bs) row [] ss e = absurd (true≢false (sym e))
component_yes (b ∷ bs) row (c ∷ cs) [] e = absurd (true≢false (sym e))
component_yes (b ∷ bs) row (c ∷ cs) (s ∷ ss) e =
    let t = both_true (fits (is_bottom_band b) (position_of row b) (place c s)) (component_fits bs row cs ss) e in
    all_fit (fits_yes (is_bottom_band b) (position_of row b) (place c s) t.0) (component_yes bs row cs ss t.1)

-- and for one that fits the test holds
pub component_test : (bs row : List ℕ) (cs ss : List ℤ) → ComponentFits bs row cs ss → component_fits bs row cs ss ≡ true
unfolding component_fits
component_test [] row [] [] f = refl
component_test [] row [] (s ∷ ss) f = absurd (omega (arith, f.signs))
component_test [] row (c ∷ cs) ss f = absurd (omega (arith, f.coefficients))
component_test (b ∷ bs) row [] ss f = absurd (omega (arith, f.coefficients))
component_test (b ∷ bs) row (c ∷ cs) [] f = absurd (omega (arith, f.signs))
component_test (b ∷ bs) row (c ∷ cs) (s ∷ ss) f =
    both_pass (fits (is_bottom_band b) (position_of row b) (place c s)) (component_fits bs row cs ss) (fits_test (is_bottom_band b) (position_of row b) (place c s) (first_fits f)) (component_test bs row cs ss (others_fit f))

-- ════ the theorem ════

-- both tests say what the statements say
pub fits_tested_lem : FitsTested
fits_tested_lem = record {
  place = λ b p x. (fits_yes b p x, fits_test b p x);
  component = λ bs row cs ss. (component_yes bs row cs ss, component_test bs row cs ss);
}
