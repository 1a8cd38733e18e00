-- The laws of `Passes` for a component by index, as the statement has it.
use mathlib.Core.Path.{◌≡◌, refl, ap}
use mathlib.Core.List.{List, [], ◌∷◌, map}
use Prim.Native.Nat.{ℕ, zero, suc, ◌<◌, suc-le-suc}
use native.Mathlib.Nat.{suc_inj, le_of_suc-le-suc}
use native.Mathlib.Omega.{arith}
use lib.IntN.{ℤ}
use lib.ListN.{get_or, length}
use Rattle.bands.specs.Bands.{is_bottom_band, position_of}
use Rattle.upgrade_steps.specs.Steps.{step_of}
use Rattle.progressive_decoder.specs.Upgrade.{upgraded_coefficients, upgraded_signs}
use Rattle.fitting.proofs.Tested.{first_fits, others_fit}
use Rattle.reach.specs.Place.{Gains}
use Rattle.fitting.specs.Component.{place_of_lists, ComponentFits}
use Rattle.reach.specs.Component.{ComponentGains}
use Rattle.reach.proofs.Places.{gain_refl, gain_trans}
use Rattle.reach.proofs.Passes.{Below, FitsRow, GainsRow, row_same, row_mid, pass_sound, pass_whole, Streams}

-- ════ by index and by list ════

fits_in : (bs p : List ℕ) (cs ss : List ℤ) → ComponentFits bs p cs ss → FitsRow p bs cs ss
fits_in [] p [] [] f = FitsRow.none
fits_in [] p [] (s ∷ ss) f = absurd (omega (arith, f.signs))
fits_in [] p (c ∷ cs) ss f = absurd (omega (arith, f.coefficients))
fits_in (b ∷ bs) p [] ss f = absurd (omega (arith, f.coefficients))
fits_in (b ∷ bs) p (c ∷ cs) [] f = absurd (omega (arith, f.signs))
fits_in (b ∷ bs) p (c ∷ cs) (s ∷ ss) f =
    FitsRow.one (first_fits f) (fits_in bs p cs ss (others_fit f))

gains_in : (bs p q : List ℕ) {cs ss : List ℤ} (cs' ss' : List ℤ) → FitsRow p bs cs ss → ComponentGains bs p q cs ss cs' ss' → GainsRow p q bs cs ss cs' ss'
gains_in [] p q [] [] FitsRow.none g = GainsRow.none
gains_in [] p q [] (s ∷ ss) f g = absurd (omega (arith, g.signs))
gains_in [] p q (c ∷ cs) ss f g = absurd (omega (arith, g.coefficients))
gains_in (b ∷ bs) p q [] ss f g = absurd (omega (arith, g.coefficients))
gains_in (b ∷ bs) p q (c ∷ cs) [] f g = absurd (omega (arith, g.signs))
gains_in (b ∷ bs) p q (c' ∷ cs') (s' ∷ ss') (FitsRow.one f fs) g =
    GainsRow.one (g.each zero (omega arith))
    (gains_in bs p q cs' ss' fs (record { coefficients = suc_inj g.coefficients; signs = suc_inj g.signs; each = λ i h. g.each (suc i) (suc-le-suc h) }))

gains_out : {bs p q : List ℕ} {cs ss cs' ss' : List ℤ} → GainsRow p q bs cs ss cs' ss' → ComponentGains bs p q cs ss cs' ss'
gains_out g = record { coefficients = coefficients g; signs = signs g; each = each g }
  where
    coefficients : {p q bs : List ℕ} {cs ss cs' ss' : List ℤ} → GainsRow p q bs cs ss cs' ss' → length cs' ≡ length bs
    coefficients GainsRow.none = refl
    coefficients (GainsRow.one g gs) = ap suc (coefficients gs)

    signs : {p q bs : List ℕ} {cs ss cs' ss' : List ℤ} → GainsRow p q bs cs ss cs' ss' → length ss' ≡ length bs
    signs GainsRow.none = refl
    signs (GainsRow.one g gs) = ap suc (signs gs)

    each : {p q bs : List ℕ} {cs ss cs' ss' : List ℤ} → GainsRow p q bs cs ss cs' ss' → (i : ℕ) → i < length bs
        → Gains (is_bottom_band (get_or bs i 0)) (position_of p (get_or bs i 0)) (position_of q (get_or bs i 0)) (place_of_lists cs ss i) (place_of_lists cs' ss' i)
    each GainsRow.none i h = absurd (omega arith)
    each (GainsRow.one g gs) zero h = g
    each (GainsRow.one g gs) (suc i) h = each gs i (le_of_suc-le-suc h)

-- ════ what a component may become ════

-- it fits its last positions
pub component_fits_lem : {bs p q : List ℕ} {cs ss cs' ss' : List ℤ} → ComponentGains bs p q cs ss cs' ss' → ComponentFits bs q cs' ss'
component_fits_lem g = record { coefficients = g.coefficients; signs = g.signs; each = λ i h. (g.each i h).fits }

-- a component between
pub record Middle (bs p q r : List ℕ) (cs ss cs'' ss'' : List ℤ) : Type 0 where
  pub coefficients : List ℤ
  pub signs : List ℤ
  pub before : ComponentGains bs p q cs ss coefficients signs
  pub behind : ComponentGains bs q r coefficients signs cs'' ss''

module _ {bs p : List ℕ} {cs ss : List ℤ} (f : ComponentFits bs p cs ss) where
  list : FitsRow p bs cs ss
  list = fits_in bs p cs ss f

  -- from its positions to the same a component may stay
  pub component_refl : ComponentGains bs p p cs ss cs ss
  component_refl = record { coefficients = f.coefficients; signs = f.signs; each = λ i h. gain_refl (is_bottom_band (get_or bs i 0)) (position_of p (get_or bs i 0)) (f.each i h) }

  -- and cannot change
  pub component_same : {cs' ss' : List ℤ} → ComponentGains bs p p cs ss cs' ss' → (cs' ≡ cs) × (ss' ≡ ss)
  component_same {cs'} {ss'} g = row_same list (gains_in bs p p cs' ss' list g)

  -- two gains one after the other are one
  pub component_trans : {q r : List ℕ} {cs' ss' cs'' ss'' : List ℤ} → Below p q → ComponentGains bs p q cs ss cs' ss' → ComponentGains bs q r cs' ss' cs'' ss''
      → ComponentGains bs p r cs ss cs'' ss''
  component_trans {q} {r} l g k = record {
    coefficients = k.coefficients;
    signs = k.signs;
    each = λ i h. gain_trans (is_bottom_band (get_or bs i 0)) (position_of p (get_or bs i 0)) (position_of q (get_or bs i 0)) (position_of r (get_or bs i 0)) (l (get_or bs i 0)) (f.each i h) (g.each i h) (k.each i h);
  }

  -- a pass gives what a component may become, whatever the streams hold
  pub component_sound : {q : List ℕ} → Below p q → (srl_data raw_data : List ℕ)
      → ComponentGains bs p q cs ss (upgraded_coefficients (map (step_of p q) bs) srl_data raw_data cs ss) (upgraded_signs (map (step_of p q) bs) srl_data ss)
  component_sound l srl_data raw_data = gains_out (pass_sound l list srl_data raw_data)

  -- and all of it, by some streams
  pub component_whole : {q : List ℕ} {cs' ss' : List ℤ} → Below p q → ComponentGains bs p q cs ss cs' ss' → Streams p q bs cs ss cs' ss'
  component_whole {q} {cs'} {ss'} l g = pass_whole l list (gains_in bs p q cs' ss' list g)

  -- what it may become goes by way of any positions between
  pub component_mid : {r : List ℕ} {cs'' ss'' : List ℤ} (q : List ℕ) → Below p q → ComponentGains bs p r cs ss cs'' ss'' → Middle bs p q r cs ss cs'' ss''
  component_mid {r} {cs''} {ss''} q l g =
      let m = row_mid q l list (gains_in bs p r cs'' ss'' list g) in
      record { coefficients = m.coefficients; signs = m.signs; before = gains_out m.before; behind = gains_out m.behind }
