-- A component that fits a row of positions (docs/SCOPE.md, "What any list of passes can reach"). `bands` gives the band of each place; all of it holds for
-- every list of bands.
use Rattle.std.specs.Prelude.{◌≡◌, Bool, true, false, ◌&&◌, List, [], ◌∷◌, ℕ, ◌<◌, ℤ, pos, get_or, length}
use Rattle.bands.specs.Bands.{is_bottom_band, position_of}
use Rattle.fitting.specs.Place.{Place, place, Fits, fits}

-- the place with index i
abbrev pub place_of_lists : List ℤ → List ℤ → ℕ → Place
place_of_lists cs ss i = place (get_or cs i (pos 0)) (get_or ss i (pos 0))

-- "a component fits its positions if" each place does: a coefficient and a sign for each
pub record ComponentFits (bands row : List ℕ) (cs ss : List ℤ) : Type 0 where
  pub coefficients : length cs ≡ length bands
  pub signs : length ss ≡ length bands
  pub each : (i : ℕ) → i < length bands → Fits (is_bottom_band (get_or bands i 0)) (position_of row (get_or bands i 0)) (place_of_lists cs ss i)

-- the same as a test, place by place
unfoldable pub component_fits : List ℕ → List ℕ → List ℤ → List ℤ → Bool
component_fits [] row [] [] = true
component_fits [] row [] (s ∷ ss) = false
component_fits [] row (c ∷ cs) ss = false
component_fits (b ∷ bands) row [] ss = false
component_fits (b ∷ bands) row (c ∷ cs) [] = false
component_fits (b ∷ bands) row (c ∷ cs) (s ∷ ss) =
    fits (is_bottom_band b) (position_of row b) (place c s) && component_fits bands row cs ss
