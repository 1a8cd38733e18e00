-- The tests say what the statements say: what `fitting::fits_tested` proves.
use Rattle.std.specs.Prelude.{◌≡◌, ◌↔◌, Bool, true, List, ℕ, ℤ}
use Rattle.fitting.specs.Place.{Place, Fits, fits}
use Rattle.fitting.specs.Component.{ComponentFits, component_fits}

-- of a place at every position, and of a component at every row, for every list of bands
pub record FitsTested : Type 0 where
  pub place : (bottom : Bool) (p : ℕ) (x : Place) → (fits bottom p x ≡ true) ↔ Fits bottom p x
  pub component : (bands row : List ℕ) (cs ss : List ℤ) → (component_fits bands row cs ss ≡ true) ↔ ComponentFits bands row cs ss
