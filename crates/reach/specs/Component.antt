-- A component, place by place. `bands` gives the band of each place; all of it holds for every list of bands.
use Rattle.std.specs.Prelude.{◌≡◌, List, ℕ, ◌<◌, ℤ, get_or, length}
use Rattle.bands.specs.Bands.{is_bottom_band, position_of}
use Rattle.fitting.specs.Component.{place_of_lists}
use Rattle.reach.specs.Place.{Gains}

-- from the starting row to the last one a component may become cs' and ss'
pub record ComponentGains (bands start last : List ℕ) (cs ss cs' ss' : List ℤ) : Type 0 where
  pub coefficients : length cs' ≡ length bands
  pub signs : length ss' ≡ length bands
  pub each : (i : ℕ) → i < length bands
      → Gains (is_bottom_band (get_or bands i 0)) (position_of start (get_or bands i 0)) (position_of last (get_or bands i 0)) (place_of_lists cs ss i) (place_of_lists cs' ss' i)
