-- `bands::band_of_place` meets its contract: a place past the 4,096 has the number 10. Assumes nothing.
use mathlib.Core.Path.{ap, ◌∙◌}
use Rattle.std.specs.Option.{unwrap_or}
use Rattle.bands.proofs.Places.{number_or_10}
use Rattle.bands.proofs.band_of_place.Goals as goal

pub returns : goal.returns
returns c = c.unwrap_or.ensures ∙ ap (λ r. unwrap_or r 10) c.find_band.ensures ∙ number_or_10 c.args.use_reduce_extrapolate c.args.place
