-- `bands::bands_of_places` meets its contract: both tables are compared with the definition, entry by entry. Assumes nothing.
use mathlib.Core.Bool.{true, false}
use Rattle.bands.specs.Bands.{spread, bands_of}
use Rattle.bands.proofs.Places.{tested}
use Rattle.bands.proofs.bands_of_places.Goals as goal

pub returns-then-use_reduce_extrapolate : goal.returns-then-use_reduce_extrapolate
unfolding spread
returns-then-use_reduce_extrapolate c = rw c.if-use_reduce_extrapolate.true (tested _ (bands_of true) tt)

pub returns-else-use_reduce_extrapolate : goal.returns-else-use_reduce_extrapolate
unfolding spread
returns-else-use_reduce_extrapolate c = rw c.if-use_reduce_extrapolate.false (tested _ (bands_of false) tt)
