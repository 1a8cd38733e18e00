-- `bands::band_ends` meets its contract. Assumes nothing.
use mathlib.Core.Path.{refl}
use Rattle.bands.proofs.band_ends.Goals as goal

pub returns-then-use_reduce_extrapolate : goal.returns-then-use_reduce_extrapolate
returns-then-use_reduce_extrapolate c = rw c.if-use_reduce_extrapolate.true refl

pub returns-else-use_reduce_extrapolate : goal.returns-else-use_reduce_extrapolate
returns-else-use_reduce_extrapolate c = rw c.if-use_reduce_extrapolate.false refl
