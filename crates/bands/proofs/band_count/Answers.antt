-- `bands::band_count` meets its contract. Assumes nothing.
use mathlib.Core.Path.{◌∙◌, ap}
use native.Mathlib.Omega.{arith}
use Rattle.bands.specs.Bands.{count_of}
use Rattle.bands.proofs.Laid.{band_within}
use Rattle.bands.proofs.band_count.Goals as goal

pub count-requires : goal.count-requires
count-requires c =
    let a = c.args in
    rw c.band.ensures (omega (arith, band_within a.use_reduce_extrapolate a.band_idx))

pub returns : goal.returns
returns c = c.count.ensures ∙ ap count_of c.band.ensures
