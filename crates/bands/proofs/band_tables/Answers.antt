-- `bands::band_tables` meets its contract: the statement is proved in `Laid.antt`. Assumes nothing.
use Rattle.bands.proofs.Laid.{tables}
use Rattle.bands.proofs.band_tables.Goals as goal

pub returns : goal.returns
returns c = tables
