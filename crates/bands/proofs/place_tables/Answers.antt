-- `bands::place_tables` meets its contract: the statement is proved in `Places.antt`. Assumes nothing.
use Rattle.bands.proofs.Places.{place_tables_lem}
use Rattle.bands.proofs.place_tables.Goals as goal

pub returns : goal.returns
returns c = place_tables_lem
