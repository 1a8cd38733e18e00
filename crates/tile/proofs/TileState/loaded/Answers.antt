-- `tile::TileState::loaded` meets its contract. Assumes nothing.
use Rattle.tile.specs.Tile.{fresh, loaded}
use Rattle.tile.proofs.TileState.loaded.Goals as goal

pub returns : goal.returns
unfolding fresh loaded
returns c = rw (c.count.ensures, c.load.ensures, c.load-2.ensures, c.flat_rows.ensures, c.flat_rows-2.ensures)
