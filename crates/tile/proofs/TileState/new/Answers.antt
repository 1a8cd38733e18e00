-- `tile::TileState::new` meets its contract. Assumes nothing.
use Rattle.tile.specs.Tile.{fresh}
use Rattle.tile.proofs.TileState.new.Goals as goal

pub returns : goal.returns
unfolding fresh
returns c = rw (c.flat_rows.ensures, c.count.ensures)
