-- `srl::round_trip` meets its contract: the statement is proved in `Back.antt`. Assumes nothing.
use Rattle.srl.proofs.Back.{trip}
use Rattle.srl.proofs.round_trip.Goals as goal

pub returns : goal.returns
returns c = trip
