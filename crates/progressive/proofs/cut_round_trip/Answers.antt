-- `progressive::cut_round_trip` meets its contract: the law is proved in `CutTrip`. Assumes nothing.
use Rattle.progressive.proofs.CutTrip.{cut_round_trip_lem}
use Rattle.progressive.proofs.cut_round_trip.Goals as goal

pub returns : goal.returns
returns c = cut_round_trip_lem
