-- `progressive::pass_round_trip` meets its contract: the law is proved in `Regained`. Assumes nothing.
use Rattle.progressive.proofs.Regained.{pass_round_trip_lem}
use Rattle.progressive.proofs.pass_round_trip.Goals as goal

pub returns : goal.returns
returns c = pass_round_trip_lem
