-- `ladder::nothing_refused` meets its contract: the law is proved in `Ends`. Assumes nothing.
use Rattle.ladder.proofs.Ends.{nothing_refused_lem}
use Rattle.ladder.proofs.nothing_refused.Goals as goal

pub returns : goal.returns
returns c = nothing_refused_lem
