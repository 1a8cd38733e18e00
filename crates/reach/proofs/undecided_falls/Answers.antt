-- `reach::undecided_falls` meets its contract: the law is proved in `Undecided`. Assumes nothing.
use Rattle.reach.proofs.Undecided.{undecided_falls_lem}
use Rattle.reach.proofs.undecided_falls.Goals as goal

pub returns : goal.returns
returns c = undecided_falls_lem
