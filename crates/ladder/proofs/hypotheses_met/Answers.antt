-- `ladder::hypotheses_met` meets its contract: the law is proved in `Instances`. Assumes nothing.
use Rattle.ladder.proofs.Instances.{hypotheses_met_lem}
use Rattle.ladder.proofs.hypotheses_met.Goals as goal

pub returns : goal.returns
returns c = hypotheses_met_lem
