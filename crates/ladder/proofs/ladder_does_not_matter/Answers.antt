-- `ladder::ladder_does_not_matter` meets its contract: the law is proved in `Ends`. Assumes nothing.
use Rattle.ladder.proofs.Ends.{ladder_does_not_matter_lem}
use Rattle.ladder.proofs.ladder_does_not_matter.Goals as goal

pub returns : goal.returns
returns c = ladder_does_not_matter_lem
