-- `ladder::same_end` meets its contract: the law is proved in `Ends`. Assumes nothing.
use Rattle.ladder.proofs.Ends.{same_end}
use Rattle.ladder.proofs.same_end.Goals as goal

pub returns : goal.returns
returns c = same_end
