-- `ladder::whole_at_zero` meets its contract: the law is proved in `Ends`. Assumes nothing.
use Rattle.ladder.proofs.Ends.{whole_at_zero_lem}
use Rattle.ladder.proofs.whole_at_zero.Goals as goal

pub returns : goal.returns
returns c = whole_at_zero_lem
