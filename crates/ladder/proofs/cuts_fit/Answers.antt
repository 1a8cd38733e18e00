-- `ladder::cuts_fit` meets its contract: the law is proved in `CutFits`. Assumes nothing.
use Rattle.ladder.proofs.CutFits.{cuts_fit}
use Rattle.ladder.proofs.cuts_fit.Goals as goal

pub returns : goal.returns
returns c = cuts_fit
