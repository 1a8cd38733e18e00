-- `progressive::own_cuts_sent` meets its contract: the law is proved in `OwnCuts`. Assumes nothing.
use Rattle.progressive.proofs.OwnCuts.{own_cuts_sent_lem}
use Rattle.progressive.proofs.own_cuts_sent.Goals as goal

pub returns : goal.returns
returns c = own_cuts_sent_lem
