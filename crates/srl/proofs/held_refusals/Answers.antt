-- `srl::held_refusals` meets its contract: the statement is proved in `Kept.antt`. Assumes nothing.
use Rattle.srl.proofs.Kept.{held_kept}
use Rattle.srl.proofs.held_refusals.Goals as goal

pub returns : goal.returns
returns c = held_kept
