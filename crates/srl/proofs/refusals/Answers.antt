-- `srl::refusals` meets its contract: the statement is proved in `Kept.antt`. Assumes nothing.
use Rattle.srl.proofs.Kept.{answers_kept}
use Rattle.srl.proofs.refusals.Goals as goal

pub returns : goal.returns
returns c = answers_kept
