-- `srl::missing_bits` meets its contract: the statement is proved in `Missed.antt`. Assumes nothing.
use Rattle.srl.proofs.Missed.{missing}
use Rattle.srl.proofs.missing_bits.Goals as goal

pub returns : goal.returns
returns c = missing
