-- `progressive::missing_bits` meets its contract: the statement is proved in `Missed.antt`. Assumes nothing.
use Rattle.progressive.proofs.Missed.{missing}
use Rattle.progressive.proofs.missing_bits.Goals as goal

pub returns : goal.returns
returns c = missing
