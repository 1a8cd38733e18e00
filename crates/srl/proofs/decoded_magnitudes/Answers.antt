-- `srl::decoded_magnitudes` meets its contract: the statement is proved in `Magnitudes.antt`. Assumes nothing.
use Rattle.srl.proofs.Magnitudes.{magnitudes}
use Rattle.srl.proofs.decoded_magnitudes.Goals as goal

pub returns : goal.returns
returns c = magnitudes
