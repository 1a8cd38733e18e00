-- `bits::reader::skip` meets its contract: the byte and the bit are those of the count. Assumes nothing.
use native.Mathlib.Omega.{arith}
use Rattle.bits.proofs.Places.{place_is}
use Rattle.bits.proofs.reader.skip.Goals as goal

pub returns : goal.returns
returns c = place_is _ _ _ (omega arith) (omega arith)
