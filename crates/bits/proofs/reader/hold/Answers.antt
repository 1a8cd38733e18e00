-- `bits::reader::hold` meets its contract: at or past the end the place is that of the end. Assumes nothing.
use native.Mathlib.Omega.{arith}
use Rattle.bits.proofs.Places.{place_is}
use Rattle.bits.proofs.reader.hold.Goals as goal

pub returns-then-len-r : goal.returns-then-len-r
returns-then-len-r c = place_is _ _ _ (omega arith) (omega arith)

pub returns : goal.returns
returns c = place_is _ _ _ (omega arith) (omega arith)
