-- `bits::reader::past_end` meets its contract. It closes by itself: by hand, its places are printed where the count is another. Assumes nothing.
use native.Mathlib.Omega.{arith}
use Rattle.bits.proofs.reader.past_end.Goals as goal

pub returns : goal.returns
returns c = omega arith
