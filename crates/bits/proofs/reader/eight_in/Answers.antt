-- `bits::reader::eight_in` meets its contract: eight bytes in Horner form are 64 bits. Assumes nothing.
use native.Mathlib.Omega.{arith}
use Rattle.bits.proofs.Numbers.{num_eight}
use Rattle.bits.proofs.reader.eight_in.Goals as goal

pub returns : goal.returns
returns c = omega (arith, num_eight c.args.src.now c.args.i (λ i. (c.shared_slice_known-1.given i).fits))
