-- `bits::writer::low_bits` meets its contract. Assumes nothing.
use mathlib.Core.Path.{ap}
use Prim.Native.Nat.{◌%◌}
use lib.Pow.{pow_pos}
use Rattle.bits.proofs.Powers.{shl_one}
use Rattle.bits.proofs.writer.low_bits.Goals as goal

pub nonzero_rem-result : goal.nonzero_rem-result
nonzero_rem-result c = rw (shl_one c.args.n 64 c.requires) (pow_pos c.args.n)

pub returns : goal.returns
returns c = ap (λ m. c.args.x % m) (shl_one c.args.n 64 c.requires)
