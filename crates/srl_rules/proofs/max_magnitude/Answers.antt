-- `srl_rules::max_magnitude` meets its contract: the shift loses nothing, since 2^15 fits. Assumes nothing.
use native.Mathlib.Omega.{arith}
use lib.Pow.{pow_pos}
use Rattle.bits.proofs.Powers.{shl_one}
use Rattle.srl_rules.proofs.max_magnitude.Goals as goal

pub overflow_sub-result : goal.overflow_sub-result
overflow_sub-result c = rw (shl_one c.args.num_bits 16 (omega arith)) (omega (arith, pow_pos c.args.num_bits))

pub returns : goal.returns
returns c = rw (shl_one c.args.num_bits 16 (omega arith))
