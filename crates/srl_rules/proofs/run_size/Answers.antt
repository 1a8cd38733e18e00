-- `srl_rules::run_size` meets its contract: kp / 8 is at most 31. Assumes nothing.
use Prim.Native.Nat.{◌/◌}
use native.Mathlib.Omega.{arith}
use Rattle.bits.proofs.Powers.{shl_one}
use Rattle.srl_rules.proofs.run_size.Goals as goal

pub returns : goal.returns
returns c = shl_one (c.args.kp / 8) 64 (omega arith)
