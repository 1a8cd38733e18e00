-- `srl_encoder::encoder::planned_length` meets its contract. Assumes nothing.
use mathlib.Core.Bool.{true}
use native.Mathlib.Omega.{arith}
use Rattle.srl_encoder.proofs.Nonzeros.{nonzero_le}
use Rattle.srl_encoder.proofs.Runs.{length_plan}
use Rattle.srl_encoder.proofs.encoder.planned_length.Goals as goal

pub overflow_add-result : goal.overflow_add-result
overflow_add-result c =
    let a = c.args in
    omega (arith, c.run_length.ensures, length_plan a.plan, c.nonzero_length.ensures, nonzero_le a.num_bits a.m true c.requires.1, c.requires.0, c.well_formed, c.ranges)
