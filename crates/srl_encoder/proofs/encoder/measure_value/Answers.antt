-- `srl_encoder::encoder::measure_value` meets its contract. Assumes nothing.
use mathlib.Core.Bool.{true}
use Prim.Native.Nat.{◌≤◌}
use native.Mathlib.Omega.{arith}
use Rattle.srl_encoder.proofs.Nonzeros.{planned_le}
use Rattle.srl_encoder.proofs.encoder.measure_value.Goals as goal

pub count_bits-requires : goal.count_bits-requires
count_bits-requires c =
    let some : 1 ≤ c.args.m = omega (arith, c.if-m-eq0.false) in
    let plan = c.plan_run-plan in
    let n = planned_le plan.result c.args.num_bits c.args.m true plan.ensures.good some in
    (c.requires.0.0, omega (arith, c.planned_length.ensures, n, plan.ensures.few, c.requires.1, c.well_formed))
