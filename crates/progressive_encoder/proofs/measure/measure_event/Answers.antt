-- `progressive_encoder::measure::measure_event` meets its contract. Assumes nothing.
use mathlib.Core.Bool.{true}
use Prim.Native.Nat.{◌≤◌}
use native.Mathlib.Omega.{arith}
use Rattle.srl_encoder.proofs.Nonzeros.{planned_le}
use Rattle.progressive_encoder.proofs.measure.measure_event.Goals as goal

pub overflow_add-result : goal.overflow_add-result
overflow_add-result c =
    let some : 1 ≤ c.magnitude_of-m.result = omega (arith, c.magnitude_of-m.ensures, c.requires.0.some) in
    let few : c.plan_run-plan.result.steps ≤ 4096 = omega (arith, c.plan_run-plan.ensures.few, c.zeros_of.ensures, c.requires.0.few) in
    let small : c.planned_length.result ≤ 80000 = omega (arith, c.planned_length.ensures, planned_le c.plan_run-plan.result c.width_of-width.result c.magnitude_of-m.result true c.plan_run-plan.ensures.good some, few, c.magnitude_of-m.type_inv) in
    omega (arith, small, c.requires.2)
