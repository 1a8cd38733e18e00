-- `srl_encoder::encoder::plan_run` meets its contract. Assumes nothing.
use mathlib.Core.Path.{ap, ◌∙◌}
use mathlib.Core.Bool.{false}
use mathlib.Core.List.{◌++◌}
use Prim.Native.Nat.{◌/◌, ◌^◌, ◌≤◌}
use native.Mathlib.Omega.{arith}
use lib.ListN.{replicate}
use lib.Pow.{pow_pos}
use Rattle.srl_encoder.proofs.Runs.{run_more, plan_step}
use Rattle.srl_encoder.proofs.encoder.plan_run.Goals as goal

pub loop-plan-preserved : goal.loop-plan-preserved
loop-plan-preserved c =
    let plan = c.loop-plan.plan in
    let so_far = c.loop-plan.invariant in
    let size = c.run_size-in-loop-plan.ensures in
    let whole : 2 ^ (plan.kp / 8) ≤ plan.rest = omega (arith, c.loop-plan-test.true, c.run_size.ensures) in
    let more = run_more plan.kp plan.rest whole in record {
      few = omega (arith, so_far.few, size, pow_pos (plan.kp / 8));
      kp = omega (arith, c.raised.ensures);
      bits = rw (c.raised.ensures, size) (so_far.bits ∙ ap (λ x. replicate plan.steps false ++ x) more.0 ∙ plan_step plan.steps _);
      next = rw (c.raised.ensures, size) (so_far.next ∙ more.1);
    }
