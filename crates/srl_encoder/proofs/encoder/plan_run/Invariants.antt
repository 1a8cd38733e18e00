-- `srl_encoder::encoder::plan_run` meets its contract. The invariant: the run is `steps` zeros and then what is left of it. Assumes nothing.
use mathlib.Core.Path.{◌≡◌}
use mathlib.Core.Bool.{false}
use mathlib.Core.List.{◌++◌}
use Prim.Native.Nat.{suc, ◌+◌, ◌≤◌}
use lib.ListN.{replicate}
use Rattle.srl_encoder.specs.Encode.{run_bits, run_kp}
use Rattle.srl_encoder.proofs.encoder.plan_run.Given as goal

abbrev pub invariant-loop-plan : goal.invariant-loop-plan
invariant-loop-plan l = record {
  few : l.plan.steps + l.plan.rest ≤ l.zeros;
  kp : l.plan.kp ≤ 80;
  bits : run_bits (suc l.zeros) l.kp l.zeros ≡ replicate l.plan.steps false ++ run_bits (suc l.plan.rest) l.plan.kp l.plan.rest;
  next : run_kp (suc l.zeros) l.kp l.zeros ≡ run_kp (suc l.plan.rest) l.plan.kp l.plan.rest;
}

abbrev pub decreases-loop-plan : goal.decreases-loop-plan
decreases-loop-plan l = l.plan.rest
