-- `srl_encoder::encoder::put_values` meets its contract. The invariant: the values so far are written. Assumes nothing.
use Prim.Native.Nat.{◌+◌, ◌≤◌}
use lib.ListN.{take}
use Rattle.srl_encoder.specs.Inner.{WroteValues}
use Rattle.srl_encoder.proofs.encoder.put_values.Given as goal

abbrev pub invariant-loop-v : goal.invariant-loop-v
invariant-loop-v l = record {
  kp : l.done.kp ≤ 80;
  few : l.done.zeros ≤ 4096 + l.v-index;
  wrote : WroteValues l.num_bits l.initial.out l.initial.done (take l.v-index l.values) l.done l.out;
}
