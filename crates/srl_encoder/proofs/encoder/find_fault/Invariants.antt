-- `srl_encoder::encoder::find_fault` meets its contract. The invariant: the refusal of all values is that of the rest. Assumes nothing.
use mathlib.Core.Path.{◌≡◌}
use Prim.Native.Nat.{◌≤◌}
use lib.ListN.{drop}
use Rattle.srl_encoder.specs.Encode.{fault}
use Rattle.srl_encoder.proofs.encoder.find_fault.Given as goal

abbrev pub invariant-loop-v : goal.invariant-loop-v
invariant-loop-v l = record {
  few : l.pending ≤ 4096;
  rest : fault l.num_bits l.zeros l.values ≡ fault l.num_bits l.pending (drop l.v-index l.values);
}
