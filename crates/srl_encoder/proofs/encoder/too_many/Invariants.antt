-- `srl_encoder::encoder::too_many` meets its contract. The invariant: the count of all values is that of the rest from here. Assumes nothing.
use mathlib.Core.Path.{◌≡◌}
use Prim.Native.Nat.{◌+◌, ◌≤◌}
use lib.ListN.{drop}
use Rattle.srl_encoder.specs.Inner.{call_count, GoodMeasure}
use Rattle.srl_encoder.proofs.encoder.too_many.Given as goal

abbrev pub invariant-loop-v : goal.invariant-loop-v
invariant-loop-v l = record {
  good : GoodMeasure l.cur;
  few : l.cur.zeros ≤ 4096 + l.v-index;
  fits : l.cur.place.at ≤ l.limit;
  rest : call_count l.num_bits l.initial.cur l.values ≡ call_count l.num_bits l.cur (drop l.v-index l.values);
}
