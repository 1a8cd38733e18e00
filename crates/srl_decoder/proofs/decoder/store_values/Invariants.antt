-- `srl_decoder::decoder::store_values` meets its contract: a turn reads code words and a nonzero value behind them, and what is left to store stays the same. Assumes nothing.
use mathlib.Core.Path.{◌≡◌}
use Prim.Native.Nat.{◌+◌, ◌-◌, ◌*◌, ◌≤◌}
use lib.ListN.{length}
use Rattle.srl_decoder.specs.Srl.{reader}
use Rattle.srl_decoder.specs.Inner.{Clear}
use Rattle.srl_decoder.proofs.Filled.{fill, rest}
use Rattle.srl_decoder.proofs.decoder.store_values.Given as goal

abbrev pub invariant-loop-j : goal.invariant-loop-j
invariant-loop-j l = record {
  bit_idx : l.bit_idx ≤ 7;
  kp : l.kp ≤ 80;
  near : 8 * l.byte_idx + l.bit_idx ≤ 8 * length l.src + l.n + 32777;
  clear : Clear l.out l.j l.n;
  left : fill l.src l.num_bits l.n 0 (reader (8 * l.initial.byte_idx + l.initial.bit_idx) l.initial.kp l.initial.j l.initial.pending) l.initial.out ≡ rest l.src l.num_bits l.n l.j (8 * l.byte_idx + l.bit_idx) l.kp l.pending l.out;
  turns_done : l.turns ≤ l.j;
  turns : l.turns ≤ l.n;
}

abbrev pub decreases-loop-j : goal.decreases-loop-j
decreases-loop-j l = l.n - l.j
