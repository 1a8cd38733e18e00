-- `srl_decoder::decoder::any_due` meets its contract: after each turn the dry run from the start is the turns so far and the dry run of the values left. Assumes nothing.
use mathlib.Core.Path.{◌≡◌}
use Prim.Native.Nat.{ℕ, ◌+◌, ◌-◌, ◌*◌, ◌≤◌}
use lib.ListN.{length}
use Rattle.bits.specs.Bits.{bits_read}
use Rattle.srl_decoder.specs.Decode.{opened}
use Rattle.srl_decoder.specs.Turns.{dry_run}
use Rattle.srl_decoder.specs.declared.decoder.DryRun.{DryRun}
use Rattle.srl_decoder.proofs.decoder.any_due.Given as goal

-- what a dry run finds after some turns
abbrev pub after : ℕ → DryRun → DryRun
after t d = record { due = d.due; turns = t + d.turns }

abbrev pub invariant-loop-turns : goal.invariant-loop-turns
invariant-loop-turns l = record {
  bit_idx : l.cur.reader.bit_idx ≤ 7;
  kp : l.cur.kp ≤ 80;
  done : dry_run l.src (opened l.initial.cur) l.num_values ≡ after l.turns (dry_run l.src (opened l.cur) l.left);
}

abbrev pub decreases-loop-turns : goal.decreases-loop-turns
decreases-loop-turns l = 8 * length l.src - bits_read l.cur.reader
