-- `progressive_decoder::split::split` meets its contract: eight places a turn, and then what is left. Assumes nothing.
use mathlib.Core.Path.{◌≡◌}
use Prim.Native.Nat.{◌*◌}
use lib.ListN.{length}
use Rattle.upgrade_steps.specs.Inner.{band_step}
use Rattle.progressive_decoder.specs.Inner.{Split}
use Rattle.progressive_decoder.proofs.split.split.Given as goal

abbrev pub invariant-loop-k : goal.invariant-loop-k
invariant-loop-k l = (length l.zeros ≡ length l.initial.zeros) × (length l.others ≡ length l.initial.others) × Split (band_step l.t) l.sign (8 * l.k) l.n l.zeros l.others
