-- `progressive_decoder::split::split_places` meets its contract: a place is stored in both lists, and counts in one. Assumes nothing.
use mathlib.Core.Path.{◌≡◌}
use lib.ListN.{length}
use Rattle.upgrade_steps.specs.Inner.{band_step}
use Rattle.progressive_decoder.specs.Inner.{Split}
use Rattle.progressive_decoder.proofs.split.split_places.Given as goal

abbrev pub invariant-loop-i : goal.invariant-loop-i
invariant-loop-i l = (length l.zeros ≡ length l.initial.zeros) × (length l.others ≡ length l.initial.others) × Split (band_step l.t) l.sign l.i l.n l.zeros l.others
