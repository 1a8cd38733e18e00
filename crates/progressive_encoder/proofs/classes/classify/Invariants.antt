-- `progressive_encoder::classes::classify` meets its contract: after each turn the places so far have their classes. Assumes nothing.
use mathlib.Core.Path.{◌≡◌}
use Prim.Native.Nat.{ℕ, ◌<◌}
use lib.IntN.{pos}
use lib.ListN.{get_or}
use Rattle.upgrade_steps.specs.Inner.{band_step}
use Rattle.progressive_encoder.specs.Inner.{class_of}
use Rattle.progressive_encoder.proofs.classes.classify.Given as goal

abbrev pub invariant-loop-i : goal.invariant-loop-i
invariant-loop-i g l =
    (k : ℕ) → k < l.i → get_or l.classes k 0 ≡ class_of g.R.Rule.rule (band_step l.t) (get_or l.coefficients k (pos 0)) (get_or l.prev_coefficients k (pos 0)) (get_or l.sign k (pos 0))
