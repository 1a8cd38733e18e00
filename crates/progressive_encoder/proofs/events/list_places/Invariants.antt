-- `progressive_encoder::events::list_places` meets its contract: after each turn the places so far are listed. Assumes nothing.
use Prim.Native.Nat.{◌≤◌}
use Rattle.upgrade_steps.specs.Inner.{band_step}
use Rattle.progressive_encoder.specs.Inner.{listed_by, TakesEvents}
use Rattle.progressive_encoder.proofs.events.list_places.Given as goal

abbrev pub invariant-loop-i : goal.invariant-loop-i
invariant-loop-i g l =
    (l.from ≤ l.i) × TakesEvents g.R.Rule.rule (band_step l.t) l.coefficients l.prev_coefficients l.classes l.from l.i (listed_by l.initial.words l.initial.done) (listed_by l.words l.done)
