-- `progressive_encoder::events::list_events` meets its contract: after each turn the places so far are listed, eight at a time. Assumes nothing.
use Prim.Native.Nat.{◌*◌}
use Rattle.upgrade_steps.specs.Inner.{band_step}
use Rattle.progressive_encoder.specs.Inner.{listed_by, TakesEvents}
use Rattle.progressive_encoder.proofs.events.list_events.Given as goal

abbrev pub invariant-loop-k : goal.invariant-loop-k
invariant-loop-k g l = TakesEvents g.R.Rule.rule (band_step l.t) l.coefficients l.prev_coefficients l.classes 0 (8 * l.k) (listed_by l.initial.words l.initial.done) (listed_by l.words l.done)
