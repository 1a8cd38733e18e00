-- `progressive_encoder::measure::measure_events` meets its contract: after each turn the events so far are measured. Assumes nothing.
use lib.ListN.{take}
use Rattle.progressive_encoder.specs.Inner.{MeasuresEvents}
use Rattle.progressive_encoder.proofs.measure.measure_events.Given as goal

abbrev pub invariant-loop-x : goal.invariant-loop-x
invariant-loop-x l = MeasuresEvents (take l.x-index l.events) l.done
