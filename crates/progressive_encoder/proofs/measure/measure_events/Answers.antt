-- `progressive_encoder::measure::measure_events` meets its contract: after each turn the events so far are measured. Assumes nothing.
use native.Mathlib.Omega.{arith}
use lib.Seq.{length-take-le}
use Rattle.progressive_encoder.proofs.Held.{each_at}
use Rattle.progressive_encoder.proofs.StreamLengths.{measured_none, measured_more}
use Rattle.progressive_encoder.proofs.measure.measure_events.Goals as goal

pub loop-x-init : goal.loop-x-init
loop-x-init c = measured_none c.args.events.now

pub measure_event-done-requires : goal.measure_event-done-requires
measure_event-done-requires c =
    let l = c.loop-x in
    let xs = c.args.events.now in
    (each_at xs l.x-index c.requires.1 c.loop-x-test.true, l.invariant.low, omega (arith, l.invariant.few, length-take-le l.x-index xs (omega arith)))

pub loop-x-preserved : goal.loop-x-preserved
loop-x-preserved c =
    let l = c.loop-x in
    let xs = c.args.events.now in
    measured_more xs l.x-index c.loop-x-test.true _ _ (each_at xs l.x-index c.requires.1 c.loop-x-test.true) l.invariant c.measure_event-done.ensures
