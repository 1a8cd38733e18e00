-- `progressive_encoder::store::store_events` meets its contract: after each turn the events so far are stored. Assumes nothing.
use mathlib.Core.Path.{sym, subst}
use Prim.Native.Nat.{◌+◌, ◌^◌, ◌<◌}
use native.Mathlib.Omega.{arith}
use lib.ListN.{take}
use lib.Seq.{length-take-le}
use Rattle.bits.specs.declared.writer.WordWriter.{WordWriter}
use Rattle.progressive_encoder.specs.Inner.{StoresEvents}
use Rattle.progressive_encoder.proofs.Held.{each_at}
use Rattle.progressive_encoder.proofs.StoredStreams.{events_none, events_more, words_near}
use Rattle.progressive_encoder.proofs.store.store_events.Goals as goal

pub loop-x-init : goal.loop-x-init
loop-x-init c =
    let a = c.args in
    subst (λ (k : WordWriter). StoresEvents (take 0 a.events.now) a.out.now (record { sink = k; kp = 8; zeros = a.zeros }) a.zeros a.out.now) (sym c.fresh_sink.ensures)
    (events_none a.events.now a.out.now a.zeros)

pub store_event-done-requires : goal.store_event-done-requires
store_event-done-requires c =
    let l = c.loop-x in
    let f = l.invariant in
    let xs = c.args.events.now in
    let early : l.done.sink.at + 100000 < 2 ^ 64 = omega (arith, words_near c.args.out.now _ f.wrote, f.few, length-take-le l.x-index xs (omega arith)) in
    (each_at xs l.x-index c.requires.1 c.loop-x-test.true, f.wrote.sound, f.low, early)

pub loop-x-preserved : goal.loop-x-preserved
loop-x-preserved c =
    let a = c.args in
    let l = c.loop-x in
    let xs = a.events.now in
    events_more xs a.out.now l.x-index a.zeros c.loop-x-test.true (each_at xs l.x-index c.requires.1 c.loop-x-test.true) l.invariant c.store_event-done.ensures
