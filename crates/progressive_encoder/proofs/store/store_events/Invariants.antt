-- `progressive_encoder::store::store_events` meets its contract: after each turn the events so far are stored. Assumes nothing.
use lib.ListN.{take}
use Rattle.progressive_encoder.specs.Inner.{StoresEvents}
use Rattle.progressive_encoder.proofs.store.store_events.Given as goal

abbrev pub invariant-loop-x : goal.invariant-loop-x
invariant-loop-x l = StoresEvents (take l.x-index l.events) l.initial.out l.done l.initial.done.zeros l.out
