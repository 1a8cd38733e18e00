-- `progressive_encoder::store::store_raw` meets its contract: after each turn the numbers so far are stored. Assumes nothing.
use Prim.Native.Nat.{◌*◌, ◌≤◌}
use lib.ListN.{length, take}
use Rattle.bits.specs.Inner.{WroteWords}
use Rattle.progressive_encoder.specs.Inner.{number_bits, fresh_sink}
use Rattle.progressive_encoder.proofs.store.store_raw.Given as goal

abbrev pub invariant-loop-x : goal.invariant-loop-x
invariant-loop-x l =
    (length (number_bits (take l.x-index l.raws)) ≤ 15 * l.x-index)
    × WroteWords l.initial.out fresh_sink (number_bits (take l.x-index l.raws)) l.sink l.out
