-- `progressive_encoder::measure::number_bits` meets its contract: after each turn the numbers so far are measured. Assumes nothing.
use mathlib.Core.Path.{◌≡◌}
use Prim.Native.Nat.{◌*◌, ◌≤◌}
use lib.ListN.{length, take}
use Rattle.progressive_encoder.specs.Inner.{number_bits}
use Rattle.progressive_encoder.proofs.measure.number_bits.Given as goal

abbrev pub invariant-loop-x : goal.invariant-loop-x
invariant-loop-x l = (l.bits ≡ length (number_bits (take l.x-index l.raws))) × (l.bits ≤ 65536 * l.x-index)
