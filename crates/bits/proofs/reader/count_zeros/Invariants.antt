-- `bits::reader::count_zeros` meets its contract: after each turn z bits are known to be zeros, and every turn but one that gives up began in the stream. Assumes nothing.
use mathlib.Core.Path.{◌≡◌}
use Prim.Native.Nat.{◌-◌, ◌*◌, ◌≤◌, min}
use Rattle.bits.specs.Bits.{zeros, bits_read}
use Rattle.bits.specs.Turns.{still_held, words_of}
use Rattle.bits.proofs.reader.count_zeros.Given as goal

abbrev pub invariant-loop-z : goal.invariant-loop-z
invariant-loop-z l =
    (zeros l.src (bits_read l.r) l.z ≡ l.z) × (l.z ≡ min l.limit (56 * l.turns)) × (l.turns ≡ words_of l.z) × (l.turns ≤ words_of (still_held l.src (bits_read l.r)))

abbrev pub decreases-loop-z : goal.decreases-loop-z
decreases-loop-z l = l.limit - l.z
