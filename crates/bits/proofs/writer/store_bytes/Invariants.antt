-- `bits::writer::store_bytes` meets its contract. The invariant: all bits are written as those that are left are from here. Assumes nothing.
use mathlib.Core.Path.{◌≡◌}
use Prim.Native.Nat.{◌+◌, ◌*◌, ◌≤◌}
use lib.ListN.{length}
use Rattle.bits.specs.Written.{bits_of, writer}
use Rattle.bits.specs.Inner.{write}
use Rattle.bits.proofs.writer.store_bytes.Given as goal

abbrev pub invariant-loop-left : goal.invariant-loop-left
invariant-loop-left l =
    (length l.out ≡ length l.initial.out) × (8 * l.next + l.left ≡ 8 * l.at + l.n) × (l.left ≤ l.n)
    × (write l.initial.out (writer l.at 0 0) (bits_of l.n l.x) ≡ write l.out (writer l.next 0 0) (bits_of l.left l.x))

abbrev pub decreases-loop-left : goal.decreases-loop-left
decreases-loop-left l = l.left
