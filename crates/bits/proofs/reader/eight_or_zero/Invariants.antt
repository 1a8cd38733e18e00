-- `bits::reader::eight_or_zero` meets its contract: past the end all bits are 0, and each turn adds the 8 bits of a byte. Assumes nothing.
use mathlib.Core.Path.{◌≡◌}
use Prim.Native.Nat.{◌*◌, ◌≤◌}
use Rattle.bits.specs.Bits.{num}
use Rattle.bits.proofs.reader.eight_or_zero.Given as goal

abbrev pub invariant-loop-j : goal.invariant-loop-j
invariant-loop-j l = (l.j ≤ 8) × (l.bits ≡ num l.src (8 * l.i) (8 * l.j))
