-- `bits::writer::put_zero_words` meets its contract. The invariant: what the turns so far wrote is so many zeros. Assumes nothing.
use mathlib.Core.Path.{◌≡◌}
use mathlib.Core.Bool.{false}
use Prim.Native.Nat.{◌-◌, ◌≤◌}
use lib.ListN.{length, replicate}
use Rattle.bits.specs.Inner.{WroteWords}
use Rattle.bits.proofs.writer.put_zero_words.Given as goal

abbrev pub invariant-loop-left : goal.invariant-loop-left
invariant-loop-left l =
    (length l.out ≡ length l.initial.out) × (l.left ≤ l.n)
    × WroteWords l.initial.out (record { at = l.initial.at; word = l.initial.word; held = l.initial.held }) (replicate (l.n - l.left) false) (record { at = l.at; word = l.word; held = l.held }) l.out

abbrev pub decreases-loop-left : goal.decreases-loop-left
decreases-loop-left l = l.left
