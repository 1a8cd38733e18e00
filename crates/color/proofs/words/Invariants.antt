-- `color::words` meets its contract: the first i of both are stored. Assumes nothing.
use Prim.Native.Nat.{◌+◌}
use Rattle.color.specs.Inner.{red_green, blue_full}
use Rattle.color.proofs.Picture.{Storing}
use Rattle.color.proofs.words.Given as goal

abbrev pub invariant-loop-i : goal.invariant-loop-i
invariant-loop-i l = Storing (λ k. red_green l.y l.cb l.cr (l.at + k)) l.low l.i × Storing (λ k. blue_full l.y l.cb (l.at + k)) l.high l.i
