-- `color::write_64` meets its contract: those before i are stored. Assumes nothing.
use Prim.Native.Nat.{◌+◌, ◌≤◌}
use Rattle.color.specs.Inner.{PixelsWritten}
use Rattle.color.proofs.write_64.Given as goal

abbrev pub invariant-loop-i : goal.invariant-loop-i
invariant-loop-i l = (l.i ≤ 64) × PixelsWritten l.y l.cb l.cr l.initial.pixels l.at l.pixels (l.at + l.i)
