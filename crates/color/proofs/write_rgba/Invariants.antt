-- `color::write_rgba` meets its contract: the blocks, and then the pixels, before the next are stored. Assumes nothing.
use Prim.Native.Nat.{◌*◌}
use Rattle.color.specs.Inner.{PixelsWritten}
use Rattle.color.proofs.write_rgba.Given as goal

abbrev pub invariant-loop-block : goal.invariant-loop-block
invariant-loop-block l = PixelsWritten l.y l.cb l.cr l.initial.pixels 0 l.pixels (64 * l.block)

abbrev pub invariant-loop-at : goal.invariant-loop-at
invariant-loop-at l = PixelsWritten l.y l.cb l.cr l.initial.pixels (64 * l.blocks) l.pixels l.at
