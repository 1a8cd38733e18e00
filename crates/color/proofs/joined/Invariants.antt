-- `color::joined` meets its contract: the first i are stored. Assumes nothing.
use Prim.Native.Nat.{◌+◌, ◌*◌}
use lib.ListN.{get_or}
use Rattle.color.proofs.Picture.{Storing}
use Rattle.color.proofs.joined.Given as goal

abbrev pub invariant-loop-i : goal.invariant-loop-i
invariant-loop-i l = Storing (λ k. get_or l.low k 0 + 65536 * get_or l.high k 0) l.out l.i
