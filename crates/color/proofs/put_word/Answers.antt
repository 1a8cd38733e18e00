-- `color::put_word` meets its contract. Assumes nothing.
use native.Mathlib.Omega.{arith}
use lib.ListN.{length-set}
use Rattle.color.proofs.put_word.Goals as goal

pub bounds-pixels-o-2 : goal.bounds-pixels-o-2
bounds-pixels-o-2 c = simp length-set (omega arith)

pub bounds-pixels-o-3 : goal.bounds-pixels-o-3
bounds-pixels-o-3 c = simp length-set (omega arith)

pub bounds-pixels-o-4 : goal.bounds-pixels-o-4
bounds-pixels-o-4 c = simp length-set (omega arith)
