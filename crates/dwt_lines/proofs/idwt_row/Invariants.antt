-- `dwt_lines::idwt_row` meets its contract. Assumes nothing.
use mathlib.Core.Path.{◌≡◌}
use mathlib.Core.List.{◌++◌}
use Prim.Native.Nat.{◌+◌, ◌*◌, ◌-◌}
use lib.IntN.{pos}
use lib.ListN.{get_or, take, drop}
use Rattle.dwt_lines.specs.Line.{from, line}
use Rattle.dwt_lines.proofs.idwt_row.Given as goal

abbrev pub invariant-loop-j : goal.invariant-loop-j
invariant-loop-j l = line l.low l.high ≡ take (2 * (l.j - 1)) l.dst ++ from l.x l.h (get_or l.low l.j (pos 0)) (drop (l.j + 1) l.low) (drop l.j l.high)
