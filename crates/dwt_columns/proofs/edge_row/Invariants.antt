-- `dwt_columns::edge_row` meets its contract. Assumes nothing.
use mathlib.Core.Path.{◌≡◌}
use mathlib.Core.List.{zip_with}
use lib.ListN.{take}
use Rattle.dwt_lines.specs.Line.{edge}
use Rattle.dwt_columns.proofs.edge_row.Given as goal

abbrev pub invariant-loop-i : goal.invariant-loop-i
invariant-loop-i l = take l.i l.d ≡ take l.i (zip_with edge l.l l.h)
