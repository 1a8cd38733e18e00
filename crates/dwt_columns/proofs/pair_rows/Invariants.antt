-- `dwt_columns::pair_rows` meets its contract. Assumes nothing.
use mathlib.Core.Path.{◌≡◌}
use lib.ListN.{take}
use Rattle.dwt_lines.specs.Line.{even, odd}
use Rattle.dwt_columns.specs.Inner.{zip_with3}
use Rattle.dwt_columns.proofs.pair_rows.Given as goal

abbrev pub invariant-loop-i : goal.invariant-loop-i
invariant-loop-i l = record {
  even_row : take l.i l.even ≡ take l.i (zip_with3 even l.l l.h l.k);
  odd_row : take l.i l.odd ≡ take l.i (zip_with3 odd l.x (zip_with3 even l.l l.h l.k) l.h);
}
