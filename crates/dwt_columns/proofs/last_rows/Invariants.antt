-- `dwt_columns::last_rows` meets its contract. Assumes nothing.
use mathlib.Core.Path.{◌≡◌}
use mathlib.Core.List.{zip_with}
use lib.ListN.{take}
use Rattle.dwt_lines.specs.Line.{odd, half, mean}
use Rattle.dwt_columns.specs.Inner.{zip_with3}
use Rattle.dwt_columns.proofs.last_rows.Given as goal

abbrev pub invariant-loop-i : goal.invariant-loop-i
invariant-loop-i l = record {
  even_row : take l.i l.even ≡ take l.i (zip_with half l.l l.h);
  odd_row : take l.i l.odd ≡ take l.i (zip_with3 odd l.x (zip_with half l.l l.h) l.h);
  last_row : take l.i l.last ≡ take l.i (zip_with mean (zip_with half l.l l.h) l.m);
}
