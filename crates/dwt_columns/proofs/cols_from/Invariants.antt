-- `dwt_columns::cols_from` meets its contract. Assumes nothing.
use mathlib.Core.List.{flatten}
use Prim.Native.Nat.{◌+◌, ◌*◌, ◌-◌}
use lib.ListN.{take, drop}
use Rattle.dwt_columns.specs.Columns.{rows}
use Rattle.dwt_columns.specs.Inner.{from_rows}
use Rattle.dwt_columns.proofs.RowByRow.{ColsLeft}
use Rattle.dwt_columns.proofs.cols_from.Given as goal

abbrev pub invariant-loop-j : goal.invariant-loop-j
invariant-loop-j l =
    ColsLeft (flatten (from_rows (take l.w l.initial.dst) (take l.w l.high) (take l.w (drop l.w l.low)) (rows l.w (l.p - 2) (drop (l.w + l.w) l.low)) (rows l.w (l.q - 1) (drop l.w l.high)))) l.low l.high l.initial.dst l.w (l.p - l.q - 1)
    (2 * ((l.j - 1) * l.w)) ((l.j - 1) * l.w) (l.j * l.w) (l.q - l.j) l.dst
