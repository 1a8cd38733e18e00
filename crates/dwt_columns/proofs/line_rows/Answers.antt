-- `dwt_columns::line_rows` meets its contract. Assumes nothing.
use mathlib.Core.Path.{◌∙◌}
use Prim.Native.Nat.{◌+◌, ◌-◌}
use native.Mathlib.Omega.{arith}
use borrow.Rule.Slice.PartMut.{mid_len}
use Rattle.dwt_columns.proofs.Products.{scale}
use Rattle.dwt_columns.proofs.RowByRow.{cols_whole}
use Rattle.dwt_columns.proofs.line_rows.Goals as goal

pub returns : goal.returns
returns c =
    let a = c.args in
    let edge = c.edge_row in
    cols_whole a.low.now a.high.now a.dst.now edge.new.d c.cols_from.new.dst a.w a.p a.q (a.w - 0) (a.w - 0) (a.w - 0)
    c.requires.halves (omega arith) (omega arith) (omega arith) (omega arith) (edge.auto.d ∙ mid_len 0 a.w a.dst.now (omega (arith, scale (a.p + a.q) (a.p + a.q - 1) 1 a.w (omega arith)))) edge.ensures c.cols_from.ensures
