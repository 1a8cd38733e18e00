-- `dwt_columns::idwt_cols` meets its contract. Assumes nothing.
use mathlib.Core.Path.{refl}
use Prim.Native.Nat.{◌+◌}
use native.Mathlib.Omega.{arith}
use lib.ListN.{drop, length-drop}
use Rattle.dwt_columns.proofs.Products.{scale}
use Rattle.dwt_columns.proofs.Columns.{rows_down}
use Rattle.dwt_columns.proofs.Put.{to_end}
use Rattle.dwt_columns.proofs.idwt_cols.Goals as goal

pub returns : goal.returns
returns c =
    let a = c.args in
    let low = a.src.now in
    let high = drop a.half low in
    let both = scale (a.p + a.q) a.p a.q a.w refl in
    let same = rows_down a.w a.p a.q low high c.requires.halves c.requires.w_value.0 (omega (arith, both, c.requires.w_in_bounds.0)) (simp length-drop (omega (arith, both, c.requires.w_value.1, c.requires.w_in_bounds.0))) in
    rw (to_end low a.half, same) at c.line_rows.ensures
