-- `dwt_extrapolate::rows_of` meets its contract. Assumes nothing.
use Rattle.dwt_columns.proofs.Put.{to_end}
use Rattle.dwt_extrapolate.proofs.rows_of.Goals as goal

pub returns : goal.returns
returns c =
    let a = c.args in
    rw (to_end a.src.now a.l, to_end a.src.now a.h) at c.idwt_rows.ensures
