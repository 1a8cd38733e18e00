-- `dwt_columns::edge_row` meets its contract. Assumes nothing.
use mathlib.Core.Path.{◌≡◌, refl, ◌∙◌}
use native.Mathlib.Omega.{arith}
use lib.IntN.{pos}
use lib.ListN.{get_or}
use mir.Syntax.{w16}
use mir.Val.{to_z, of_z}
use borrow.Author.Rules.{rules}
use Rattle.dwt_lines.specs.Line.{edge}
use Rattle.dwt_columns.proofs.Places.{zip_length}
use Rattle.dwt_columns.proofs.Fronts.{zip_more, row_all}
use Rattle.dwt_columns.proofs.edge_row.Goals as goal

pub loop-i-preserved : goal.loop-i-preserved
loop-i-preserved c =
    let a = c.args in
    let at = c.loop-i in
    let l : to_z w16 (of_z w16 (get_or a.l.now at.i (pos 0))) ≡ get_or a.l.now at.i (pos 0) = search rules in
    let h : to_z w16 (of_z w16 (get_or a.h.now at.i (pos 0))) ≡ get_or a.h.now at.i (pos 0) = search rules in
    let y : to_z w16 (of_z w16 c.edge_sample.result) ≡ c.edge_sample.result = search rules in
    zip_more edge a.l.now a.h.now at.d at.i _ (omega arith) (omega arith) (omega arith) at.invariant (y ∙ (rw (l, h) at c.edge_sample.ensures))

pub returns : goal.returns
returns c =
    let a = c.args in
    let at = c.loop-i in
    let n = zip_length edge a.l.now a.h.now refl (omega arith) in
    row_all _ _ at.i (omega arith) (omega arith) at.invariant
