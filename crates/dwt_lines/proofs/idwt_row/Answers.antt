-- `dwt_lines::idwt_row` meets its contract. Assumes nothing.
use mathlib.Core.Path.{◌≡◌, ◌∙◌}
use Prim.Native.Nat.{◌+◌, ◌*◌, ◌-◌}
use native.Mathlib.Omega.{arith}
use lib.IntN.{pos}
use lib.ListN.{length, get_or}
use mir.Syntax.{w16}
use mir.Val.{to_z, of_z}
use borrow.Author.Rules.{rules}
use Rattle.dwt_lines.proofs.Lines.{line_start, line_turn, line_done}
use Rattle.dwt_lines.proofs.idwt_row.Goals as goal

pub loop-j-init : goal.loop-j-init
loop-j-init c =
    let a = c.args in
    let h : to_z w16 (of_z w16 (get_or a.high.now 0 (pos 0))) ≡ get_or a.high.now 0 (pos 0) = search rules in
    let l : to_z w16 (of_z w16 (get_or a.low.now 0 (pos 0))) ≡ get_or a.low.now 0 (pos 0) = search rules in
    let x : to_z w16 (of_z w16 c.edge_sample-x.result) ≡ c.edge_sample-x.result = search rules in
    line_start a.low.now a.high.now _ _ (omega arith) (omega arith) h (x ∙ (rw l at c.edge_sample-x.ensures))

pub loop-j-preserved : goal.loop-j-preserved
loop-j-preserved c =
    let a = c.args in
    let at = c.loop-j in
    let i = 2 * (at.j - 1) in
    let even = c.even_sample-y in
    let k : to_z w16 (of_z w16 (get_or a.high.now at.j (pos 0))) ≡ get_or a.high.now at.j (pos 0) = search rules in
    let l : to_z w16 (of_z w16 (get_or a.low.now at.j (pos 0))) ≡ get_or a.low.now at.j (pos 0) = search rules in
    let y : to_z w16 (of_z w16 even.result) ≡ even.result = search rules in
    let o : to_z w16 (of_z w16 c.odd_sample.result) ≡ c.odd_sample.result = search rules in
    let next : 2 * (at.j + 1 - 1) ≡ i + 2 = omega arith in
    rw next (line_turn _ a.low.now a.high.now at.dst (to_z w16 at.x-bits) (to_z w16 at.h-bits) _ _ _ i at.j (omega arith) (omega arith) (omega arith)
    k (y ∙ (rw l at even.ensures)) (o ∙ c.odd_sample.ensures) at.invariant)

pub returns : goal.returns
returns c =
    let a = c.args in
    let at = c.loop-j in
    let end : at.j ≡ length a.high.now = omega arith in
    let i = 2 * (length a.high.now - 1) in
    line_done _ a.low.now a.high.now at.dst c.row_end.new.dst (to_z w16 at.x-bits) (to_z w16 at.h-bits) i (length a.high.now) (length at.dst - i) (length a.low.now - length a.high.now) (omega arith) (omega arith) (omega arith)
    (rw end at at.invariant) c.row_end.ensures
