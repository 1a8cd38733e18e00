-- `dwt_lines::row_end` meets its contract: each branch is one ending of a line. Assumes nothing.
use mathlib.Core.Path.{◌≡◌, ◌∙◌}
use native.Mathlib.Omega.{arith}
use lib.IntN.{pos}
use lib.ListN.{get_or}
use mir.Facts.{to_z-of_z}
use mir.Syntax.{w16}
use mir.Val.{to_z, of_z}
use borrow.Author.Rules.{rules}
use Rattle.dwt_lines.proofs.Lines.{end_one, end_two}
use Rattle.dwt_lines.proofs.row_end.Goals as goal

pub returns-then-low-eq1 : goal.returns-then-low-eq1
returns-then-low-eq1 c =
    let a = c.args in
    let f = c.ranges in
    let x : to_z w16 (of_z w16 a.x) ≡ a.x = to_z-of_z f.x in
    let h : to_z w16 (of_z w16 a.h) ≡ a.h = to_z-of_z f.h in
    let l : to_z w16 (of_z w16 (get_or a.low.now 0 (pos 0))) ≡ get_or a.low.now 0 (pos 0) = search rules in
    let y : to_z w16 (of_z w16 c.edge_sample-y.result) ≡ c.edge_sample-y.result = search rules in
    let o : to_z w16 (of_z w16 c.odd_sample.result) ≡ c.odd_sample.result = search rules in
    rw x (end_one a.low.now a.dst.now a.x a.h _ _ (omega arith) (omega arith) (y ∙ (rw (l, h) at c.edge_sample-y.ensures)) (o ∙ (rw (x, h) at c.odd_sample.ensures)))

pub returns : goal.returns
returns c =
    let a = c.args in
    let f = c.ranges in
    let x : to_z w16 (of_z w16 a.x) ≡ a.x = to_z-of_z f.x in
    let h : to_z w16 (of_z w16 a.h) ≡ a.h = to_z-of_z f.h in
    let l : to_z w16 (of_z w16 (get_or a.low.now 0 (pos 0))) ≡ get_or a.low.now 0 (pos 0) = search rules in
    let k : to_z w16 (of_z w16 (get_or a.low.now 1 (pos 0))) ≡ get_or a.low.now 1 (pos 0) = search rules in
    let y : to_z w16 (of_z w16 c.half_sample-y.result) ≡ c.half_sample-y.result = search rules in
    let o : to_z w16 (of_z w16 c.odd_sample-2.result) ≡ c.odd_sample-2.result = search rules in
    let m : to_z w16 (of_z w16 c.mean_sample.result) ≡ c.mean_sample.result = search rules in
    rw x (end_two a.low.now a.dst.now a.x a.h _ _ _ (omega arith) (omega arith) (y ∙ (rw (l, h) at c.half_sample-y.ensures)) (o ∙ (rw (x, h) at c.odd_sample-2.ensures)) (m ∙ (rw k at c.mean_sample.ensures)))
