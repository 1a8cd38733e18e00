-- `dwt_columns::last_rows` meets its contract. Assumes nothing.
use mathlib.Core.Path.{◌≡◌, refl, sym, ◌∙◌}
use mathlib.Core.List.{zip_with}
use native.Mathlib.Omega.{arith}
use lib.IntN.{pos}
use lib.ListN.{length, get_or}
use mir.Syntax.{w16}
use mir.Val.{to_z, of_z}
use borrow.Author.Rules.{rules}
use Rattle.dwt_lines.specs.Line.{odd, half, mean}
use Rattle.dwt_columns.specs.Inner.{zip_with3, end_rows}
use Rattle.dwt_columns.proofs.Places.{zip_length, zip_get, zip3_length}
use Rattle.dwt_columns.proofs.Fronts.{zip_more, zip3_more, row_all}
use Rattle.dwt_columns.proofs.last_rows.Goals as goal

pub loop-i-preserved : goal.loop-i-preserved
loop-i-preserved c =
    let a = c.args in
    let at = c.loop-i in
    let L = a.l.now in
    let H = a.h.now in
    let M = a.m.now in
    let E = zip_with half L H in
    let X = c.split_at_mut-x.result.0.now in
    let nE : length E ≡ length L = zip_length half L H refl (omega arith) in
    let l : to_z w16 (of_z w16 (get_or L at.i (pos 0))) ≡ get_or L at.i (pos 0) = search rules in
    let h : to_z w16 (of_z w16 (get_or H at.i (pos 0))) ≡ get_or H at.i (pos 0) = search rules in
    let m : to_z w16 (of_z w16 (get_or M at.i (pos 0))) ≡ get_or M at.i (pos 0) = search rules in
    let x : to_z w16 (of_z w16 (get_or X at.i (pos 0))) ≡ get_or X at.i (pos 0) = search rules in
    let y : to_z w16 (of_z w16 c.half_sample-y.result) ≡ c.half_sample-y.result = search rules in
    let o : to_z w16 (of_z w16 c.odd_sample.result) ≡ c.odd_sample.result = search rules in
    let z : to_z w16 (of_z w16 c.mean_sample.result) ≡ c.mean_sample.result = search rules in
    let e = y ∙ (rw (l, h) at c.half_sample-y.ensures) in
    let gE = e ∙ sym (zip_get half L H at.i (pos 0) (omega arith) (omega arith)) in
    record {
      even_row = zip_more half L H at.even at.i _ (omega arith) (omega arith) (omega arith) at.invariant.even_row e;
      odd_row = zip3_more odd X E H at.odd at.i _ (omega arith) (omega arith) (omega arith) (omega arith) at.invariant.odd_row (o ∙ (rw (x, h, gE) at c.odd_sample.ensures));
      last_row = zip_more mean E M at.last at.i _ (omega arith) (omega arith) (omega arith) at.invariant.last_row (z ∙ (rw (m, gE) at c.mean_sample.ensures));
    }

pub returns : goal.returns
unfolding end_rows
returns c =
    let a = c.args in
    let at = c.loop-i in
    let L = a.l.now in
    let H = a.h.now in
    let M = a.m.now in
    let E = zip_with half L H in
    let X = c.split_at_mut-x.result.0.now in
    let nE : length E ≡ length L = zip_length half L H refl (omega arith) in
    let nX : length X ≡ length L = omega arith in
    let nO = zip3_length odd X E H nX nE (omega arith) in
    let nM = zip_length mean E M nE (omega arith) in
    let even_row = row_all E at.even at.i (omega arith) (omega arith) at.invariant.even_row in
    let odd_row = row_all (zip_with3 odd X E H) at.odd at.i (omega arith) (omega arith) at.invariant.odd_row in
    let last_row = row_all (zip_with mean E M) at.last at.i (omega arith) (omega arith) at.invariant.last_row in
    rw (odd_row, even_row, last_row, c.split_at_mut-x.ensures.front)
