-- `dwt_columns::pair_rows` meets its contract. Assumes nothing.
use mathlib.Core.Path.{◌≡◌, refl, sym, ◌∙◌}
use native.Mathlib.Omega.{arith}
use lib.IntN.{pos}
use lib.ListN.{length, get_or}
use mir.Syntax.{w16}
use mir.Val.{to_z, of_z}
use borrow.Author.Rules.{rules}
use Rattle.dwt_lines.specs.Line.{even, odd}
use Rattle.dwt_columns.specs.Inner.{zip_with3, pair_rows}
use Rattle.dwt_columns.proofs.Places.{zip3_length, zip3_get}
use Rattle.dwt_columns.proofs.Fronts.{zip3_more, row_all}
use Rattle.dwt_columns.proofs.pair_rows.Goals as goal

pub loop-i-preserved : goal.loop-i-preserved
loop-i-preserved c =
    let a = c.args in
    let at = c.loop-i in
    let L = a.l.now in
    let H = a.h.now in
    let K = a.k.now in
    let E = zip_with3 even L H K in
    let X = c.split_at_mut-x.result.0.now in
    let nE : length E ≡ length L = zip3_length even L H K refl (omega arith) (omega arith) in
    let l : to_z w16 (of_z w16 (get_or L at.i (pos 0))) ≡ get_or L at.i (pos 0) = search rules in
    let h : to_z w16 (of_z w16 (get_or H at.i (pos 0))) ≡ get_or H at.i (pos 0) = search rules in
    let k : to_z w16 (of_z w16 (get_or K at.i (pos 0))) ≡ get_or K at.i (pos 0) = search rules in
    let x : to_z w16 (of_z w16 (get_or X at.i (pos 0))) ≡ get_or X at.i (pos 0) = search rules in
    let y : to_z w16 (of_z w16 c.even_sample-y.result) ≡ c.even_sample-y.result = search rules in
    let o : to_z w16 (of_z w16 c.odd_sample.result) ≡ c.odd_sample.result = search rules in
    let e = y ∙ (rw (l, h, k) at c.even_sample-y.ensures) in
    let gE = e ∙ sym (zip3_get even L H K at.i (pos 0) (omega arith) (omega arith) (omega arith)) in
    record {
      even_row = zip3_more even L H K at.even at.i _ (omega arith) (omega arith) (omega arith) (omega arith) at.invariant.even_row e;
      odd_row = zip3_more odd X E H at.odd at.i _ (omega arith) (omega arith) (omega arith) (omega arith) at.invariant.odd_row (o ∙ (rw (x, h, gE) at c.odd_sample.ensures));
    }

pub returns : goal.returns
unfolding pair_rows
returns c =
    let a = c.args in
    let at = c.loop-i in
    let L = a.l.now in
    let H = a.h.now in
    let E = zip_with3 even L H a.k.now in
    let X = c.split_at_mut-x.result.0.now in
    let nE : length E ≡ length L = zip3_length even L H a.k.now refl (omega arith) (omega arith) in
    let nX : length X ≡ length L = omega arith in
    let nO = zip3_length odd X E H nX nE (omega arith) in
    let even_row = row_all E at.even at.i (omega arith) (omega arith) at.invariant.even_row in
    let odd_row = row_all (zip_with3 odd X E H) at.odd at.i (omega arith) (omega arith) at.invariant.odd_row in
    rw (odd_row, even_row, c.split_at_mut-x.ensures.front)
