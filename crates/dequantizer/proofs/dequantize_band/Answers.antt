-- `dequantizer::dequantize_band` meets its contract: after i turns the first i are dequantized. Assumes nothing.
use mathlib.Core.Path.{◌≡◌, refl, sym, ap, ◌∙◌}
use native.Mathlib.Omega.{arith}
use lib.IntN.{pos}
use lib.ListN.{get_or, set}
use mir.Syntax.{w16}
use mir.Val.{to_z, of_z}
use borrow.Author.Rules.{rules}
use Rattle.dequantizer.specs.Dequantize.{dequantized, dequantized_all}
use Rattle.dequantizer.proofs.Dequantized.{all_turn}
use Rattle.dequantizer.proofs.dequantize_band.Goals as goal

pub loop-c-init : goal.loop-c-init
unfolding dequantized_all
loop-c-init c = refl

pub loop-c-preserved : goal.loop-c-preserved
loop-c-preserved c =
    let a = c.args in
    let l = c.loop-c in
    let v = c.dequantize_value in
    let r : to_z w16 (of_z w16 v.result) ≡ v.result = search rules in
    let x : to_z w16 (of_z w16 (get_or l.coefficients l.c-index (pos 0))) ≡ get_or l.coefficients l.c-index (pos 0) = search rules in
    let e = r ∙ v.ensures ∙ ap (dequantized a.q) x in
    all_turn a.q l.c-index a.coefficients.now l.coefficients (omega arith) l.invariant ∙ sym (ap (set l.coefficients l.c-index) e)
