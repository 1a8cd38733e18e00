-- `color::words` meets its contract: the first i of both are stored. Assumes nothing.
use mathlib.Core.Path.{◌≡◌, ◌∙◌}
use Prim.Native.Nat.{◌+◌, ◌*◌, ◌<◌}
use native.Mathlib.Omega.{arith}
use lib.IntN.{pos}
use lib.ListN.{get_or}
use mir.Syntax.{w16}
use mir.Val.{to_z, of_z}
use borrow.Author.Rules.{rules}
use Rattle.color.specs.Inner.{red_green, blue_full}
use Rattle.color.proofs.Picture.{stored}
use Rattle.color.proofs.words.Goals as goal

pub loop-i-preserved : goal.loop-i-preserved
loop-i-preserved c =
    let l = c.loop-i in
    let a = c.args in
    let y : to_z w16 (of_z w16 (get_or a.y.now (a.at + l.i) (pos 0))) ≡ get_or a.y.now (a.at + l.i) (pos 0) = search rules in
    let b : to_z w16 (of_z w16 (get_or a.cb.now (a.at + l.i) (pos 0))) ≡ get_or a.cb.now (a.at + l.i) (pos 0) = search rules in
    let r : to_z w16 (of_z w16 (get_or a.cr.now (a.at + l.i) (pos 0))) ≡ get_or a.cr.now (a.at + l.i) (pos 0) = search rules in (
      stored (λ k. red_green a.y.now a.cb.now a.cr.now (a.at + k)) l.low l.i _ (omega arith) (c.red_green.ensures ∙ rw (y, b, r)) l.invariant.0,
      stored (λ k. blue_full a.y.now a.cb.now (a.at + k)) l.high l.i _ (omega arith) (c.blue_full.ensures ∙ rw (y, b)) l.invariant.1,
    )

pub returns : goal.returns
returns c = λ k h.
    let l = c.loop-i in
    let below : k < l.i = omega arith in
    c.joined.ensures k h ∙ (λ j. l.invariant.0.2 k below j + 65536 * l.invariant.1.2 k below j)

pub loop-i-init : goal.loop-i-init
loop-i-init c = ((omega arith, search rules, λ k h. absurd (omega arith)), (omega arith, search rules, λ k h. absurd (omega arith)))
