-- `zero_signs::few_zeros` meets its contract. Assumes nothing.
use mathlib.Core.Path.{◌≡◌, sym, ap, ◌∙◌}
use mathlib.Core.Bool.{true, false}
use native.Mathlib.Omega.{arith}
use lib.IntN.{pos}
use lib.ListN.{get_or, drop, drop_of_length-le}
use mir.Syntax.{w8}
use mir.ValLaws.{to_z-of_z}
use Rattle.fixed.specs.Fixed.{is_zero}
use Rattle.zero_signs.specs.ZeroSigns.{zeros_in}
use Rattle.zero_signs.proofs.Counted.{zeros_next}
use Rattle.zero_signs.proofs.few_zeros.Goals as goal
use Rattle.zero_signs.proofs.few_zeros.Goals.{then-is_zero_sign, else-is_zero_sign}

pub loop-sign-preserved : goal.loop-sign-preserved
loop-sign-preserved c =
    let l = c.args.signs.now in
    let i = c.loop-sign.sign-index in
    let is = sym (c.is_zero_sign.ensures ∙ ap is_zero (to_z-of_z w8 (get_or l i (pos 0)) (record { sfits = c.is_zero_sign-arg-1.given }))) in
    elim c.if-is_zero_sign.branch [
      | then-is_zero_sign w ↦ (omega arith, omega (arith, c.loop-sign.invariant.1, zeros_next l i true (is ∙ w.if-is_zero_sign.true) c.loop-sign-test.true))
      | else-is_zero_sign w ↦ (omega arith, omega (arith, c.loop-sign.invariant.1, zeros_next l i false (is ∙ w.if-is_zero_sign.false) c.loop-sign-test.true))
    ]

pub returns : goal.returns
unfolding zeros_in
returns c =
    let none : zeros_in (drop c.loop-sign.sign-index c.args.signs.now) ≡ 0 = ap zeros_in (drop_of_length-le c.args.signs.now {i = c.loop-sign.sign-index} (omega arith)) in
    (omega (arith, c.loop-sign.invariant.1, none), omega arith)
