-- `dequantizer::dequantize_value` meets its contract. It closes by itself: by hand, a quantizer that wrongly leaves the value is printed.
-- Assumes nothing.
use mathlib.Core.Path.{sym, ◌∙◌}
use native.Mathlib.Omega.{arith}
use borrow.Author.Tests.{le-ltb}
use mir.Syntax.{w16}
use mir.ValLaws.{to_z-of_z}
use Rattle.dequantizer.proofs.dequantize_value.Goals as goal

pub returns : goal.returns
returns c =
    let a = c.args in
    to_z-of_z w16 a.c c.ranges.c ∙ sym (simp (le-ltb 6 a.q (omega (arith, c.if-q-gt6.false)), le-ltb a.q 6 (omega (arith, c.if-q-lt6.false))))
