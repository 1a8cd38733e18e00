-- `fixed::scale` meets its contract. Assumes nothing.
use mathlib.Core.Path.{◌∙◌, ap}
use Prim.Native.Nat.{◌^◌}
use native.Mathlib.Omega.{arith}
use lib.IntN.{pos}
use mir.Syntax.{w32}
use Rattle.fixed.proofs.Machine.{shl_nat}
use Rattle.fixed.proofs.Scaled.{product_small, step_exact, step_none, step_large}
use borrow.Author.Rules.{rules}
use Rattle.fixed.proofs.scale.Goals as goal

pub returns-then-shift-le15 : goal.returns-then-shift-le15
returns-then-shift-le15 c = let a = c.args in
    rw c.from.ensures
    (shl_nat w32 a.magnitude (2 ^ a.shift) (omega (arith, product_small a.magnitude a.shift (search rules) (omega arith)))
    ∙ ap pos (step_exact a.magnitude a.shift (omega arith)))

pub returns-then-magnitude-eq0 : goal.returns-then-magnitude-eq0
returns-then-magnitude-eq0 c = ap pos (step_none _ _ (omega arith) c.if-magnitude-eq0.true)

pub returns : goal.returns
returns c = ap pos (step_large _ _ (omega arith) c.if-magnitude-eq0.false)
