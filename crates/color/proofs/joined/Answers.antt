-- `color::joined` meets its contract: the first i are stored. Assumes nothing.
use Prim.Native.Nat.{◌+◌, ◌*◌}
use native.Mathlib.Omega.{arith}
use lib.ListN.{get_or}
use borrow.Author.Rules.{rules}
use Rattle.color.proofs.Picture.{stored}
use Rattle.color.proofs.joined.Goals as goal

pub loop-i-preserved : goal.loop-i-preserved
loop-i-preserved c =
    let a = c.args in
    let l = c.loop-i in
    stored (λ k. get_or a.low k 0 + 65536 * get_or a.high k 0) l.out l.i _ (omega arith) c.four.ensures l.invariant

pub returns : goal.returns
returns c = λ k h. c.loop-i.invariant.2 k (omega arith)

pub loop-i-init : goal.loop-i-init
loop-i-init c = (omega arith, search rules, λ k h. absurd (omega arith))
