-- `places::store_row` meets its contract. Assumes nothing.
use mathlib.Core.Path.{refl, ap, ◌∙◌}
use mathlib.Core.List.{map}
use Prim.Native.Nat.{ℕ, ◌+◌, ◌*◌}
use native.Mathlib.Omega.{arith}
use lib.ListN.{drop, length-set}
use lib.Seq.{paste-zero}
use Rattle.places.proofs.Table.{row_next}
use Rattle.places.proofs.store_row.Goals as goal

pub loop-k-init : goal.loop-k-init
loop-k-init c =
    let a = c.args in (refl, paste-zero a.list.now a.n (map (λ p. a.base + p) (drop (9 * a.m) a.rows.now)))

pub loop-k-preserved : goal.loop-k-preserved
loop-k-preserved c =
    let l = c.loop-k in
    let a = c.args in
    let x = a.base + c.from.result in (
      length-set l.list (a.n + l.k) x ∙ l.invariant.0,
      row_next a.base (9 * a.m) a.n l.k x a.rows.now a.list.now l.list (omega arith) (omega arith) (ap (λ (y : ℕ). a.base + y) c.from.ensures) l.invariant.1,
    )
