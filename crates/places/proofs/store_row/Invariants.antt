-- `places::store_row` meets its contract. Assumes nothing.
use mathlib.Core.Path.{◌≡◌}
use mathlib.Core.List.{map}
use Prim.Native.Nat.{◌+◌, ◌*◌}
use lib.ListN.{length, drop}
use lib.Seq.{paste}
use Rattle.places.proofs.store_row.Given as goal

abbrev pub invariant-loop-k : goal.invariant-loop-k
invariant-loop-k l = (length l.list ≡ length l.initial.list) × (l.list ≡ paste l.initial.list l.n (map (λ p. l.base + p) (drop (9 * l.m) l.rows)) l.k)
