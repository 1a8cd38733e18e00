-- `places::put_ones` meets its contract. Assumes nothing.
use mathlib.Core.Path.{◌≡◌, ap, ◌∙◌}
use mathlib.Core.List.{List, map}
use Prim.Native.Nat.{ℕ, ◌+◌, ◌*◌}
use native.Mathlib.Omega.{arith}
use lib.ListN.{length, get_or, drop}
use lib.Seq.{paste}
use Rattle.places.specs.Inner.{ones_of}
use Rattle.places.proofs.Table.{rows_length_lem, row_count, row_stored}
use Rattle.places.proofs.put_ones.Goals as goal

pub store_row-requires : goal.store_row-requires
store_row-requires c =
    let l : length c.args.rows.now ≡ 2304 = ap length c.requires.0 ∙ rows_length_lem in
    (c.requires.1, c.requires.2, c.requires.3, omega (arith, l))

pub returns : goal.returns
returns c =
    let counted : c.from.result ≡ length (ones_of 8 c.args.m) = let last : c.from.result ≡ get_or c.args.rows.now (9 * c.args.m + 8) 0 = c.from.ensures in
    last ∙ ap (λ (l : List ℕ). get_or l (9 * c.args.m + 8) 0) c.requires.0 ∙ row_count c.args.m c.requires.1 in
    let a = c.args in
    record {
      count = ap (λ (j : ℕ). a.n + j) counted;
      list = c.store_row.ensures ∙ ap (λ (l : List ℕ). paste a.list.now a.n (map (λ p. a.base + p) (drop (9 * a.m) l)) 8) c.requires.0 ∙ row_stored a.base a.m a.n a.list.now c.requires.1;
    }
