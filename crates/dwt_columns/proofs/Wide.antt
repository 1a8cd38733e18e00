-- Rows of w places each: how many places they take, and that the rows of a list are such. Assumes nothing.
use mathlib.Core.Path.{◌≡◌, refl, ap}
use mathlib.Core.List.{List, [], ◌∷◌, flatten}
use Prim.Native.Nat.{ℕ, zero, suc, ◌*◌, ◌≤◌, ◌+◌}
use native.Mathlib.Nat.{suc-mul}
use native.Mathlib.Omega.{arith}
use lib.IntN.{ℤ}
use lib.ListN.{length, drop, length-append, length-drop}
use lib.Seq.{length-take-le}
use Rattle.dwt_columns.specs.Columns.{rows}

-- each has w
abbrev pub Wide : ℕ → List (List ℤ) → Type 0
Wide w [] = Unit
Wide w (r ∷ rs) = (length r ≡ w) × Wide w rs

-- so many places they take, laid out one after another
pub flat_length : (w : ℕ) (rs : List (List ℤ)) → Wide w rs → length (flatten rs) ≡ length rs * w
unfolding flatten
flat_length w [] v = omega arith
flat_length w (r ∷ rs) v = rw (length-append, v.0, flat_length w rs v.1, suc-mul) (omega arith)

-- n rows of a list that is long enough
pub rows_wide : (w n : ℕ) (b : List ℤ) → n * w ≤ length b → (length (rows w n b) ≡ n) × Wide w (rows w n b)
unfolding rows
rows_wide w zero b h = (refl, tt)
rows_wide w (suc n) b h =
    let s : suc n * w ≡ n * w + w = suc-mul n w in
    let r = rows_wide w n (drop w b) (simp length-drop (omega arith)) in
    (ap suc r.0, (length-take-le w b (omega arith), r.1))
