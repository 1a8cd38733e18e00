-- Rows, columns, and the inverse wavelet of all columns of a block (docs/SCOPE.md, "Inverse wavelet").
use mathlib.Core.List.{List, [], ◌∷◌, map, zip_with}
use Rattle.std.specs.Prelude.{ℕ, zero, suc, ℤ, pos, get_or, take, drop}
use Rattle.dwt_lines.specs.Line.{line}

-- the first n rows of w places
unfoldable pub rows : ℕ → ℕ → List ℤ → List (List ℤ)
rows w zero b = []
rows w (suc n) b = take w b ∷ rows w n (drop w b)

-- the first w columns of rows; of columns, the first w rows
unfoldable pub columns : ℕ → List (List ℤ) → List (List ℤ)
columns zero rs = []
columns (suc w) rs = map (λ (r : List ℤ). get_or r 0 (pos 0)) rs ∷ columns w (map (drop 1) rs)

-- "then columns": each of the n columns is the line of a column of the low rows with that of the high ones; they are laid side by side again
unfoldable pub down : ℕ → List (List ℤ) → List (List ℤ) → List (List ℤ)
down n ls hs = columns n (zip_with line (columns n ls) (columns n hs))
