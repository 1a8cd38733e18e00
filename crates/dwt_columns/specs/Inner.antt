-- For inner functions only: all columns at once, a row of the answer of rows of the scratch, place by place. proofs/Columns.antt says that it
-- is the same as `down`.
use mathlib.Core.List.{List, [], ◌∷◌, ◌++◌, zip_with}
use Rattle.std.specs.Prelude.{ℕ, ℤ, take, drop}
use Rattle.dwt_lines.specs.Line.{edge, even, odd, half, mean}

-- a list of three lists, place by place
unfoldable pub zip_with3 : (ℤ → ℤ → ℤ → ℤ) → List ℤ → List ℤ → List ℤ → List ℤ
zip_with3 f (a ∷ xs) (b ∷ ys) (c ∷ zs) = f a b c ∷ zip_with3 f xs ys zs
zip_with3 f [] ys zs = []
zip_with3 f (a ∷ xs) [] zs = []
zip_with3 f (a ∷ xs) (b ∷ ys) [] = []

-- `from` of all columns
unfoldable pub from_rows : List ℤ → List ℤ → List ℤ → List (List ℤ) → List (List ℤ) → List (List ℤ)
from_rows x h l (m ∷ ls) (k ∷ hs) = x ∷ zip_with3 odd x (zip_with3 even l h k) h ∷ from_rows (zip_with3 even l h k) k m ls hs
from_rows x h l (m ∷ ls) [] = x ∷ zip_with3 odd x (zip_with half l h) h ∷ zip_with half l h ∷ zip_with mean (zip_with half l h) m ∷ []
from_rows x h l [] hs = x ∷ zip_with3 odd x (zip_with edge l h) h ∷ zip_with edge l h ∷ []

-- `line` of all columns
unfoldable pub line_rows : List (List ℤ) → List (List ℤ) → List (List ℤ)
line_rows (l ∷ m ∷ ls) (h ∷ hs) = from_rows (zip_with edge l h) h m ls hs
line_rows (l ∷ m ∷ ls) [] = []
line_rows (l ∷ []) hs = []
line_rows [] hs = []

-- the even row x, and the odd and the even row after it
unfoldable pub pair_rows : List ℤ → List ℤ → List ℤ → List ℤ → List ℤ
pair_rows l h k x = x ++ (zip_with3 odd x (zip_with3 even l h k) h ++ zip_with3 even l h k)

-- the even row x, and the last three, where there are two low rows more than high ones
unfoldable pub end_rows : List ℤ → List ℤ → List ℤ → List ℤ → List ℤ
end_rows l h m x = x ++ (zip_with3 odd x (zip_with half l h) h ++ (zip_with half l h ++ zip_with mean (zip_with half l h) m))

-- d, with u in the place of the k places from i on
abbrev pub put_part : ℕ → ℕ → List ℤ → List ℤ → List ℤ
put_part i k d u = take i d ++ (u ++ drop k (drop i d))
