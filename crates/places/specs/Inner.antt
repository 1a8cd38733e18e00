-- For inner functions only: lists of places. The places of elements that have a property, and the same from a byte whose ones say which have it.
use Rattle.std.specs.Prelude.{◌≡◌, Bool, cond, List, [], ◌∷◌, ◌++◌, map, ℕ, zero, suc, ◌+◌, ◌*◌, ◌/◌, ◌%◌, eqb, length, get_or, take}
use Rattle.std.proofs.Math.Seq.{paste}

-- the places of some elements that have a property, in order
unfoldable pub places_of : {A : Type 0} → (A → Bool) → List A → List ℕ
places_of f [] = []
places_of f (x ∷ xs) = cond (f x) (0 ∷ map suc (places_of f xs)) (map suc (places_of f xs))

-- which of the k elements from place i on have it, as the bits of a number, that of the first the lowest; d stands for an element that is not there
unfoldable pub mask_of : {A : Type 0} → (A → Bool) → A → List A → ℕ → ℕ → ℕ
mask_of f d xs i zero = 0
mask_of f d xs i (suc k) = cond (f (get_or xs i d)) 1 0 + 2 * mask_of f d xs (suc i) k

-- the places of the ones among the low k bits of m, the lowest first
unfoldable pub ones_of : ℕ → ℕ → List ℕ
ones_of zero m = []
ones_of (suc k) m = cond (eqb (m % 2) 1) (0 ∷ map suc (ones_of k (m / 2))) (map suc (ones_of k (m / 2)))

-- ════ the table ════

-- what stands behind the places of the ones; any eight numbers would do
abbrev pub eight_places : List ℕ
eight_places = 0 ∷ 1 ∷ 2 ∷ 3 ∷ 4 ∷ 5 ∷ 6 ∷ 7 ∷ []

-- of a byte, with these behind them: eight numbers, and then how many ones there are
abbrev pub ones_row : ℕ → List ℕ
ones_row m = take 8 (ones_of 8 m ++ eight_places) ++ (length (ones_of 8 m) ∷ [])

-- the rows of c bytes from m on, one after another
unfoldable pub rows_from : ℕ → ℕ → List ℕ
rows_from zero m = []
rows_from (suc c) m = ones_row m ++ rows_from c (suc m)

-- of all bytes
abbrev pub place_rows : List ℕ
place_rows = rows_from 256 0

-- ════ a row in a list ════

-- eight numbers of a byte's row, counted from base on, stand in a list behind the n that were in, and the rest stays; of these the ones count, r are in then
pub record Listed (m base n r : ℕ) (before after : List ℕ) : Type 0 where
  pub count : r ≡ n + length (ones_of 8 m)
  pub list : after ≡ paste before n (map (λ p. base + p) (ones_row m)) 8
