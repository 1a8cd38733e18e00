-- The inverse wavelet of one line: its samples, of its low and its high half (docs/SCOPE.md, "Inverse wavelet").
-- L and H are the places of the two halves, counted from 0.
use Rattle.std.specs.Prelude.{List, [], ◌∷◌, ℕ, ◌+◌, ◌≤◌, ℤ, pos, ◌+ℤ◌, ◌-ℤ◌, ◌*ℤ◌}
use Rattle.fixed.specs.Fixed.{wrap_i16, half_toward_zero}

-- ════ one sample: "halving goes towards zero. Each sample keeps its low sixteen bits, read as signed" ════

-- "the first even place is L0 - H0", and "the last even place is L - H in 9/8 and 17/16"
unfoldable pub edge : ℤ → ℤ → ℤ
edge l h = wrap_i16 (l -ℤ h)

-- "the next ones are L(j+1) - (Hj + H(j+1)) / 2": h is Hj, k is H(j+1)
unfoldable pub even : ℤ → ℤ → ℤ → ℤ
even l h k = wrap_i16 (l -ℤ half_toward_zero (h +ℤ k))

-- "an odd place is half the sum of both even neighbours plus 2Hj"
unfoldable pub odd : ℤ → ℤ → ℤ → ℤ
odd x y h = wrap_i16 (half_toward_zero (x +ℤ y) +ℤ pos 2 *ℤ h)

-- "in 33/31 it is L31 - H30 / 2"
unfoldable pub half : ℤ → ℤ → ℤ
half l h = wrap_i16 (l -ℤ half_toward_zero h)

-- "sample 63 is half the sum of that and L32"
unfoldable pub mean : ℤ → ℤ → ℤ
mean x l = wrap_i16 (half_toward_zero (x +ℤ l))

-- ════ a line ════

-- so many low places and so many high ones make a line: one or two low places more than high ones, as in 9/8, 17/16 and 33/31
pub record Halves (low high : ℕ) : Type 0 where
  pub some : 1 ≤ high
  pub least : high + 1 ≤ low
  pub most : low ≤ high + 2

-- from the even place x on: h is the high place beside it and l the low place after it; the low and the high places after those are given.
-- The two endings, where no high place is left, are those of two low places more than high ones (33/31) and of one more (9/8, 17/16)
unfoldable pub from : ℤ → ℤ → ℤ → List ℤ → List ℤ → List ℤ
from x h l (m ∷ ls) (k ∷ hs) = x ∷ odd x (even l h k) h ∷ from (even l h k) k m ls hs
from x h l (m ∷ ls) [] = x ∷ odd x (half l h) h ∷ half l h ∷ mean (half l h) m ∷ []
from x h l [] hs = x ∷ odd x (edge l h) h ∷ edge l h ∷ []

-- the whole line, of its low and its high half; of halves too short for one it is empty
unfoldable pub line : List ℤ → List ℤ → List ℤ
line (l ∷ m ∷ ls) (h ∷ hs) = from (edge l h) h m ls hs
line (l ∷ m ∷ ls) [] = []
line (l ∷ []) hs = []
line [] hs = []
