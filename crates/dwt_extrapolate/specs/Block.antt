-- One block of the inverse wavelet: "rows first (LL with HL, then LH with HH), then columns" (docs/SCOPE.md, "Inverse wavelet").
-- A block of p low and q high samples has p + q rows and columns. Its coefficients are HL, LH, HH and LL one after another, each row by row.
use mathlib.Core.List.{List, ◌++◌, zip_with, flatten}
use Rattle.std.specs.Prelude.{ℕ, ◌+◌, ◌*◌, ℤ, take, drop}
use Rattle.dwt_lines.specs.Line.{line}
use Rattle.dwt_columns.specs.Columns.{rows, down}

-- ════ rows ════

-- n lines: their low halves are the rows from the start of b, their high halves those of d
unfoldable pub lines : ℕ → ℕ → ℕ → List ℤ → List ℤ → List (List ℤ)
lines p q n b d = zip_with line (rows p n b) (rows q n d)

-- "LL with HL": the p rows of low samples
unfoldable pub lows : ℕ → ℕ → List ℤ → List (List ℤ)
lows p q b = lines p q p (drop (q * p + p * q + q * q) b) b

-- "then LH with HH": the q rows of high samples
unfoldable pub highs : ℕ → ℕ → List ℤ → List (List ℤ)
highs p q b = lines p q q (drop (q * p) b) (drop (q * p + p * q) b)

-- ════ the block ════

-- what it leaves in the scratch t: "the scratch ends as the last block's rows"
unfoldable pub scratch : ℕ → ℕ → List ℤ → List ℤ → List ℤ
scratch p q b t = flatten (lows p q b) ++ (flatten (highs p q b) ++ drop ((p + q) * (p + q)) t)

-- and in the buffer b, which it begins
unfoldable pub block : ℕ → ℕ → List ℤ → List ℤ
block p q b = flatten (down (p + q) (lows p q b) (highs p q b)) ++ drop ((p + q) * (p + q)) b

-- a block that begins at place i
unfoldable pub block_at : ℕ → ℕ → ℕ → List ℤ → List ℤ
block_at i p q b = take i b ++ block p q (drop i b)
