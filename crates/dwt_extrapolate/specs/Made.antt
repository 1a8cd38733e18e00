-- Which lines the inverse wavelet makes, as a statement: each has one or two low samples more than high ones (docs/SCOPE.md, "Inverse wavelet").
use Rattle.std.specs.Prelude.{List, [], ◌∷◌, ℕ, ◌+◌, ◌*◌, ◌≤◌, ℤ, length, drop}
use Rattle.dwt_lines.specs.Line.{Halves}
use Rattle.dwt_columns.specs.Columns.{rows, columns}
use Rattle.dwt_extrapolate.specs.Block.{lows, highs, block_at}
use Rattle.dwt_extrapolate.specs.Transform.{inner}

-- each low half has one or two samples more than the high half that `zip_with line` joins it to
abbrev pub EachLine : List (List ℤ) → List (List ℤ) → Type 0
EachLine (l ∷ ls) (h ∷ hs) = Halves (length l) (length h) × EachLine ls hs
EachLine (l ∷ ls) [] = Unit
EachLine [] hs = Unit

-- so in all lines of a block of p low and q high samples, which b begins with: the lists are those that `lows`, `highs` and `down` join
pub record BlockLines (p q : ℕ) (b : List ℤ) : Type 0 where
  -- "LL with HL": a row of LL is the low half of a line, a row of HL the high one
  pub low_rows : EachLine (rows p p (drop (q * p + p * q + q * q) b)) (rows q p b)
  -- "then LH with HH": a row of LH is the low half, a row of HH the high one
  pub high_rows : EachLine (rows p q (drop (q * p) b)) (rows q q (drop (q * p + p * q) b))
  -- "then columns": a column of the rows of low samples is the low half, one of the rows of high samples the high one
  pub all_columns : EachLine (columns (p + q) (lows p q b)) (columns (p + q) (highs p q b))

-- so in all lines that `inverse` makes of a component b, block by block
pub record LineHalves : Type 0 where
  -- 9/8, at offset 3807
  pub first : (b : List ℤ) → 4096 ≤ length b → BlockLines 9 8 (drop 3807 b)
  -- 17/16, at offset 3007 of what the first block leaves
  pub second : (b : List ℤ) → 4096 ≤ length b → BlockLines 17 16 (drop 3007 (block_at 3807 9 8 b))
  -- 33/31, at offset 0 of what both leave
  pub third : (b : List ℤ) → 4096 ≤ length b → BlockLines 33 31 (inner b)
