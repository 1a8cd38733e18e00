-- Positions and quantizers: "each is a whole number from 0 to 15 per band; the domain ends there" (docs/SCOPE.md, "Positions and quantizers"). Refusal 2 is for the others.
use Rattle.std.specs.Prelude.{Bool, List, ℕ, leb}
use Rattle.std.specs.List.{list_all}

-- f holds of every element
abbrev pub every : {A : Type 0} → (A → Bool) → List A → Bool
every = list_all

-- a number: "from 0 to 15"
abbrev pub in_domain : ℕ → Bool
in_domain p = leb p 15

-- each number of a row
abbrev pub row_in_domain : List ℕ → Bool
row_in_domain row = every in_domain row

-- and of some rows
abbrev pub rows_in_domain : List (List ℕ) → Bool
rows_in_domain rows = every row_in_domain rows
