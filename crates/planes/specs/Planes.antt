-- Three components in flat arrays, and three rows of ten (docs/SCOPE.md, "Tile"): 0 is Y, 1 is Cb, 2 is Cr.
use Rattle.std.specs.Prelude.{List, [], ◌∷◌, ◌++◌, ℕ, ◌*◌, get_or, take, drop}

-- ════ one of three ════

-- "three components (Y, Cb, Cr) of 4,096 coefficients each": that with number k
abbrev pub component : {A : Type 0} → ℕ → List A → List A
component k l = take 4096 (drop (k * 4096) l)

-- "three rows of ten, one row a component": that of component k
abbrev pub row_of : ℕ → List ℕ → List ℕ
row_of k l = take 10 (drop (k * 10) l)

-- what each of the three has, one after another
abbrev pub joined : {A : Type 0} → (ℕ → List A) → List A
joined f = f 0 ++ (f 1 ++ f 2)

-- one thing for each
abbrev pub three : {A : Type 0} → A → A → A → List A
three y cb cr = y ∷ cb ∷ cr ∷ []

-- component k of three
abbrev pub of : {A : Type 0} → List (List A) → ℕ → List A
of l k = get_or l k []

-- ════ three slices in one array ════

-- the first 4,096 of each of three slices: "longer is fine"
abbrev pub taken : {A : Type 0} → List (List A) → List A
taken l = joined (λ k. take 4096 (of l k))
