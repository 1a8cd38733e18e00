-- For inner functions only: three components in flat arrays.
use Rattle.std.specs.Prelude.{List, ◌++◌, ℕ, ◌*◌, take, drop}

-- a list with another component k
abbrev pub with_component : {A : Type 0} → ℕ → List A → List A → List A
with_component k y l = take (k * 4096) l ++ (y ++ drop 4096 (drop (k * 4096) l))
