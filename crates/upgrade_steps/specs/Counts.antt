-- How many SRL values a pass over one component can have, as a statement (docs/SCOPE.md, "Upgrade pass").
use Rattle.std.specs.Prelude.{◌≡◌, Bool, true, false, List, ℕ, ◌≤◌, ℤ, pos, length, replicate}
use Rattle.upgrade_steps.specs.Steps.{steps, srl_widths}

-- "at most 4,032 SRL values, 4,015 in the reduce-extrapolate layout"
abbrev pub most_srl_values : Bool → ℕ
most_srl_values true = 4015
most_srl_values false = 4032

-- there are no more of them, and there can be as many
pub record FewSrlValues : Type 0 where
  -- in both layouts, for every two rows, in the domain or not, and for every list of signs
  pub most : (e : Bool) (prev curr : List ℕ) (ss : List ℤ) → length (srl_widths (steps e prev curr) ss) ≤ most_srl_values e
  -- as many from positions 1 to positions 0, where all signs are zero
  pub reached : (e : Bool) → length (srl_widths (steps e (replicate 10 1) (replicate 10 0)) (replicate 4096 (pos 0))) ≡ most_srl_values e
