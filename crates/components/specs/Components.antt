-- A pass over three components in flat arrays (docs/SCOPE.md, "Tile").
use Rattle.std.specs.Prelude.{Bool, List, ℕ, ◌+◌, ℤ}
use Rattle.upgrade_steps.specs.Steps.{Step, steps}
use Rattle.progressive_decoder.specs.Upgrade.{upgraded_coefficients, upgraded_signs, missing_bits, srl_missing, raw_missing}
use Rattle.progressive_decoder.specs.declared.MissingBits.{MissingBits}
use Rattle.planes.specs.Planes.{component, row_of, joined, of}

-- the steps of component k, from its row of the tile's positions to the row given for it
abbrev pub steps_of : Bool → List ℕ → List (List ℕ) → ℕ → List Step
steps_of e positions rows k = steps e (row_of k positions) (of rows k)

-- "does three components": their coefficients after a pass
unfoldable pub pass_coefficients : Bool → List ℕ → List (List ℕ) → List (List ℕ) → List (List ℕ) → List ℤ → List ℤ → List ℤ
pass_coefficients e positions rows srl_data raw_data cs ss =
    joined (λ k. upgraded_coefficients (steps_of e positions rows k) (of srl_data k) (of raw_data k) (component k cs) (component k ss))

-- and their signs
unfoldable pub pass_signs : Bool → List ℕ → List (List ℕ) → List (List ℕ) → List ℤ → List ℤ
pass_signs e positions rows srl_data ss =
    joined (λ k. upgraded_signs (steps_of e positions rows k) (of srl_data k) (component k ss))

-- the sum over the three components
abbrev pub sum_of : (ℕ → ℕ) → ℕ
sum_of f = f 0 + f 1 + f 2

-- "a tile's upgrade gives the sums over its three components"
unfoldable pub pass_missing : Bool → List ℕ → List (List ℕ) → List (List ℕ) → List (List ℕ) → List ℤ → MissingBits
pass_missing e positions rows srl_data raw_data ss =
    missing_bits
    (sum_of (λ k. srl_missing (steps_of e positions rows k) (of srl_data k) (component k ss)))
    (sum_of (λ k. raw_missing (steps_of e positions rows k) (of raw_data k) (component k ss)))
