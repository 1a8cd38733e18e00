-- For inner functions only: one component after another, on flat arrays.
use Rattle.std.specs.Prelude.{◌≡◌, Bool, List, ℕ, ◌≤◌, ℤ}
use Rattle.progressive_decoder.specs.Upgrade.{upgraded_coefficients, upgraded_signs}
use Rattle.progressive_decoder.specs.Upgrade as P
use Rattle.progressive_decoder.specs.declared.MissingBits.{MissingBits}
use Rattle.planes.specs.Planes.{component}
use Rattle.planes.specs.Inner.{with_component}
use Rattle.components.specs.Components.{steps_of, pass_coefficients, pass_signs, pass_missing}

-- the coefficients after a pass over component k alone, with its two streams
unfoldable pub coefficients_past : ℕ → Bool → List ℕ → List (List ℕ) → List ℕ → List ℕ → List ℤ → List ℤ → List ℤ
coefficients_past k e positions rows srl_data raw_data cs ss =
    with_component k (upgraded_coefficients (steps_of e positions rows k) srl_data raw_data (component k cs) (component k ss)) cs

-- and the signs
unfoldable pub signs_past : ℕ → Bool → List ℕ → List (List ℕ) → List ℕ → List ℤ → List ℤ
signs_past k e positions rows srl_data ss = with_component k (upgraded_signs (steps_of e positions rows k) srl_data (component k ss)) ss

-- no more bits than a pass over one component can miss
abbrev pub Few : MissingBits → Type 0
Few m = (m.srl ≤ 32790) × (m.raw ≤ 61440)

-- what a pass over component k alone fixes: both arrays, and the bits that were missing
pub record ComponentPassed (k : ℕ) (e : Bool) (positions : List ℕ) (rows : List (List ℕ)) (srl_data raw_data : List ℕ) (cs ss cs' ss' : List ℤ) (r : MissingBits) : Type 0 where
  pub coefficients : cs' ≡ coefficients_past k e positions rows srl_data raw_data cs ss
  pub sign : ss' ≡ signs_past k e positions rows srl_data ss
  pub missing : r ≡ P.pass_missing (steps_of e positions rows k) srl_data raw_data (component k ss)
  pub few : Few r

-- what a pass over all three fixes
pub record ComponentsPassed (e : Bool) (positions : List ℕ) (rows srl_data raw_data : List (List ℕ)) (cs ss cs' ss' : List ℤ) (r : MissingBits) : Type 0 where
  pub coefficients : cs' ≡ pass_coefficients e positions rows srl_data raw_data cs ss
  pub sign : ss' ≡ pass_signs e positions rows srl_data ss
  pub missing : r ≡ pass_missing e positions rows srl_data raw_data ss
