-- For inner functions only: a pass over the fields of a tile, where they lie.
use Rattle.std.specs.Prelude.{◌≡◌, Bool, List, ℕ, ℤ}
use Rattle.planes.specs.Planes.{joined, of}
use Rattle.zero_signs.specs.ZeroSigns.{zero_signs_of}
use Rattle.progressive_decoder.specs.declared.MissingBits.{MissingBits}
use Rattle.components.specs.Components.{pass_coefficients, pass_signs, pass_missing}
use Rattle.tile.specs.Tile.{next_pass}

-- the fields that a pass reads and changes
pub record Fields : Type 0 where
  pub coefficients : List ℤ
  pub sign : List ℤ
  pub numbers : List ℕ
  pub positions : List ℕ
  pub pass : ℕ

-- by their five parts
abbrev pub fields : List ℤ → List ℤ → List ℕ → List ℕ → ℕ → Fields
fields cs ss numbers positions n = record { coefficients = cs; sign = ss; numbers = numbers; positions = positions; pass = n }

-- what a pass fixes of them, from f to g, and the bits that were missing
pub record PassedInPlace (e : Bool) (rows srl_data raw_data : List (List ℕ)) (f g : Fields) (r : MissingBits) : Type 0 where
  pub coefficients : g.coefficients ≡ pass_coefficients e f.positions rows srl_data raw_data f.coefficients f.sign
  pub sign : g.sign ≡ pass_signs e f.positions rows srl_data f.sign
  pub numbers : g.numbers ≡ zero_signs_of e (pass_signs e f.positions rows srl_data f.sign)
  pub positions : g.positions ≡ joined (of rows)
  pub pass : g.pass ≡ next_pass f.pass
  pub missing : r ≡ pass_missing e f.positions rows srl_data raw_data f.sign
