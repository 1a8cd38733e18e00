-- What a place of a component may become from one position to a lower one (docs/SCOPE.md, "What any list of passes can reach").
use Rattle.std.specs.Prelude.{◌≡◌, ◌≢◌, Bool, true, false, ℕ, ◌+◌, ◌^◌, ◌<◌, pos, nat_abs, ◌+ℤ◌}
use Rattle.fitting.specs.Place.{Place, Fits}

-- "a nonzero sign stays, and every sign of the bottom"
abbrev pub Kept : Bool → Place → Place → Type 0
Kept true x y = y.sign ≡ x.sign
Kept false x y = x.sign ≢ pos 0 → y.sign ≡ x.sign

-- y has d more than x, "in magnitude, and in the bottom in value"; "magnitudes are whole numbers, 32768 for -32768"
abbrev pub More : Bool → Place → ℕ → Place → Type 0
More true x d y = y.coefficient ≡ x.coefficient +ℤ pos d
More false x d y = nat_abs y.coefficient ≡ nat_abs x.coefficient + d

-- from x, at the starting position p, a place may become y, at the last position q
pub record Gains (bottom : Bool) (p q : ℕ) (x y : Place) : Type 0 where
  -- "it fits the last positions"
  pub fits : Fits bottom q y
  pub kept : Kept bottom x y
  -- "what is added at a place .. is less than 2^(starting position of its band and component)"
  pub added : ℕ
  pub more : More bottom x added y
  pub less : added < 2 ^ p
