-- One place of a component, and when it fits the position of its band (docs/SCOPE.md, "What any list of passes can reach"): as a statement, and as a
-- test that computes.
use Rattle.std.specs.Prelude.{◌≡◌, Bool, true, false, ◌&&◌, ℕ, ◌+◌, ◌-◌, ◌*◌, ◌%◌, ◌^◌, ◌≤◌, ◌<◌, eqb, leb, ltb, ℤ, pos, negsuc, nat_abs}
use Rattle.std.specs.Int.Signed.{mag}
use Rattle.fixed.specs.Fixed.{sign_of}

-- what stands at a place
pub record Place : Type 0 where
  pub coefficient : ℤ
  pub sign : ℤ

-- a place by its two parts
abbrev pub place : ℤ → ℤ → Place
place c s = record { coefficient = c; sign = s }

-- ════ as a statement ════

-- n is a multiple of m
pub record Multiple (m n : ℕ) : Type 0 where
  pub times : ℕ
  pub is : n ≡ times * m

-- "outside the bottom every sign is -1, 0 or 1, zero only with coefficient 0, else the coefficient's own sign"; a sign of the bottom may be any
abbrev pub OwnSign : Bool → Place → Type 0
OwnSign true x = Unit {0}
OwnSign false x = x.sign ≡ sign_of x.coefficient

-- a place fits the position p of its band; the bottom is told by the flag
pub record Fits (bottom : Bool) (p : ℕ) (x : Place) : Type 0 where
  -- a position is "a whole number from 0 to 15"
  pub low : p ≤ 15
  -- a coefficient is "a signed 16-bit number": `mag` is n both for n and for -(n + 1)
  pub range : mag x.coefficient < 32768
  -- "every coefficient, in the bottom too, is a multiple of 2^(position of its band)"
  pub multiple : Multiple (2 ^ p) (nat_abs x.coefficient)
  pub own : OwnSign bottom x

-- ════ levels ════

-- "the level of a coefficient is its magnitude, and in the bottom its value plus 32768"; passes only raise it
abbrev pub level_of : Bool → ℤ → ℕ
level_of true (pos n) = n + 32768
level_of true (negsuc n) = 32767 - n
level_of false c = nat_abs c

-- ════ as a test ════

-- two numbers are the same
abbrev pub eq_z : ℤ → ℤ → Bool
eq_z (pos m) (pos n) = eqb m n
eq_z (pos m) (negsuc n) = false
eq_z (negsuc m) (pos n) = false
eq_z (negsuc m) (negsuc n) = eqb m n

-- the sign is one that fits
abbrev pub has_own_sign : Bool → Place → Bool
has_own_sign true x = true
has_own_sign false x = eq_z x.sign (sign_of x.coefficient)

-- the four clauses of `Fits`, in its order
abbrev pub fits : Bool → ℕ → Place → Bool
fits bottom p x = leb p 15 && (ltb (mag x.coefficient) 32768 && (eqb (nat_abs x.coefficient % 2 ^ p) 0 && has_own_sign bottom x))
