-- A coefficient cut at a position q, which leaves a multiple of 2^q: the two roundings of the writer of a pass (docs/SCOPE.md, "Upgrade pass").
use Rattle.std.specs.Prelude.{ℕ, ◌*◌, ◌/◌, ◌^◌, ℤ, pos, nat_abs, ◌*ℤ◌}
use Rattle.fixed.specs.Fixed.{floor_shift, is_negative, with_sign}

-- a whole number without its bits below 2^q
abbrev pub cut_level : ℕ → ℕ → ℕ
cut_level q n = n / 2 ^ q * 2 ^ q

-- a coefficient, towards zero: "their magnitudes are shifted"; the sign stays
abbrev pub toward_zero : ℕ → ℤ → ℤ
toward_zero q c = with_sign (is_negative c) (cut_level q (nat_abs c))

-- and down: "shifted right by the current position with floor"
abbrev pub downward : ℕ → ℤ → ℤ
downward q c = floor_shift c q *ℤ pos (2 ^ q)
