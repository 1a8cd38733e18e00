-- The samples of the forward wavelet, each from those beside it. `Line` of `dwt_lines` has the inverse, whose names for places these are.
use Rattle.std.specs.Prelude.{ℕ, ◌+◌, ◌≤◌, ◌<◌, ℤ, pos, ◌+ℤ◌, ◌-ℤ◌, ◌*ℤ◌}
use Rattle.fixed.specs.Fixed.{wrap_i16, half_toward_zero}

-- Hj: half of what the odd place y has above the mean of its even neighbours
unfoldable pub high : ℤ → ℤ → ℤ → ℤ
high x y z = wrap_i16 (half_toward_zero (y -ℤ half_toward_zero (x +ℤ z)))

-- L0, and the last one of a line of 17 or 33 places
unfoldable pub low_edge : ℤ → ℤ → ℤ
low_edge x h = wrap_i16 (x +ℤ h)

-- Lj between two high samples
unfoldable pub low_between : ℤ → ℤ → ℤ → ℤ
low_between x h k = wrap_i16 (x +ℤ half_toward_zero (h +ℤ k))

-- L31 of a line of 64 places
unfoldable pub low_half : ℤ → ℤ → ℤ
low_half x h = wrap_i16 (x +ℤ half_toward_zero h)

-- L32: the mean of x and it is the place y
unfoldable pub low_past : ℤ → ℤ → ℤ
low_past x y = wrap_i16 (pos 2 *ℤ y -ℤ x)

-- so many low and high samples make a line of at most 64 places: 33/31, 17/16 and 9/8 do
pub record ForwardHalves (low high : ℕ) : Type 0 where
  pub some : 1 ≤ high
  pub least : high < low
  pub most : low ≤ high + 2
  pub room : low + high ≤ 64
