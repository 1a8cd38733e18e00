-- Signed sixteen-bit arithmetic over ℤ: what the functions of `fixed` compute (docs/SCOPE.md, "Signed arithmetic").
-- `pos n` is n and `negsuc n` is -(n + 1), so -32768 is `negsuc 32767`. The library's `quot_z` divides towards zero, and its `shr_z z m` divides by m and rounds
-- down, as a shift that copies the sign bit does.
use Rattle.std.specs.Prelude.{Bool, true, false, cond, ℕ, zero, suc, ◌-◌, ◌*◌, ◌/◌, ◌%◌, ◌^◌, min, ltb, ℤ, pos, negsuc, neg_ℤ, ◌+ℤ◌, ◌-ℤ◌, ◌*ℤ◌}
use Rattle.std.specs.Int.Signed.{lt_z, quot_z, shr_z}

-- ---- clamping: "Sums clamp to -32768..32767"
unfoldable pub clamp_i16 : ℤ → ℤ
clamp_i16 (pos n) = pos (min n 32767)
clamp_i16 (negsuc n) = negsuc (min n 32767)

-- colours: "all clamp to 0..255"
unfoldable pub clamp_u8 : ℤ → ℕ
clamp_u8 (pos n) = min n 255
clamp_u8 (negsuc n) = 0

-- ---- wrapping: "Each sample keeps its low sixteen bits, read as signed"
-- the number that the low sixteen bits of z are
unfoldable pub low16 : ℤ → ℕ
low16 (pos n) = n % 65536
low16 (negsuc n) = 65535 - n % 65536

-- sixteen bits, read as signed: from 32768 on, less 65536
unfoldable pub signed16 : ℕ → ℤ
signed16 m = cond (ltb m 32768) (pos m) (negsuc (65535 - m))

-- both: the sample that is kept
unfoldable pub wrap_i16 : ℤ → ℤ
wrap_i16 z = signed16 (low16 z)

-- ---- halving, which has two forms
-- the wavelet's: "Halving goes towards zero"
abbrev pub half_toward_zero : ℤ → ℤ
half_toward_zero z = quot_z z (pos 2)

-- "a shift by one place rounds down"
abbrev pub half_floor : ℤ → ℤ
half_floor z = shr_z z 2

-- ---- shifts by k places
-- right: "shifted right by the current position with floor"
abbrev pub floor_shift : ℤ → ℕ → ℤ
floor_shift z k = shr_z z (2 ^ k)

-- right, rounded: half of 2 ^ k is added first ("adds 2^(5-q) and shifts right 6 - q places with floor"); a shift by 0 places adds nothing
unfoldable pub round_shift : ℤ → ℕ → ℤ
round_shift z k = floor_shift (z +ℤ pos (2 ^ k / 2)) k

-- left, clamped ("shifts left q - 6 places and clamps")
unfoldable pub shift_left_clamp : ℤ → ℕ → ℤ
shift_left_clamp z k = clamp_i16 (z *ℤ pos (2 ^ k))

-- ---- an upgrade of one coefficient: "width raw bits form a number times 2^current"
-- "It is added in the bottom band and where the sign is 1"
unfoldable pub add_scaled : ℤ → ℕ → ℕ → ℤ
add_scaled c m k = clamp_i16 (c +ℤ pos (m * 2 ^ k))

-- "and subtracted for every other sign"
unfoldable pub sub_scaled : ℤ → ℕ → ℕ → ℤ
sub_scaled c m k = clamp_i16 (c -ℤ pos (m * 2 ^ k))

-- ---- signs of values
-- below 0
abbrev pub is_negative : ℤ → Bool
is_negative z = lt_z z (pos 0)

-- above 0
abbrev pub is_positive : ℤ → Bool
is_positive z = lt_z (pos 0) z

-- of a value, and of a sign: "0 where nothing is known of it yet"
unfoldable pub is_zero : ℤ → Bool
is_zero (pos zero) = true
is_zero (pos (suc n)) = false
is_zero (negsuc n) = false

-- of a sign: "where the sign is 1"
unfoldable pub is_one : ℤ → Bool
is_one (pos zero) = false
is_one (pos (suc zero)) = true
is_one (pos (suc (suc n))) = false
is_one (negsuc n) = false

-- the sign that a coefficient has: "1 or -1 once it is" known
unfoldable pub sign_of : ℤ → ℤ
sign_of (pos zero) = pos 0
sign_of (pos (suc n)) = pos 1
sign_of (negsuc n) = negsuc 0

-- a magnitude with a sign: "a sign bit (1 is negative)"
abbrev pub with_sign : Bool → ℕ → ℤ
with_sign false m = pos m
with_sign true m = neg_ℤ (pos m)
