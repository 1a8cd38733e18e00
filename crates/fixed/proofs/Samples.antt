-- The definitions at numbers that are known: dequantizing, the wavelet's first sample, one coefficient's upgrade from position 3 to 1.
-- Assumes nothing.
use mathlib.Core.Path.{◌≡◌, refl}
use lib.IntN.{pos, negsuc, ◌-ℤ◌}
use Rattle.fixed.specs.Fixed.{clamp_i16, clamp_u8, low16, signed16, wrap_i16, half_toward_zero, half_floor, floor_shift, round_shift, shift_left_clamp, add_scaled, sub_scaled}
use Rattle.fixed.specs.Cut.{cut_level, toward_zero, downward}

-- quantizer 5: -1 gives 0, 1 gives 1, -3 gives -1; quantizer 7: 20000 gives 32767
dequantized : (round_shift (negsuc 0) 1 ≡ pos 0) × (round_shift (pos 1) 1 ≡ pos 1) × (round_shift (negsuc 2) 1 ≡ negsuc 0) × (shift_left_clamp (pos 20000) 1 ≡ pos 32767)
unfolding clamp_i16 round_shift shift_left_clamp
dequantized = (refl, refl, refl, refl)

-- L0 -32768, H0 1: the first sample is 32767; 40000 wraps to 40000 - 65536, and -1 stays
wrapped : (wrap_i16 (negsuc 32767 -ℤ pos 1) ≡ pos 32767) × (wrap_i16 (pos 40000) ≡ negsuc 25535) × (wrap_i16 (negsuc 0) ≡ negsuc 0)
unfolding wrap_i16 low16 signed16
wrapped = (refl, refl, refl)

-- the two halvings part at -1
halved : (half_toward_zero (negsuc 0) ≡ pos 0) × (half_floor (negsuc 0) ≡ negsuc 0)
halved = (refl, refl)

-- raw bits 11: -8 with sign -1 gives -14, in the bottom -2; -32768 with sign -1 stays
upgraded : (sub_scaled (negsuc 7) 3 1 ≡ negsuc 13) × (add_scaled (negsuc 7) 3 1 ≡ negsuc 1) × (sub_scaled (negsuc 32767) 3 1 ≡ negsuc 32767)
unfolding clamp_i16 add_scaled sub_scaled
upgraded = (refl, refl, refl)

-- writing 7 over 0 gives 3, writing -7 gives -4
written : (clamp_i16 (floor_shift (pos 7) 1 -ℤ floor_shift (pos 0) 1) ≡ pos 3) × (clamp_i16 (floor_shift (negsuc 6) 1 -ℤ floor_shift (pos 0) 1) ≡ negsuc 3)
unfolding clamp_i16
written = (refl, refl)

-- at position 1, 7 is cut to 6, -7 towards zero to -6, and down to -8
cut_at_1 : (cut_level 1 7 ≡ 6) × (toward_zero 1 (pos 7) ≡ pos 6) × (toward_zero 1 (negsuc 6) ≡ negsuc 5) × (downward 1 (pos 7) ≡ pos 6) × (downward 1 (negsuc 6) ≡ negsuc 7)
cut_at_1 = (refl, refl, refl, refl, refl)

-- colours clamp
coloured : (clamp_u8 (pos 300) ≡ 255) × (clamp_u8 (pos 7) ≡ 7) × (clamp_u8 (negsuc 3) ≡ 0)
unfolding clamp_u8
coloured = (refl, refl, refl)
