-- The definitions at known signs, by `refl`.
use mathlib.Core.Path.{◌≡◌, refl}
use mathlib.Core.Bool.{true, false}
use mathlib.Core.List.{List, [], ◌∷◌, ◌++◌}
use lib.IntN.{ℤ, pos, negsuc}
use lib.ListN.{replicate}
use Rattle.fixed.specs.Fixed.{is_zero}
use Rattle.bands.specs.Tables.{are_same}
use Rattle.zero_signs.specs.ZeroSigns.{zeros_in, band_zeros}

-- 5 and -1 are not 0
two_zeros : zeros_in (pos 0 ∷ pos 5 ∷ negsuc 0 ∷ pos 0 ∷ []) ≡ 2
unfolding zeros_in is_zero
two_zeros = refl

-- a component with a sign at each end: HL1 and LL3 have a zero less
ends : List ℤ
ends = pos 1 ∷ (replicate 4094 (pos 0) ++ (negsuc 0 ∷ []))

ends_known : band_zeros true ends ≡ (1022 ∷ 1023 ∷ 961 ∷ 272 ∷ 272 ∷ 256 ∷ 72 ∷ 72 ∷ 64 ∷ 80 ∷ [])
unfolding zeros_in is_zero ends
ends_known = refl

ends_known_standard : band_zeros false ends ≡ (1023 ∷ 1024 ∷ 1024 ∷ 256 ∷ 256 ∷ 256 ∷ 64 ∷ 64 ∷ 64 ∷ 63 ∷ [])
unfolding zeros_in is_zero ends
ends_known_standard = refl

-- one number too many, one too few, one that differs
not_same : (are_same (1 ∷ 2 ∷ []) (1 ∷ []) ≡ false) × (are_same (1 ∷ []) (1 ∷ 2 ∷ []) ≡ false) × (are_same (1 ∷ 2 ∷ []) (1 ∷ 3 ∷ []) ≡ false) × (are_same (1 ∷ 2 ∷ []) (1 ∷ 2 ∷ []) ≡ true)
not_same = (refl, refl, refl, refl)
