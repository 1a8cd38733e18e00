-- The tests at places and components that are known. Assumes nothing.
use mathlib.Core.Path.{◌≡◌, refl}
use mathlib.Core.Bool.{true, false}
use mathlib.Core.List.{[], ◌∷◌}
use lib.IntN.{pos, negsuc}
use lib.ListN.{replicate}
use Rattle.fixed.specs.Fixed.{sign_of}
use Rattle.bands.specs.Bands.{spread, bands_of}
use Rattle.fitting.specs.Place.{place, fits}
use Rattle.fitting.specs.Component.{component_fits}

-- -8 with sign -1 fits position 3 and not 4; with sign 0 only in the bottom; -32768 fits 15; no position is above 15
places : (fits false 3 (place (negsuc 7) (negsuc 0)) ≡ true)
    × (fits false 4 (place (negsuc 7) (negsuc 0)) ≡ false)
    × (fits false 3 (place (negsuc 7) (pos 0)) ≡ false)
    × (fits true 3 (place (negsuc 7) (pos 0)) ≡ true)
    × (fits false 15 (place (negsuc 32767) (negsuc 0)) ≡ true)
    × (fits true 16 (place (pos 0) (pos 0)) ≡ false)
unfolding sign_of
places = (refl, refl, refl, refl, refl, refl)

-- a place of the band 0 at position 2 and one of the bottom at position 0; a sign is missing; the row is too high
components : (component_fits (0 ∷ 9 ∷ []) (2 ∷ []) (pos 12 ∷ negsuc 4 ∷ []) (pos 1 ∷ pos 1 ∷ []) ≡ true)
    × (component_fits (0 ∷ 9 ∷ []) (2 ∷ []) (pos 12 ∷ negsuc 4 ∷ []) (pos 1 ∷ []) ≡ false)
    × (component_fits (0 ∷ 9 ∷ []) (3 ∷ []) (pos 12 ∷ negsuc 4 ∷ []) (pos 1 ∷ pos 1 ∷ []) ≡ false)
unfolding sign_of component_fits
components = (refl, refl, refl)

-- a whole component of zeros fits the row of zeros
zeros : component_fits (bands_of false) (replicate 10 0) (replicate 4096 (pos 0)) (replicate 4096 (pos 0)) ≡ true
unfolding sign_of component_fits spread
zeros = refl
