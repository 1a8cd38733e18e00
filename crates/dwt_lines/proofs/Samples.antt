-- Lines of numbers that are known: the first sample wraps, halving goes towards zero, and the two endings. Assumes nothing.
use mathlib.Core.Path.{◌≡◌, refl}
use mathlib.Core.List.{[], ◌∷◌}
use lib.IntN.{pos, negsuc}
use Rattle.fixed.specs.Fixed.{wrap_i16, low16, signed16}
use Rattle.dwt_lines.specs.Line.{edge, even, odd, half, mean, from, line}

-- L0 -32768, H0 1: the first sample is 32767; H0 0, H1 -1: half their sum is 0 and not -1
samples : (line (negsuc 32767 ∷ pos 0 ∷ []) (pos 1 ∷ []) ≡ pos 32767 ∷ pos 16385 ∷ negsuc 0 ∷ [])
    × (line (pos 5 ∷ pos 5 ∷ pos 5 ∷ []) (pos 0 ∷ negsuc 0 ∷ []) ≡ pos 5 ∷ pos 5 ∷ pos 5 ∷ pos 3 ∷ pos 6 ∷ [])
unfolding line from edge even odd wrap_i16 low16 signed16
samples = (refl, refl)

-- one low place more than high ones, and two more
endings : (line (pos 10 ∷ pos 20 ∷ pos 30 ∷ []) (pos 1 ∷ negsuc 2 ∷ []) ≡ pos 9 ∷ pos 17 ∷ pos 21 ∷ pos 21 ∷ pos 33 ∷ [])
    × (line (pos 10 ∷ pos 20 ∷ pos 30 ∷ pos 41 ∷ []) (pos 1 ∷ negsuc 2 ∷ []) ≡ pos 9 ∷ pos 17 ∷ pos 21 ∷ pos 20 ∷ pos 31 ∷ pos 36 ∷ [])
unfolding line from edge even odd half mean wrap_i16 low16 signed16
endings = (refl, refl)
