-- How many signs of each band are 0 (docs/SCOPE.md, "Zero signs").
use Rattle.std.specs.Prelude.{Bool, cond, List, [], ◌∷◌, map, ℕ, ◌+◌, ℤ}
use Rattle.std.proofs.Math.Seq.{slice}
use Rattle.fixed.specs.Fixed.{is_zero}
use Rattle.bands.specs.Bands.{layout, count_of}
use Rattle.bands.specs.Tables.{are_same}
use Rattle.bands.specs.declared.BandInfo.{BandInfo}
use Rattle.planes.specs.Planes.{component, joined}

-- how many of some signs are 0, counted one by one: "any other sign counts as not zero, 5 too"
unfoldable pub zeros_in : List ℤ → ℕ
zeros_in [] = 0
zeros_in (s ∷ ss) = cond (is_zero s) 1 0 + zeros_in ss

-- the signs of a band among those of its component
abbrev pub signs_in : BandInfo → List ℤ → List ℤ
signs_in i ss = slice i.offset (i.offset + count_of i) ss

-- the ten numbers of a component, "in band order by the tile's layout"; "the bottom's entry counts its stored signs too"
abbrev pub band_zeros : Bool → List ℤ → List ℕ
band_zeros e ss = map (λ i. zeros_in (signs_in i ss)) (layout e)

-- the thirty of a tile: "three rows of ten, one row a component"
unfoldable pub zero_signs_of : Bool → List ℤ → List ℕ
zero_signs_of e ss = joined (λ k. band_zeros e (component k ss))

-- the numbers are right: "each is the number of signs of that band of that component that are 0"
abbrev pub are_right : Bool → List ℤ → List ℕ → Bool
are_right e ss ns = are_same ns (zero_signs_of e ss)
