-- The ten bands of a tile component, in both layouts (docs/SCOPE.md, "Bands").
-- A layout is a list of sizes, in the order HL1 LH1 HH1 HL2 LH2 HH2 HL3 LH3 HH3 LL3; "offsets are running sums".
use Rattle.std.specs.Prelude.{Bool, true, false, List, [], ◌∷◌, ◌++◌, ℕ, suc, ◌+◌, ◌*◌, eqb, get_or, replicate}
use Rattle.bands.specs.declared.BandInfo.{BandInfo}

infix 70 ◌by◌
-- so many columns by so many rows
pub data Size : Type 0 where
  ◌by◌ : ℕ → ℕ → Size

-- a band by its three parts
abbrev pub band : ℕ → ℕ → ℕ → BandInfo
band width height offset = record { width = width; height = height; offset = offset }

-- the bands of these sizes one after another from an offset on
abbrev pub placed : ℕ → List Size → List BandInfo
placed at [] = []
placed at ((w by h) ∷ sizes) = band w h at ∷ placed (at + w * h) sizes

-- "counts, extrapolate: 1023, 1023, 961, 272, 272, 256, 72, 72, 64, 81"
abbrev pub extrapolate_sizes : List Size
extrapolate_sizes =
    31 by 33 ∷ 33 by 31 ∷ 31 by 31 ∷ 16 by 17 ∷ 17 by 16 ∷ 16 by 16 ∷ 8 by 9 ∷ 9 by 8 ∷ 8 by 8 ∷ 9 by 9 ∷ []

-- "standard: 1024 three times, 256 three times, 64 four times"
abbrev pub standard_sizes : List Size
standard_sizes =
    32 by 32 ∷ 32 by 32 ∷ 32 by 32 ∷ 16 by 16 ∷ 16 by 16 ∷ 16 by 16 ∷ 8 by 8 ∷ 8 by 8 ∷ 8 by 8 ∷ 8 by 8 ∷ []

-- by the flag `use_reduce_extrapolate`
abbrev pub layout : Bool → List BandInfo
layout true = placed 0 extrapolate_sizes
layout false = placed 0 standard_sizes

-- the number of coefficients in a band
abbrev pub count_of : BandInfo → ℕ
count_of i = i.width * i.height

-- no band: what stands past the tenth
abbrev pub none : BandInfo
none = band 0 0 0

-- the band with a number, 0 to 9
abbrev pub band_at : Bool → ℕ → BandInfo
band_at e b = get_or (layout e) b none

-- "the bottom band is LL3, the last"
abbrev pub is_bottom_band : ℕ → Bool
is_bottom_band b = eqb b 9

-- the place of the bottom band's first coefficient
abbrev pub bottom_offset : Bool → ℕ
bottom_offset e = (band_at e 9).offset

-- what the bands numbered from b on have, once for each of their coefficients, band by band
unfoldable pub spread : {A : Type 0} → (ℕ → A) → ℕ → List BandInfo → List A
spread f b [] = []
spread f b (i ∷ is) = replicate (count_of i) (f b) ++ spread f (suc b) is

-- what each place of a component has of its band
abbrev pub per_place : {A : Type 0} → Bool → (ℕ → A) → List A
per_place e f = spread f 0 (layout e)

-- the band of each place of a component in a layout
abbrev pub bands_of : Bool → List ℕ
bands_of e = per_place e (λ b. b)

-- the position of a band in a row: "a row is ten positions, in band order"
abbrev pub position_of : List ℕ → ℕ → ℕ
position_of row b = get_or row b 0
