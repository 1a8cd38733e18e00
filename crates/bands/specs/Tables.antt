-- What both tables of bands and both tables of places satisfy: the statements that `bands::band_tables` and `bands::place_tables` prove.
use Rattle.std.specs.Prelude.{Bool, true, false, cond, ◌&&◌, List, [], ◌∷◌, map, ◌≡◌, ℕ, zero, suc, ◌+◌, ◌≤◌, ◌<◌, T, eqb, leb, ltb, length, get_or, Option, Some, None}
use Rattle.bands.specs.declared.BandInfo.{BandInfo}
use Rattle.bands.specs.Bands.{layout, count_of, band_at, bottom_offset, per_place, bands_of, position_of}

-- "A place belongs to the row whose offset and count enclose it."
abbrev pub encloses : BandInfo → ℕ → Bool
encloses i p = leb i.offset p && ltb p (i.offset + count_of i)

-- the number of the first band that encloses a place; where none does, how many bands there are
unfoldable pub band_of_place : List BandInfo → ℕ → ℕ
band_of_place [] p = 0
band_of_place (i ∷ is) p = cond (encloses i p) 0 (suc (band_of_place is p))

-- that of a place in a layout: a place past the 4,096 has none
abbrev pub number_of_band : Bool → ℕ → Option ℕ
number_of_band e p = cond (ltb p 4096) (Some (band_of_place (layout e) p)) None

-- the number of coefficients in the first b bands
unfoldable pub count_before : List BandInfo → ℕ → ℕ
count_before l zero = 0
count_before [] (suc b) = 0
count_before (i ∷ is) (suc b) = count_of i + count_before is b

-- the place p belongs to the band numbered b, and to no other
pub record OnlyBand (e : Bool) (p b : ℕ) : Type 0 where
  pub number : b < 10
  pub in_band : T (encloses (band_at e b) p)
  pub no_other : (k : ℕ) → k < 10 → T (encloses (band_at e k) p) → k ≡ b

-- what both tables are: the statement of `band_tables`
pub record BandTables : Type 0 where
  -- ten bands in each layout
  pub ten : (e : Bool) → length (layout e) ≡ 10
  -- offsets are running sums of the counts
  pub running : (e : Bool) (b : ℕ) → b < 10 → (band_at e b).offset ≡ count_before (layout e) b
  -- the counts sum to 4,096
  pub whole : (e : Bool) → count_before (layout e) 10 ≡ 4096
  -- LL3 starts at 4015 in the reduce-extrapolate layout, and at 4032 in the standard one
  pub bottom_extrapolate : bottom_offset true ≡ 4015
  pub bottom_standard : bottom_offset false ≡ 4032
  -- each place belongs to exactly one band
  pub one_band : (e : Bool) (p : ℕ) → p < 4096 → OnlyBand e p (band_of_place (layout e) p)

-- two lists have the same numbers
abbrev pub are_same : List ℕ → List ℕ → Bool
are_same [] [] = true
are_same [] (n ∷ ns) = false
are_same (m ∷ ms) [] = false
are_same (m ∷ ms) (n ∷ ns) = eqb m n && are_same ms ns

-- where each band of a layout ends
abbrev pub band_ends : Bool → List ℕ
band_ends e = map (λ i. i.offset + count_of i) (layout e)

-- what both tables of places are: the statement of `place_tables`
pub record PlaceTables : Type 0 where
  -- 4,096 entries in each
  pub whole : (e : Bool) → length (bands_of e) ≡ 4096
  -- each is the number of the band that encloses its place
  pub entry : (e : Bool) (p : ℕ) → p < 4096 → get_or (bands_of e) p 0 ≡ band_of_place (layout e) p
  -- past them there is no band: the number is 10
  pub past : (e : Bool) (p : ℕ) → 4096 ≤ p → band_of_place (layout e) p ≡ 10
  -- what a row, of positions or of quantizers, has for each place, it has by the table
  pub by_table : (e : Bool) (row : List ℕ) → per_place e (position_of row) ≡ map (position_of row) (bands_of e)
