-- What a member would ask of the theorem: that fitting lasts, that no sign is lost, and that its hypotheses are met by real tiles.
use Rattle.std.specs.Prelude.{◌≡◌, ◌≢◌, ◌⊎◌, ◌↔◌, Bool, false, cond, List, [], ◌∷◌, ℕ, ◌<◌, ℤ, pos, negsuc, get_or, length, replicate, take, None}
use Rattle.fixed.specs.Fixed.{sign_of}
use Rattle.bands.specs.Bands.{per_place, bands_of, is_bottom_band}
use Rattle.planes.specs.Planes.{component, joined, three, of}
use Rattle.tile.specs.Tile.{fresh, loaded, load_refusal}
use Rattle.tile.specs.declared.TileState.{TileState}
use Rattle.fitting.specs.Place.{Place, OwnSign}
use Rattle.fitting.specs.Component.{ComponentFits}
use Rattle.reach.specs.Reach.{TileFits, Pass, Call, after_calls, passes_of, ThreeRows, AllRows, NoRaise, Picture, Reached}

-- ════ fitting lasts ════

-- a tile that fits still fits after any list of passes of which none raises a position, whatever the streams hold
pub record FittingPreserved : Type 0 where
  pub preserved : (t : TileState) → TileFits t → (ks : List Call) → AllRows (passes_of ks) → NoRaise t.base_quant t.prog_quant (passes_of ks)
      → TileFits (after_calls t ks)

-- ════ no sign is lost ════

-- the sign of place i of component k
abbrev pub tile_sign : TileState → ℕ → ℕ → ℤ
tile_sign t k i = get_or (component k t.sign) i (pos 0)

-- and its coefficient
abbrev pub tile_coefficient : TileState → ℕ → ℕ → ℤ
tile_coefficient t k i = get_or (component k t.coefficients) i (pos 0)

-- no pass loses a sign
pub record NonzeroSignsKept : Type 0 where
  -- passes keep every nonzero sign, of any tile, with any rows and any streams
  pub signs : (t : TileState) → length t.sign ≡ 12288 → (ks : List Call) (k i : ℕ) → k < 3 → tile_sign t k i ≢ pos 0 → tile_sign (after_calls t ks) k i ≡ tile_sign t k i
  -- and of a tile that fits, every coefficient outside the bottom keeps its own: a minus stays a minus
  pub coefficients : (t : TileState) → TileFits t → (ks : List Call) → AllRows (passes_of ks) → NoRaise t.base_quant t.prog_quant (passes_of ks)
      → (k i : ℕ) → k < 3 → i < 4096 → is_bottom_band (get_or (bands_of t.use_reduce_extrapolate) i 0) ≡ false
      → sign_of (tile_coefficient t k i) ≢ pos 0 → sign_of (tile_coefficient (after_calls t ks) k i) ≡ sign_of (tile_coefficient t k i)

-- ════ signs that fit, clause by clause ════

-- "every sign is -1, 0 or 1, zero only with coefficient 0, else the coefficient's own sign"
pub record InWords (x : Place) : Type 0 where
  pub one_of : (x.sign ≡ negsuc 0) ⊎ ((x.sign ≡ pos 0) ⊎ (x.sign ≡ pos 1))
  pub zero_only : x.sign ≡ pos 0 → x.coefficient ≡ pos 0
  pub else_own : x.sign ≢ pos 0 → x.sign ≡ sign_of x.coefficient

-- `OwnSign` says just this
pub record OwnSignInWords : Type 0 where
  pub same : (x : Place) → OwnSign false x ↔ InWords x

-- ════ the hypotheses are met ════

-- the same row for each component
abbrev pub rows_at : ℕ → List (List ℕ)
rows_at p = three (replicate 10 p) (replicate 10 p) (replicate 10 p)

-- a loaded tile with the same coefficient and sign all over, each position 3
abbrev pub all_over : ℤ → ℤ → Bool → TileState
all_over c s e = loaded (replicate 3 (replicate 4096 c)) (replicate 3 (replicate 4096 s)) (rows_at 3) (rows_at 6) e

-- one that is dark: each coefficient is -8 with sign -1
abbrev pub dark : Bool → TileState
dark e = all_over (negsuc 7) (negsuc 0) e

-- a pass to position 2, one that is refused, and a pass to position 1
abbrev pub sharpening : List Pass
sharpening = record { rows = rows_at 2; quality = 50 } ∷ record { rows = rows_at 16; quality = 60 } ∷ record { rows = rows_at 1; quality = 70 } ∷ []

-- what they can bring it to, with all raw bits 1: -14 at each place, and -2 in the bottom, where raw bits are added
abbrev pub darker : Bool → Picture
darker e = record {
  coefficients = joined (λ k. per_place e (λ b. cond (is_bottom_band b) (negsuc 1) (negsuc 13)));
  sign = joined (λ k. replicate 4096 (negsuc 0));
  zero_signs = replicate 30 0;
}

-- tiles and a list of passes that the theorem is about
pub record HypothesesMet : Type 0 where
  -- the fresh tile fits
  pub fresh_fits : TileFits fresh
  -- so does every loaded tile of which the components that were loaded fit their rows
  pub loaded_fits : (cs ss : List (List ℤ)) (rows quants : List (List ℕ)) (e : Bool) → ThreeRows rows → ThreeRows quants → load_refusal cs ss rows quants ≡ None
      → ((k : ℕ) → k < 3 → ComponentFits (bands_of e) (of rows k) (take 4096 (of cs k)) (take 4096 (of ss k)))
      → TileFits (loaded cs ss rows quants e)
  -- one of these, in either layout, with a list of passes, one of them refused
  pub dark_fits : (e : Bool) → TileFits (dark e)
  pub rows_met : AllRows sharpening
  pub none_raised : (e : Bool) → NoRaise (dark e).base_quant (dark e).prog_quant sharpening
  -- and what they reach is not only where they started
  pub darker_reached : (e : Bool) → Reached (dark e) sharpening (darker e)
