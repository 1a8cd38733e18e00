-- What a member would look for in the theorem, and that its hypotheses are met (docs/SCOPE.md, "Ladders").
use Rattle.std.specs.Prelude.{◌≡◌, Bool, true, false, cond, List, [], ◌∷◌, ℕ, ◌≤◌, ◌<◌, eqb, ℤ, pos, negsuc, get_or, length, replicate, None}
use Rattle.fixed.specs.Fixed.{sign_of}
use Rattle.bands.specs.Bands.{per_place, is_bottom_band, bands_of}
use Rattle.bands.specs.Positions.{rows_in_domain}
use Rattle.upgrade_steps.specs.Cut.{cut_component, cut_component_signs}
use Rattle.progressive.specs.Room.{srl_room_for, raw_room_for}
use Rattle.planes.specs.Planes.{component, joined, of}
use Rattle.tile.specs.Tile.{loaded}
use Rattle.tile.specs.declared.TileState.{TileState}
use Rattle.reach.specs.Reach.{TileFits, Pass, ThreeRows, AllRows, answers_to, picture_of}
use Rattle.reach.specs.Corollaries.{rows_at}
use Rattle.ladder.specs.Ladder.{IsTarget, IsCut, Lowering, last_positions, calls_for, sharpened, place_in, three_of, write_refusal, EachWrite}

-- ════ two ladders ════

-- "two ladders from the same tile to the same last positions end at the same coefficients, signs and numbers"
pub record SameEnd : Type 0 where
  pub same : (target : List ℤ) (t : TileState) → IsCut target t → (os os' : List Pass) → AllRows os → AllRows os'
      → Lowering t.prog_quant os → Lowering t.prog_quant os'
      → last_positions t.prog_quant os ≡ last_positions t.prog_quant os'
      → picture_of (sharpened target t os) ≡ picture_of (sharpened target t os')

-- ════ no refusal ════

-- outputs of so many bytes are always long enough: the writer's call for component k, given the target
abbrev pub NeverRefused : List ℤ → TileState → List (List ℕ) → ℕ → Type 0
NeverRefused target t rows k = (srlOut rawOut : List ℕ) → srl_room_for 15 ≤ length srlOut → raw_room_for 15 ≤ length rawOut
    → write_refusal (component k target) t rows k srlOut rawOut ≡ None

-- "no call of a ladder is refused, neither a writing one nor a reading one"
pub record NothingRefused : Type 0 where
  pub written : (target : List ℤ) (t : TileState) → IsCut target t → (os : List Pass) → AllRows os
      → Lowering t.prog_quant os → EachWrite (NeverRefused target) target t os
  pub read : (target : List ℤ) (t : TileState) → IsCut target t → (os : List Pass) → AllRows os
      → Lowering t.prog_quant os → answers_to t (calls_for target t os) ≡ replicate (length os) None

-- ════ down to 0 ════

-- "where the last positions are all 0, the coefficients are the target's, and so are the signs outside the bottom"
pub record Whole (target : List ℤ) (u : TileState) : Type 0 where
  pub coefficients : u.coefficients ≡ target
  pub signs : (k i : ℕ) → k < 3 → i < 4096 → is_bottom_band (get_or (bands_of u.use_reduce_extrapolate) i 0) ≡ false
      → (place_in u k i).sign ≡ sign_of (get_or (component k target) i (pos 0))

pub record WholeAtZero : Type 0 where
  pub whole : (target : List ℤ) (t : TileState) → IsCut target t → (os : List Pass) → AllRows os
      → Lowering t.prog_quant os → last_positions t.prog_quant os ≡ replicate 30 0 → Whole target (sharpened target t os)

-- ════ which tiles these are ════

-- "a tile is some target cut at its positions if and only if it fits": its own coefficients are such a target
pub record CutsFit : Type 0 where
  pub fits : (target : List ℤ) (t : TileState) → IsCut target t → TileFits t
  pub own : (t : TileState) → TileFits t → IsCut t.coefficients t

-- ════ the hypotheses are met ════

-- a target cut at three rows and loaded, in a layout; in the bottom with any signs
abbrev pub cut_tile : List ℤ → List ℤ → List (List ℕ) → List (List ℕ) → Bool → TileState
cut_tile target signs rows quants e =
    loaded (three_of (λ k. cut_component e (of rows k) (component k target)))
    (three_of (λ k. cut_component_signs e (of rows k) (component k target) (component k signs))) rows quants e

-- -32768 in the first band, and -7 everywhere else, in the bottom too
abbrev pub stroke : Bool → List ℤ
stroke e = joined (λ k. per_place e (λ b. cond (eqb b 0) (negsuc 32767) (negsuc 6)))

-- loaded at position 3: there -7 is 0 with sign 0, and in the bottom -8
abbrev pub stroke_tile : Bool → TileState
stroke_tile e =
    loaded (three_of (λ k. per_place e (λ b. cond (eqb b 0) (negsuc 32767) (cond (is_bottom_band b) (negsuc 7) (pos 0)))))
    (three_of (λ k. per_place e (λ b. cond (eqb b 0) (negsuc 0) (pos 0)))) (rows_at 3) (rows_at 6) e

-- three passes, to position 2, to 1 and to 0
abbrev pub three_passes : List Pass
three_passes = record { rows = rows_at 2; quality = 50 } ∷ record { rows = rows_at 1; quality = 60 } ∷ record { rows = rows_at 0; quality = 70 } ∷ []

-- tiles and a list of passes that the theorem is about
pub record HypothesesMet : Type 0 where
  -- every target, cut and loaded
  pub cut_tiles : (target signs : List ℤ) (rows quants : List (List ℕ)) (e : Bool) → IsTarget target → length signs ≡ 12288
      → ThreeRows rows → ThreeRows quants → rows_in_domain rows ≡ true → rows_in_domain quants ≡ true
      → IsCut target (cut_tile target signs rows quants e)
  -- one of these, in either layout, with a list of passes, and where it ends
  pub stroke_cut : (e : Bool) → IsCut (stroke e) (stroke_tile e)
  pub three_rows : AllRows three_passes
  pub three_lower : (e : Bool) → Lowering (stroke_tile e).prog_quant three_passes
  pub stroke_whole : (e : Bool) → (sharpened (stroke e) (stroke_tile e) three_passes).coefficients ≡ stroke e
