-- The hypotheses are met: by every target, cut and loaded, and by one with -32768 and a negative bottom.
use mathlib.Core.Path.{◌≡◌, refl, sym, ap, ◌∙◌, subst}
use mathlib.Core.Bool.{Bool, true, false, cond}
use mathlib.Core.List.{List, [], ◌∷◌, ◌++◌, map}
use Prim.Native.Nat.{ℕ, zero, suc, ◌<◌}
use native.Mathlib.Omega.{arith}
use lib.Dec.{eqb}
use lib.IntN.{ℤ, pos, negsuc}
use lib.ListN.{length, get_or, take, replicate}
use lib.Seq.{take_all}
use lib.Signed.{mag}
use Rattle.fixed.specs.Fixed.{sign_of}
use Rattle.bands.specs.Bands.{per_place, is_bottom_band, bands_of}
use Rattle.bands.specs.Positions.{rows_in_domain}
use Rattle.bands.proofs.Spread.{place_whole, place_map, bands_whole}
use Rattle.upgrade_steps.specs.Cut.{cut_at, cut_sign_at, cut_component, cut_component_signs}
use Rattle.planes.specs.Planes.{component, joined, of, taken}
use Rattle.planes.proofs.Joined.{three_of_lem, Long, joined_long, parts_long, component_joined}
use Rattle.tile.specs.Tile.{loaded}
use Rattle.fitting.specs.Place.{place}
use Rattle.fitting.specs.Component.{place_of_lists}
use Rattle.reach.specs.Reach.{ThreeRows, AllRows}
use Rattle.reach.specs.Corollaries.{rows_at}
use Rattle.reach.proofs.Tiles.{given_row, rows_in_domain_lem}
use Rattle.reach.proofs.Instances.{three_at, row_of_lem, lower_at, same_position, place_at}
use Rattle.ladder.specs.Ladder.{IsTarget, IsCut, cut_place, three_of, Lowering, last_positions}
use Rattle.ladder.specs.Corollaries.{cut_tile, stroke, stroke_tile, three_passes, HypothesesMet}
use Rattle.ladder.proofs.CutFits.{narrow_append}
use Rattle.ladder.proofs.CutPlaces.{component_long, signs_long, cut_places_lem}
use Rattle.ladder.proofs.Ladders.{Narrow}
use Rattle.ladder.proofs.Ends.{own_sign, whole_at_zero_lem}

-- ════ a loaded tile ════

-- three lists of 4,096 that are loaded are its components
module _ (f : ℕ → List ℤ) (h : Long 4096 f) where
  part : (k : ℕ) → k < 3 → take 4096 (of (three_of f) k) ≡ f k
  part k m = ap (take 4096) (three_of_lem f k m) ∙ take_all 4096 (f k) (omega (arith, h k m))

  parts : Long 4096 (λ k. take 4096 (of (three_of f) k))
  parts k m = ap length (part k m) ∙ h k m

  taken_long : length (taken (three_of f)) ≡ 12288
  taken_long = joined_long 4096 (λ k. take 4096 (of (three_of f) k)) parts

  taken_part : (k : ℕ) → k < 3 → component k (taken (three_of f)) ≡ f k
  taken_part k m = component_joined (λ k. take 4096 (of (three_of f) k)) parts k m ∙ part k m

-- it is its target cut where the loaded places are
module _ (target : List ℤ) (cs ss : ℕ → List ℤ) (rows quants : List (List ℕ)) (e : Bool) (aim : IsTarget target) (lc : Long 4096 cs) (ls : Long 4096 ss)
    (w : ThreeRows rows) (v : ThreeRows quants) (d : rows_in_domain rows ≡ true) (q : rows_in_domain quants ≡ true)
    (each : (k i : ℕ) → k < 3 → i < 4096
    → place_of_lists (cs k) (ss k) i ≡ cut_place (get_or (bands_of e) i 0) (of rows k) (get_or (component k target) i (pos 0)) (place_of_lists (cs k) (ss k) i).sign) where
  pub loaded_cut : IsCut target (loaded (three_of cs) (three_of ss) rows quants e)
  unfolding loaded
  loaded_cut = record {
    aim = aim;
    coefficients = taken_long cs lc;
    sign = taken_long ss ls;
    rows = joined_long 10 (of rows) w.ten;
    positions = rows_in_domain_lem rows w d;
    quantizers = rows_in_domain_lem quants v q;
    numbers = refl;
    each = λ k i m n. rw (taken_part cs lc k m, taken_part ss ls k m, given_row rows w k m) (each k i m n);
  }

-- ════ every target, cut and loaded ════

module _ (target signs : List ℤ) (rows quants : List (List ℕ)) (e : Bool) (aim : IsTarget target) (ls : length signs ≡ 12288)
    (w : ThreeRows rows) (v : ThreeRows quants) (d : rows_in_domain rows ≡ true) (q : rows_in_domain quants ≡ true) where
  target_long : Long 4096 (λ k. component k target)
  target_long = parts_long 4096 target aim.whole

  sign_long : Long 4096 (λ k. component k signs)
  sign_long = parts_long 4096 signs ls

  cut_tile_lem : IsCut target (cut_tile target signs rows quants e)
  cut_tile_lem =
      let cs : ℕ → List ℤ = λ k. cut_component e (of rows k) (component k target) in
      let ss : ℕ → List ℤ = λ k. cut_component_signs e (of rows k) (component k target) (component k signs) in
      loaded_cut target cs ss rows quants e aim
      (λ k m. component_long e (of rows k) (component k target) (component k signs) (target_long k m) (sign_long k m))
      (λ k m. signs_long e (of rows k) (component k target) (component k signs) (target_long k m) (sign_long k m)) w v d q
      (λ k i m n. own_sign (get_or (bands_of e) i 0) (of rows k) (get_or (component k target) i (pos 0)) (get_or (component k signs) i (pos 0)) (place_of_lists (cs k) (ss k) i)
      (cut_places_lem e (of rows k) (component k target) (component k signs) (target_long k m) (sign_long k m) i n))

-- ════ -32768 in the first band, -7 elsewhere ════

narrow_map : (f : ℕ → ℤ) → ((b : ℕ) → mag (f b) < 32768) → (l : List ℕ) → Narrow (map f l)
narrow_map f h [] i = omega arith
narrow_map f h (b ∷ l) zero = h b
narrow_map f h (b ∷ l) (suc i) = narrow_map f h l i

-- the target, the coefficients at position 3 and their signs, by band
aim_at : ℕ → ℤ
aim_at b = cond (eqb b 0) (negsuc 32767) (negsuc 6)

start_at : ℕ → ℤ
start_at b = cond (eqb b 0) (negsuc 32767) (cond (is_bottom_band b) (negsuc 7) (pos 0))

sign_at : ℕ → ℤ
sign_at b = cond (eqb b 0) (negsuc 0) (pos 0)

aim_narrow : (b : ℕ) → mag (aim_at b) < 32768
unfolding aim_at
aim_narrow b = by (eqb b 0)
  where
    by : (z : Bool) → mag (cond z (negsuc 32767) (negsuc 6)) < 32768
    by true = omega arith
    by false = omega arith

stroke_aim : (e : Bool) → IsTarget (stroke e)
unfolding aim_at
stroke_aim e =
    let one : Narrow (per_place e aim_at) = subst Narrow (sym (place_map e aim_at (λ b. b))) (narrow_map aim_at aim_narrow (bands_of e)) in
    record {
      whole = joined_long 4096 (λ k. per_place e aim_at) (λ k m. place_whole e aim_at);
      sixteen_bits = narrow_append (per_place e aim_at) (per_place e aim_at ++ per_place e aim_at) one (narrow_append (per_place e aim_at) (per_place e aim_at) one one);
    }

-- a place of band b at position 3
stroke_place : (b : ℕ) → place (start_at b) (sign_at b) ≡ place (cut_at (is_bottom_band b) 3 (aim_at b)) (cut_sign_at (is_bottom_band b) 3 (aim_at b) (sign_at b))
unfolding aim_at start_at sign_at sign_of
stroke_place b = by (eqb b 0) (is_bottom_band b)
  where
    by : (z y : Bool) → place (cond z (negsuc 32767) (cond y (negsuc 7) (pos 0))) (cond z (negsuc 0) (pos 0))
        ≡ place (cut_at y 3 (cond z (negsuc 32767) (negsuc 6))) (cut_sign_at y 3 (cond z (negsuc 32767) (negsuc 6)) (cond z (negsuc 0) (pos 0)))
    by true true = refl
    by true false = refl
    by false true = refl
    by false false = refl

module _ (e : Bool) where
  stroke_each : (k i : ℕ) → k < 3 → i < 4096
      → place_of_lists (per_place e start_at) (per_place e sign_at) i
      ≡ cut_place (get_or (bands_of e) i 0) (of (rows_at 3) k) (get_or (component k (joined (λ k. per_place e aim_at))) i (pos 0)) (place_of_lists (per_place e start_at) (per_place e sign_at) i).sign
  stroke_each k i m n =
      let h : i < length (bands_of e) = omega (arith, bands_whole e) in
      rw (
        component_joined (λ k. per_place e aim_at) (λ k m. place_whole e aim_at) k m,
        row_of_lem 3 k m,
        place_at e aim_at (pos 0) i h,
        place_at e start_at (pos 0) i h,
        place_at e sign_at (pos 0) i h,
        same_position e 3 i,
      ) (stroke_place (get_or (bands_of e) i 0))

  stroke_cut : IsCut (stroke e) (stroke_tile e)
  unfolding aim_at start_at sign_at
  stroke_cut =
      loaded_cut (stroke e) (λ k. per_place e start_at) (λ k. per_place e sign_at) (rows_at 3) (rows_at 6) e (stroke_aim e)
      (λ k m. place_whole e start_at) (λ k m. place_whole e sign_at) (three_at 3) (three_at 6) refl refl stroke_each

-- ════ three passes ════

three_rows : AllRows three_passes
three_rows = AllRows.one (three_at 2) (AllRows.one (three_at 1) (AllRows.one (three_at 0) AllRows.none))

three_lower : (e : Bool) → Lowering (stroke_tile e).prog_quant three_passes
unfolding Lowering loaded
three_lower e = (lower_at 3 2 (omega arith), (lower_at 2 1 (omega arith), (lower_at 1 0 (omega arith), tt)))

last_zero : (e : Bool) → last_positions (stroke_tile e).prog_quant three_passes ≡ replicate 30 0
unfolding last_positions loaded
last_zero e = refl

-- the tiles, the list of passes, and where it ends
pub hypotheses_met_lem : HypothesesMet
hypotheses_met_lem = record {
  cut_tiles = cut_tile_lem;
  stroke_cut = stroke_cut;
  three_rows = three_rows;
  three_lower = three_lower;
  stroke_whole = λ e. (whole_at_zero_lem.whole (stroke e) (stroke_tile e) (stroke_cut e) three_passes three_rows (three_lower e) (last_zero e)).coefficients;
}
