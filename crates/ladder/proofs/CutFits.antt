-- A tile fits its positions if and only if it is some target cut at them: a place, then all of them.
use mathlib.Core.Path.{◌≡◌, refl, sym, ap, ◌∙◌, subst}
use mathlib.Core.Bool.{Bool, true, false}
use mathlib.Core.List.{List, [], ◌∷◌, ◌++◌}
use Prim.Native.Nat.{ℕ, zero, suc, ◌*◌, ◌^◌, ◌≤◌, ◌<◌}
use native.Mathlib.Nat.{add-zero}
use native.Mathlib.Omega.{arith}
use lib.IntN.{ℤ, pos, negsuc, neg_ℤ, nat_abs, ◌+ℤ◌}
use lib.ListN.{length, get_or}
use lib.Pow.{pow_pos}
use lib.Signed.{mag}
use Rattle.fixed.specs.Fixed.{floor_shift, sign_of}
use Rattle.fixed.specs.Cut.{cut_level, toward_zero, downward}
use Rattle.fixed.proofs.Cuts.{abs_toward, toward_pos, toward_range}
use Rattle.fixed.proofs.Sizes.{nat_abs_times}
use Rattle.bands.specs.Bands.{is_bottom_band, position_of, bands_of}
use Rattle.bands.specs.Positions.{in_domain}
use Rattle.bands.proofs.Every.{part_passes, row_low}
use Rattle.bands.proofs.Spread.{bands_whole}
use Rattle.upgrade_steps.specs.Cut.{cut_at, cut_sign_at}
use Rattle.progressive.proofs.Regained.{down_range}
use Rattle.planes.specs.Planes.{component, row_of}
use Rattle.planes.proofs.Joined.{parts_long, joined_components}
use Rattle.tile.specs.declared.TileState.{TileState}
use Rattle.fitting.specs.Place.{Place, place, Multiple, Fits, level_of}
use Rattle.fitting.proofs.Level.{cut_multiple}
use Rattle.fitting.proofs.Families.{place_path, floor_is, level_multiple}
use Rattle.reach.specs.Reach.{TileFits}
use Rattle.ladder.specs.Ladder.{IsCut, place_in}
use Rattle.ladder.specs.Corollaries.{CutsFit}
use Rattle.ladder.proofs.Levels.{cut_to, level_cut}
use Rattle.ladder.proofs.Ladders.{Narrow, narrow_within, part_range}

-- ════ one place ════

-- a cut has sixteen bits
cut_range : (b : Bool) (p : ℕ) (c : ℤ) → p ≤ 15 → mag c < 32768 → mag (cut_at b p c) < 32768
cut_range true p c h l = down_range p c h l
cut_range false p c h l = toward_range p c l

-- and is a multiple
cut_times : (b : Bool) (p : ℕ) (c : ℤ) → Multiple (2 ^ p) (nat_abs (cut_at b p c))
cut_times true p c = record { times = nat_abs (floor_shift c p); is = nat_abs_times (floor_shift c p) (2 ^ p) }
cut_times false p c = rw (abs_toward p c) (cut_multiple p (nat_abs c))

-- so it fits, with its sign
cut_fits : (b : Bool) (p : ℕ) (c s : ℤ) → p ≤ 15 → mag c < 32768 → Fits b p (place (cut_at b p c) (cut_sign_at b p c s))
cut_fits true p c s h l = record { low = h; range = cut_range true p c h l; multiple = cut_times true p c; own = tt }
cut_fits false p c s h l = record { low = h; range = cut_range false p c h l; multiple = cut_times false p c; own = refl }

-- a multiple has nothing to cut
none_cut : (p n : ℕ) → Multiple (2 ^ p) n → cut_level p n ≡ n
none_cut p n m = ap (cut_level p) (sym (add-zero n)) ∙ cut_to p n 0 m (pow_pos p)

toward_same : (p : ℕ) (c : ℤ) → Multiple (2 ^ p) (nat_abs c) → toward_zero p c ≡ c
toward_same p (pos n) m = toward_pos p n ∙ ap pos (none_cut p n m)
toward_same p (negsuc n) m = ap (λ (k : ℕ). neg_ℤ (pos k)) (none_cut p (suc n) m)

down_same : (p : ℕ) (c : ℤ) → p ≤ 15 → mag c < 32768 → Multiple (2 ^ p) (nat_abs c) → downward p c ≡ c
down_same p c h l m =
    let level : level_of true (downward p c) ≡ level_of true c = level_cut true p c h l ∙ none_cut p (level_of true c) (level_multiple true p c h l m) in
    floor_is (downward p c) (down_range p c h l) ∙ ap (λ (n : ℕ). pos n +ℤ negsuc 32767) level ∙ sym (floor_is c l)

-- so a place that fits is its own cut
own_cut : (b : Bool) (p : ℕ) (x : Place) → Fits b p x → x ≡ place (cut_at b p x.coefficient) (cut_sign_at b p x.coefficient x.sign)
own_cut true p x f = place_path (sym (down_same p x.coefficient f.low f.range f.multiple)) refl
own_cut false p x f =
    let same = toward_same p x.coefficient f.multiple in
    place_path (sym same) (f.own ∙ ap sign_of (sym same))

-- ════ all places ════

-- two lists in a row
pub narrow_append : (a b : List ℤ) → Narrow a → Narrow b → Narrow (a ++ b)
narrow_append [] b h k i = k i
narrow_append (x ∷ a) b h k zero = h zero
narrow_append (x ∷ a) b h k (suc i) = narrow_append a b (λ j. h (suc j)) k i

-- a list by its three parts
narrow_parts : (l : List ℤ) → length l ≡ 12288 → ((k : ℕ) → k < 3 → Narrow (component k l)) → Narrow l
narrow_parts l h n = subst Narrow (joined_components l h)
    (narrow_append (component 0 l) (component 1 l ++ component 2 l) (n 0 (omega arith)) (narrow_append (component 1 l) (component 2 l) (n 1 (omega arith)) (n 2 (omega arith))))

module _ {t : TileState} (f : TileFits t) where
  -- the place i of component k fits
  place_fits : (k i : ℕ) → k < 3 → i < 4096
      → Fits (is_bottom_band (get_or (bands_of t.use_reduce_extrapolate) i 0)) (position_of (row_of k t.prog_quant) (get_or (bands_of t.use_reduce_extrapolate) i 0)) (place_in t k i)
  place_fits k i m n = (f.each k m).each i (omega (arith, bands_whole t.use_reduce_extrapolate))

  part_narrow : (k : ℕ) → k < 3 → Narrow (component k t.coefficients)
  part_narrow k m = narrow_within (component k t.coefficients)
      (λ i h. (place_fits k i m (omega (arith, parts_long 4096 t.coefficients f.coefficients k m))).range)

  own_target : IsCut t.coefficients t
  own_target = record {
    aim = record { whole = f.coefficients; sixteen_bits = narrow_parts t.coefficients f.coefficients part_narrow };
    coefficients = f.coefficients;
    sign = f.sign;
    rows = f.rows;
    positions = f.positions;
    quantizers = f.quantizers;
    numbers = f.numbers;
    each = λ k i m n. own_cut _ _ (place_in t k i) (place_fits k i m n);
  }

module _ {target : List ℤ} {t : TileState} (h : IsCut target t) where
  cut_place_fits : (k i : ℕ) → k < 3 → i < 4096
      → Fits (is_bottom_band (get_or (bands_of t.use_reduce_extrapolate) i 0)) (position_of (row_of k t.prog_quant) (get_or (bands_of t.use_reduce_extrapolate) i 0)) (place_in t k i)
  cut_place_fits k i m n =
      let b = get_or (bands_of t.use_reduce_extrapolate) i 0 in
      let row = row_of k t.prog_quant in
      let c = get_or (component k target) i (pos 0) in
      subst (λ (x : Place). Fits (is_bottom_band b) (position_of row b) x) (sym (h.each k i m n))
      (cut_fits (is_bottom_band b) (position_of row b) c (place_in t k i).sign (row_low row b (part_passes in_domain 10 (k * 10) t.prog_quant h.positions)) (part_range k target h.aim.sixteen_bits i))

  fits : TileFits t
  fits =
      let e = t.use_reduce_extrapolate in
      record {
        coefficients = h.coefficients;
        sign = h.sign;
        rows = h.rows;
        positions = h.positions;
        quantizers = h.quantizers;
        numbers = h.numbers;
        each = λ k m. record {
          coefficients = parts_long 4096 t.coefficients h.coefficients k m ∙ sym (bands_whole e);
          signs = parts_long 4096 t.sign h.sign k m ∙ sym (bands_whole e);
          each = λ i n. cut_place_fits k i m (omega (arith, bands_whole e));
        };
      }

pub cuts_fit : CutsFit
cuts_fit = record { fits = λ target t h. fits h; own = λ t f. own_target f }
