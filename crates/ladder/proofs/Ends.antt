-- The theorem, and its corollaries.
use mathlib.Core.Path.{◌≡◌, refl, sym, ap, ◌∙◌}
use mathlib.Core.Logic.{◌≢◌}
use mathlib.Core.Bool.{Bool, true, false, cond, ◌&&◌}
use mathlib.Core.List.{List, [], ◌∷◌}
use Prim.Native.Nat.{ℕ, zero, suc, ◌<◌}
use native.Mathlib.Omega.{arith}
use lib.Dec.{ltb}
use lib.IntN.{ℤ, pos, negsuc, neg_ℤ, ◌+ℤ◌, +ℤ_idr}
use lib.ListN.{length, get_or, replicate}
use lib.Seq.{ext_get_or}
use Rattle.fixed.specs.Fixed.{sign_of}
use Rattle.fixed.specs.Cut.{cut_level, toward_zero, downward}
use Rattle.fixed.proofs.Cuts.{cut_rest, rest_small, toward_pos, Above, down_rest}
use Rattle.bands.specs.Bands.{is_bottom_band, position_of, bands_of}
use Rattle.bands.specs.Positions.{row_in_domain}
use Rattle.std.specs.Prelude.{Option, None, Some}
use Rattle.answer.specs.declared.Refusal.{Refusal}
use Rattle.answer.specs.declared.Refusal.TheVariants.{SliceTooShort, OutOfDomain, OutputTooShort}
use Rattle.answer.specs.Answers.{unless, first_of, long_enough}
use Rattle.answer.proofs.Refusing.{first_none}
use Rattle.upgrade_steps.specs.Steps.{steps}
use Rattle.upgrade_steps.specs.Cut.{cut_at, cut_sign_at, cut_component, cut_component_signs}
use Rattle.progressive_encoder.specs.Encode.{symmetric_rule, pass_fault, no_room_for}
use Rattle.progressive.proofs.CutTrip.{replicate_has}
use Rattle.progressive.proofs.Room.{room_suffices_lem}
use Rattle.planes.specs.Planes.{component, row_of, of}
use Rattle.planes.proofs.Joined.{Long, parts_long}
use Rattle.zero_signs.specs.ZeroSigns.{zero_signs_of}
use Rattle.tile.specs.declared.TileState.{TileState}
use Rattle.fitting.specs.Place.{Place, place}
use Rattle.fitting.specs.Component.{place_of_lists}
use Rattle.reach.specs.Reach.{Pass, AllRows, after_call, picture_of}
use Rattle.reach.proofs.Tiles.{same_list, picture_path}
use Rattle.ladder.specs.Ladder.{IsTarget, IsCut, place_in, cut_place, srl_written, raw_written, call_for, write_refusal, WritesBoth, Lowering, last_positions, sharpened, EachWrite, Ends, LadderDoesNotMatter}
use Rattle.ladder.specs.Corollaries.{SameEnd, NeverRefused, NothingRefused, Whole, WholeAtZero}
use Rattle.ladder.proofs.CutPlaces.{cut_places_lem, coefficients_are, signs_are}
use Rattle.ladder.proofs.Ladders.{CutBy, Climbed, climb}

-- ════ by place and by component ════

-- the signs of a tile's components
abbrev signs_of : TileState → ℕ → List ℤ
signs_of t k = component k t.sign

module _ {target : List ℤ} {t : TileState} (h : IsCut target t) where
  part_long : Long 4096 (λ k. component k target)
  part_long = parts_long 4096 target h.aim.whole

  pub signs_whole : Long 4096 (signs_of t)
  signs_whole = parts_long 4096 t.sign h.sign

  start : CutBy target (signs_of t) t
  start =
      let e = t.use_reduce_extrapolate in
      let row : ℕ → List ℕ = λ k. row_of k t.prog_quant in
      let tg : ℕ → List ℤ = λ k. component k target in
      let cs : ℕ → List ℤ = λ k. component k t.coefficients in
      let lc : Long 4096 cs = parts_long 4096 t.coefficients h.coefficients in
      record {
        rows = h.rows;
        positions = h.positions;
        quantizers = h.quantizers;
        numbers = h.numbers;
        long = h.coefficients;
        signs_long = h.sign;
        coefficients = λ k m. coefficients_are e (row k) (tg k) (signs_of t k) (part_long k m) (signs_whole k m) (cs k) (signs_of t k) (lc k m) (signs_whole k m) (λ i l. h.each k i m l);
        signs = λ k m. signs_are e (row k) (tg k) (signs_of t k) (part_long k m) (signs_whole k m) (cs k) (signs_of t k) (lc k m) (signs_whole k m) (λ i l. h.each k i m l);
      }

-- what a tile has at a place, by its components
module _ {target : List ℤ} (aim : IsTarget target) (sg : ℕ → List ℤ) (long : Long 4096 sg) {u : TileState} (s : CutBy target sg u) where
  pub place_is : (k i : ℕ) → k < 3 → i < 4096
      → place_in u k i ≡ cut_place (get_or (bands_of u.use_reduce_extrapolate) i 0) (row_of k u.prog_quant) (get_or (component k target) i (pos 0)) (get_or (sg k) i (pos 0))
  place_is k i m l =
      (λ j. place_of_lists (s.coefficients k m j) (s.signs k m j) i)
      ∙ cut_places_lem u.use_reduce_extrapolate (row_of k u.prog_quant) (component k target) (sg k) (parts_long 4096 target aim.whole k m) (long k m) i l

-- a place that is a cut with the sign s is the cut with its own sign
pub own_sign : (b : ℕ) (row : List ℕ) (c s : ℤ) (x : Place) → x ≡ cut_place b row c s → x ≡ cut_place b row c x.sign
own_sign b row c s x e = e ∙ by (is_bottom_band b) ∙ ap (λ (y : Place). cut_place b row c y.sign) (sym e)
  where
    by : (z : Bool) → ◌≡◌ {A = Place} (record { coefficient = cut_at z (position_of row b) c; sign = cut_sign_at z (position_of row b) c s })
        (record { coefficient = cut_at z (position_of row b) c; sign = cut_sign_at z (position_of row b) c (cut_sign_at z (position_of row b) c s) })
    by true = refl
    by false = refl

-- ════ the theorem ════

module _ {target : List ℤ} {t : TileState} (h : IsCut target t) (os : List Pass) (w : AllRows os) (l : Lowering t.prog_quant os) where
  pub arrived : Climbed h.aim (signs_of t) (signs_whole h) t os
  arrived = climb h.aim (signs_of t) (signs_whole h) os t (start h) w l

  places_are : (k i : ℕ) → k < 3 → i < 4096
      → place_in (sharpened target t os) k i
      ≡ cut_place (get_or (bands_of (sharpened target t os).use_reduce_extrapolate) i 0) (row_of k (sharpened target t os).prog_quant) (get_or (component k target) i (pos 0)) (place_in t k i).sign
  places_are = place_is h.aim (signs_of t) (signs_whole h) arrived.state

  pub ends : Ends target t os
  ends =
      let r = arrived in
      let u = sharpened target t os in
      record {
        written = r.written;
        read = r.read;
        each = λ k i m n. places_are k i m n
            ∙ (λ j. cut_place (get_or (bands_of (r.layout j)) i 0) (row_of k (r.positions j)) (get_or (component k target) i (pos 0)) (place_in t k i).sign);
        positions = r.positions;
        layout = r.layout;
        cut = record {
          aim = h.aim;
          coefficients = r.state.long;
          sign = r.state.signs_long;
          rows = r.state.rows;
          positions = r.state.positions;
          quantizers = r.state.quantizers;
          numbers = r.state.numbers;
          each = λ k i m n. own_sign (get_or (bands_of u.use_reduce_extrapolate) i 0) (row_of k u.prog_quant) (get_or (component k target) i (pos 0)) (place_in t k i).sign (place_in u k i) (places_are k i m n);
        };
      }

pub ladder_does_not_matter_lem : LadderDoesNotMatter
ladder_does_not_matter_lem = record { ends = λ target t h os w l. ends h os w l }

-- ════ two ladders ════

module _ {target : List ℤ} {t : TileState} (h : IsCut target t) (os : List Pass) (w : AllRows os) (l : Lowering t.prog_quant os) where
  -- each component at the end, by the last positions
  coefficients_end : (k : ℕ) → k < 3
      → component k (sharpened target t os).coefficients ≡ cut_component t.use_reduce_extrapolate (row_of k (last_positions t.prog_quant os)) (component k target)
  coefficients_end k m =
      let r = arrived h os w l in
      r.state.coefficients k m ∙ (λ j. cut_component (r.layout j) (row_of k (r.positions j)) (component k target))

  signs_end : (k : ℕ) → k < 3
      → component k (sharpened target t os).sign ≡ cut_component_signs t.use_reduce_extrapolate (row_of k (last_positions t.prog_quant os)) (component k target) (component k t.sign)
  signs_end k m =
      let r = arrived h os w l in
      r.state.signs k m ∙ (λ j. cut_component_signs (r.layout j) (row_of k (r.positions j)) (component k target) (component k t.sign))

  numbers_end : (sharpened target t os).zero_signs ≡ zero_signs_of t.use_reduce_extrapolate (sharpened target t os).sign
  numbers_end =
      let r = arrived h os w l in
      r.state.numbers ∙ ap (λ (e : Bool). zero_signs_of e (sharpened target t os).sign) r.layout

pub same_end : SameEnd
same_end = record { same = λ target t h os os' w w' l l' z. by target t h os os' w w' l l' z }
  where
    by : (target : List ℤ) (t : TileState) → IsCut target t → (os os' : List Pass) → AllRows os → AllRows os' → Lowering t.prog_quant os → Lowering t.prog_quant os'
        → last_positions t.prog_quant os ≡ last_positions t.prog_quant os' → picture_of (sharpened target t os) ≡ picture_of (sharpened target t os')
    by target t h os os' w w' l l' z =
        let r = arrived h os w l in
        let r' = arrived h os' w' l' in
        let e = t.use_reduce_extrapolate in
        let u = sharpened target t os in
        let u' = sharpened target t os' in
        picture_path e (numbers_end h os w l) (numbers_end h os' w' l')
        (same_list u.coefficients u'.coefficients r.state.long r'.state.long
        (λ k m. coefficients_end h os w l k m ∙ ap (λ (p : List ℕ). cut_component e (row_of k p) (component k target)) z ∙ sym (coefficients_end h os' w' l' k m)))
        (same_list u.sign u'.sign r.state.signs_long r'.state.signs_long
        (λ k m. signs_end h os w l k m ∙ ap (λ (p : List ℕ). cut_component_signs e (row_of k p) (component k target) (component k t.sign)) z ∙ sym (signs_end h os' w' l' k m)))

-- ════ no refusal ════

-- where one output has caused no refusal, of another only its room counts
room_counts : (x y z r : Option Refusal) → first_of x (first_of y (first_of z r)) ≡ None → (s : Option Refusal) → first_of x (first_of y (first_of z s)) ≡ s
room_counts x y z r e s =
    let a = first_none x (first_of y (first_of z r)) e in
    let b = first_none y (first_of z r) a.1 in
    rw (a.0, b.0, (first_none z r b.1).0)

-- room is there where 7 is not given
not_short : (c d : Bool) → first_of (cond c (Some OutputTooShort) None) (cond d (Some OutputTooShort) None) ≢ Some OutputTooShort → first_of (cond c (Some OutputTooShort) None) (cond d (Some OutputTooShort) None) ≡ None
not_short true d h = absurd (h refl)
not_short false true h = absurd (h refl)
not_short false false h = refl

never_refused : (target : List ℤ) (t : TileState) (rows : List (List ℕ)) (k : ℕ) → WritesBoth target t rows k → NeverRefused target t rows k
never_refused target t rows k w srlOut rawOut h j =
    let tg = component k target in
    let cs = component k t.coefficients in
    let ss = component k t.sign in
    let p = row_of k t.prog_quant in
    let e = t.use_reduce_extrapolate in
    let a = srl_written tg t rows k in
    let b = raw_written tg t rows k in
    let room : write_refusal tg t rows k srlOut rawOut ≡ no_room_for a srlOut b rawOut =
    room_counts (unless (long_enough tg && (long_enough cs && long_enough ss)) SliceTooShort) (unless (row_in_domain p && row_in_domain (of rows k)) OutOfDomain)
    (pass_fault symmetric_rule (steps e p (of rows k)) tg cs ss) (no_room_for a a b b) (w.from_target.accepted a b (omega arith) (omega arith)) (no_room_for a srlOut b rawOut) in
    let most = room_suffices_lem.any_pass symmetric_rule tg cs ss p (of rows k) e srlOut rawOut h j in
    room ∙ not_short (ltb (length srlOut) (length a)) (ltb (length rawOut) (length b)) (λ z. most (room ∙ z))

-- what follows for each call follows for all
each_map : (P Q : TileState → List (List ℕ) → ℕ → Type 0) → ((t : TileState) (rows : List (List ℕ)) (k : ℕ) → P t rows k → Q t rows k)
    → (target : List ℤ) (os : List Pass) (t : TileState) → EachWrite P target t os → EachWrite Q target t os
unfolding EachWrite
each_map P Q f target [] t w = tt
each_map P Q f target (o ∷ os) t w = (λ k m. f t o.rows k (w.0 k m), each_map P Q f target os (after_call t (call_for target t o)) w.1)

pub nothing_refused_lem : NothingRefused
nothing_refused_lem = record {
  written = λ target t h os w l. each_map (WritesBoth target) (NeverRefused target) (never_refused target) target os t (arrived h os w l).written;
  read = λ target t h os w l. (arrived h os w l).read;
}

-- ════ down to 0 ════

-- a cut at 0 takes nothing away
no_rest : (c : ℤ) (a : Above 0 c) → downward 0 c ≡ c
no_rest c a =
    let none : a.rest ≡ 0 = omega (arith, a.less) in
    sym (a.is ∙ ap (λ (n : ℕ). downward 0 c +ℤ pos n) none ∙ +ℤ_idr (downward 0 c))

all_left : (n : ℕ) → cut_level 0 n ≡ n
all_left n = omega (arith, cut_rest 0 n, rest_small 0 n)

toward_none : (c : ℤ) → toward_zero 0 c ≡ c
toward_none (pos n) = toward_pos 0 n ∙ ap pos (all_left n)
toward_none (negsuc n) = ap (λ (m : ℕ). neg_ℤ (pos m)) (all_left (suc n))

cut_none : (b : Bool) (c : ℤ) → cut_at b 0 c ≡ c
cut_none true c = no_rest c (down_rest 0 c)
cut_none false c = toward_none c

-- every position of a row of zeros is 0
zero_row : (n b : ℕ) → ◌≡◌ {A = ℕ} (get_or (replicate n 0) b 0) 0
zero_row n b = replicate_has (λ (k : ℕ). k ≡ 0) n b 0 0 refl refl

zero_position : (k b : ℕ) → k < 3 → position_of (row_of k (replicate 30 0)) b ≡ 0
zero_position zero b h = zero_row 10 b
zero_position (suc zero) b h = zero_row 10 b
zero_position (suc (suc zero)) b h = zero_row 10 b
zero_position (suc (suc (suc k))) b h = absurd (omega arith)

module _ {target : List ℤ} {t : TileState} (h : IsCut target t) (os : List Pass) (w : AllRows os) (l : Lowering t.prog_quant os)
    (z : last_positions t.prog_quant os ≡ replicate 30 0) where
  -- a place then
  at_zero : (k i : ℕ) → k < 3 → i < 4096 → (b : ℕ) → get_or (bands_of t.use_reduce_extrapolate) i 0 ≡ b
      → place_in (sharpened target t os) k i
      ≡ place (cut_at (is_bottom_band b) 0 (get_or (component k target) i (pos 0))) (cut_sign_at (is_bottom_band b) 0 (get_or (component k target) i (pos 0)) (place_in t k i).sign)
  at_zero k i m n b f =
      let c = get_or (component k target) i (pos 0) in
      let s = (place_in t k i).sign in
      let p : position_of (row_of k (last_positions t.prog_quant os)) b ≡ 0 = ap (λ (q : List ℕ). position_of (row_of k q) b) z ∙ zero_position k b m in
      (ends h os w l).each k i m n
      ∙ ap (λ (b : ℕ). cut_place b (row_of k (last_positions t.prog_quant os)) c s) f
      ∙ ap (λ (p : ℕ). place (cut_at (is_bottom_band b) p c) (cut_sign_at (is_bottom_band b) p c s)) p

  whole : Whole target (sharpened target t os)
  whole =
      let u = sharpened target t os in
      let r = arrived h os w l in
      record {
        coefficients = same_list u.coefficients target r.state.long h.aim.whole
            (λ k m. ext_get_or (pos 0) (component k u.coefficients) (component k target) (long u.coefficients r.state.long k m ∙ sym (long target h.aim.whole k m))
            (λ i n. coefficient k i m (omega (arith, long u.coefficients r.state.long k m))));
        signs = λ k i m n f. sign k i m n (ap (λ (e : Bool). is_bottom_band (get_or (bands_of e) i 0)) (sym r.layout) ∙ f);
      }
    where
      long : (l : List ℤ) → length l ≡ 12288 → Long 4096 (λ k. component k l)
      long l n = parts_long 4096 l n

      coefficient : (k i : ℕ) → k < 3 → i < 4096 → (place_in (sharpened target t os) k i).coefficient ≡ get_or (component k target) i (pos 0)
      coefficient k i m n =
          let b = get_or (bands_of t.use_reduce_extrapolate) i 0 in
          ap (λ (x : Place). x.coefficient) (at_zero k i m n b refl) ∙ cut_none (is_bottom_band b) (get_or (component k target) i (pos 0))

      sign : (k i : ℕ) → k < 3 → i < 4096 → is_bottom_band (get_or (bands_of t.use_reduce_extrapolate) i 0) ≡ false
          → (place_in (sharpened target t os) k i).sign ≡ sign_of (get_or (component k target) i (pos 0))
      sign k i m n f =
          let c = get_or (component k target) i (pos 0) in
          ap (λ (x : Place). x.sign) (at_zero k i m n (get_or (bands_of t.use_reduce_extrapolate) i 0) refl)
          ∙ ap (λ (b : Bool). cut_sign_at b 0 c (place_in t k i).sign) f
          ∙ ap sign_of (toward_none c)

pub whole_at_zero_lem : WholeAtZero
whole_at_zero_lem = record { whole = λ target t h os w l z. whole h os w l z }
