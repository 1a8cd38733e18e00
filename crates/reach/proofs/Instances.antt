-- The theorem's hypotheses are met: by the fresh tile, by loaded tiles, and by a list of passes with a refused one.
use mathlib.Core.Path.{◌≡◌, refl, sym, ap, ◌∙◌}
use mathlib.Core.Bool.{Bool, true, false, cond, ◌&&◌}
use mathlib.Core.List.{List, [], ◌∷◌, ◌++◌, map}
use Prim.Native.Nat.{ℕ, zero, suc, ◌*◌, ◌^◌, ◌≤◌, ◌<◌}
use native.Mathlib.Omega.{arith}
use lib.IntN.{ℤ, pos, negsuc}
use lib.ListN.{length, get_or, take, replicate, length-replicate, get_or-replicate, replicate-append-replicate}
use lib.Seq.{take_all}
use Rattle.fixed.specs.Fixed.{is_zero, sign_of}
use Rattle.zero_signs.specs.ZeroSigns.{zero_signs_of}
use Rattle.zero_signs.proofs.Counted.{uniform_tile}
use Rattle.bands.specs.Bands.{per_place, bands_of, is_bottom_band, position_of}
use Rattle.bands.specs.Positions.{every, rows_in_domain}
use Rattle.bands.proofs.Every.{both_true}
use Rattle.bands.proofs.Spread.{place_whole, bands_whole, place_map, one_of_ten}
use Rattle.std.specs.Prelude.{None}
use Rattle.answer.specs.Answers.{unless, first_of, long_enough}
use Rattle.answer.specs.declared.Refusal.TheVariants.{SliceTooShort, OutOfDomain}
use Rattle.answer.proofs.Refusing.{some_not_none}
use Rattle.planes.specs.Planes.{component, joined, of, taken}
use Rattle.tile.specs.Tile.{fresh, loaded, load_refusal}
use Rattle.planes.proofs.Joined.{three_of_lem, Long, joined_long, component_joined, row_joined}
use Rattle.fitting.specs.Place.{Multiple, Fits}
use Rattle.reach.specs.Place.{Gains}
use Rattle.fitting.specs.Component.{ComponentFits}
use Rattle.reach.specs.Component.{ComponentGains}
use Rattle.reach.specs.Reach.{TileFits, ThreeRows, AllRows, Lower, NoRaise, last_rows, TileGains}
use Rattle.reach.specs.Corollaries.{rows_at, all_over, dark, sharpening, darker, HypothesesMet}
use Rattle.reach.proofs.Tiles.{given_row, rows_in_domain_lem}
use Rattle.reach.proofs.AnyList.{reachable_pictures_lem}

-- ════ a loaded tile ════

accepted_load : (a b c d : Bool) → first_of (unless (a && b) SliceTooShort) (unless (c && d) OutOfDomain) ≡ None → (c ≡ true) × (d ≡ true)
accepted_load true true c d e = by (c && d) refl e
  where
    by : (z : Bool) → (c && d) ≡ z → unless z OutOfDomain ≡ None → (c ≡ true) × (d ≡ true)
    by true z e = both_true c d z
    by false z e = absurd (some_not_none e)
accepted_load true false c d e = absurd (some_not_none e)
accepted_load false b c d e = absurd (some_not_none e)

loaded_fits : (cs ss : List (List ℤ)) (rows quants : List (List ℕ)) (e : Bool) → ThreeRows rows → ThreeRows quants → load_refusal cs ss rows quants ≡ None
    → ((k : ℕ) → k < 3 → ComponentFits (bands_of e) (of rows k) (take 4096 (of cs k)) (take 4096 (of ss k)))
    → TileFits (loaded cs ss rows quants e)
unfolding loaded
loaded_fits cs ss rows quants e w v a f =
    let lc : Long 4096 (λ k. take 4096 (of cs k)) = λ k h. (f k h).coefficients ∙ bands_whole e in
    let ls : Long 4096 (λ k. take 4096 (of ss k)) = λ k h. (f k h).signs ∙ bands_whole e in
    let d = accepted_load (every long_enough cs) (every long_enough ss) (rows_in_domain rows) (rows_in_domain quants) a in
    record {
      coefficients = joined_long 4096 (λ k. take 4096 (of cs k)) lc;
      sign = joined_long 4096 (λ k. take 4096 (of ss k)) ls;
      rows = joined_long 10 (of rows) w.ten;
      positions = rows_in_domain_lem rows w d.0;
      quantizers = rows_in_domain_lem quants v d.1;
      numbers = refl;
      each = λ k h. rw (component_joined (λ k. take 4096 (of cs k)) lc k h, component_joined (λ k. take 4096 (of ss k)) ls k h, given_row rows w k h) (f k h);
    }

-- ════ the same coefficient and sign everywhere ════

pub same_position : (e : Bool) (p i : ℕ) → position_of (replicate 10 p) (get_or (bands_of e) i 0) ≡ p
same_position e p i = get_or-replicate 10 (get_or (bands_of e) i 0) p 0 (one_of_ten e i)

pub inside : (e : Bool) (i : ℕ) → i < length (bands_of e) → i < 4096
inside e i h = omega (arith, h, bands_whole e)

-- where a place with them fits, a component of them does
all_fit : (e : Bool) (p : ℕ) (c s : ℤ) → ((b : Bool) → Fits b p (record { coefficient = c; sign = s })) → ComponentFits (bands_of e) (replicate 10 p) (replicate 4096 c) (replicate 4096 s)
all_fit e p c s f = record {
  coefficients = length-replicate 4096 c ∙ sym (bands_whole e);
  signs = length-replicate 4096 s ∙ sym (bands_whole e);
  each = λ i h. rw (same_position e p i, get_or-replicate 4096 i c (pos 0) (inside e i h), get_or-replicate 4096 i s (pos 0) (inside e i h)) (f (is_bottom_band (get_or (bands_of e) i 0)));
}

multiple_of : (m n k : ℕ) → n ≡ k * m → Multiple m n
multiple_of m n k e = record { times = k; is = e }

-- a zero fits every position
pub zero_place : (p : ℕ) → p ≤ 15 → (b : Bool) → Fits b p (record { coefficient = pos 0; sign = pos 0 })
unfolding sign_of
zero_place p h true = record { low = h; range = omega arith; multiple = multiple_of (2 ^ p) 0 0 (omega arith); own = tt }
zero_place p h false = record { low = h; range = omega arith; multiple = multiple_of (2 ^ p) 0 0 (omega arith); own = refl }

dark_place : (b : Bool) → Fits b 3 (record { coefficient = negsuc 7; sign = negsuc 0 })
unfolding sign_of
dark_place true = record { low = omega arith; range = omega arith; multiple = multiple_of 8 8 1 refl; own = tt }
dark_place false = record { low = omega arith; range = omega arith; multiple = multiple_of 8 8 1 refl; own = refl }

-- ════ the fresh tile ════

-- a list of one thing, by its three parts
pub thirds : {A : Type 0} (x : A) → replicate 12288 x ≡ joined (λ k. replicate 4096 x)
thirds {A} x = sym (ap (λ (l : List A). replicate 4096 x ++ l) (replicate-append-replicate 4096 4096 x) ∙ replicate-append-replicate 4096 8192 x)

fresh_fits : TileFits fresh
unfolding fresh
fresh_fits = record {
  coefficients = length-replicate 12288 (pos 0);
  sign = length-replicate 12288 (pos 0);
  rows = refl;
  positions = refl;
  quantizers = refl;
  numbers = refl;
  each = λ k h. rw (parts k h, row_joined (λ k. replicate 10 0) (λ k h. refl) k h) (all_fit false 0 (pos 0) (pos 0) (zero_place 0 (omega arith)));
}
  where
    parts : (k : ℕ) → k < 3 → component k (replicate 12288 (pos 0)) ≡ replicate 4096 (pos 0)
    parts k h = ap (component k) (thirds (pos 0)) ∙ component_joined (λ k. replicate 4096 (pos 0)) (λ k h. length-replicate 4096 (pos 0)) k h

-- ════ a tile of -8 at position 3, and passes to 2 and to 1 ════

pub row_of_lem : (p k : ℕ) → k < 3 → of (rows_at p) k ≡ replicate 10 p
row_of_lem p = three_of_lem (λ k. replicate 10 p)

pub three_at : (p : ℕ) → ThreeRows (rows_at p)
three_at p = record { three = refl; ten = λ k h. ap length (row_of_lem p k h) }

pub whole_part : (c : ℤ) (k : ℕ) → k < 3 → take 4096 (of (replicate 3 (replicate 4096 c)) k) ≡ replicate 4096 c
whole_part c k h = ap (take 4096) (get_or-replicate 3 k (replicate 4096 c) [] h) ∙ take_all 4096 (replicate 4096 c) (omega (arith, length-replicate 4096 c))

pub start : (c : ℤ) (k : ℕ) → k < 3 → component k (taken (replicate 3 (replicate 4096 c))) ≡ replicate 4096 c
start c k h =
    component_joined (λ k. take 4096 (of (replicate 3 (replicate 4096 c)) k)) (λ k h. ap length (whole_part c k h) ∙ length-replicate 4096 c) k h ∙ whole_part c k h

pub all_over_fits : (c s : ℤ) → ((b : Bool) → Fits b 3 (record { coefficient = c; sign = s })) → (e : Bool) → TileFits (all_over c s e)
all_over_fits c s f e = loaded_fits (replicate 3 (replicate 4096 c)) (replicate 3 (replicate 4096 s)) (rows_at 3) (rows_at 6) e (three_at 3) (three_at 6) refl
    (λ k h. rw (whole_part c k h, whole_part s k h, row_of_lem 3 k h) (all_fit e 3 c s f))

dark_fits : (e : Bool) → TileFits (dark e)
dark_fits = all_over_fits (negsuc 7) (negsuc 0) dark_place

pub lower_at : (p q : ℕ) → q ≤ p → Lower (joined (of (rows_at p))) (joined (of (rows_at q)))
lower_at p q l j h = omega (arith, get_or-replicate 30 j p 0 h, get_or-replicate 30 j q 0 h)

none_raised : (e : Bool) → NoRaise (dark e).base_quant (dark e).prog_quant sharpening
unfolding NoRaise loaded
none_raised e = (λ a. lower_at 3 2 (omega arith), ((λ a. absurd (some_not_none a)), ((λ a. lower_at 2 1 (omega arith)), tt)))

-- ════ and what they reach ════

get_d_map : {A B : Type 0} (f : A → B) (l : List A) (i : ℕ) (a : A) (b : B) → i < length l → get_or (map f l) i b ≡ f (get_or l i a)
get_d_map f [] i a b h = absurd (omega arith)
get_d_map f (x ∷ l) zero a b h = refl
get_d_map f (x ∷ l) (suc i) a b h = get_d_map f l i a b (omega arith)

darker_place : (b : Bool) → Gains b 3 1 (record { coefficient = negsuc 7; sign = negsuc 0 }) (record { coefficient = cond b (negsuc 1) (negsuc 13); sign = negsuc 0 })
unfolding sign_of
darker_place true = record {
  fits = record { low = omega arith; range = omega arith; multiple = multiple_of 2 2 1 refl; own = tt };
  kept = refl;
  added = 6;
  more = refl;
  less = omega arith;
}
darker_place false = record {
  fits = record { low = omega arith; range = omega arith; multiple = multiple_of 2 14 7 refl; own = refl };
  kept = λ h. refl;
  added = 6;
  more = refl;
  less = omega arith;
}

-- what each place has by its band
pub place_at : {A : Type 0} (e : Bool) (f : ℕ → A) (d : A) (i : ℕ) → i < length (bands_of e) → get_or (per_place e f) i d ≡ f (get_or (bands_of e) i 0)
place_at {A} e f d i h = ap (λ (l : List A). get_or l i d) (place_map e f (λ b. b)) ∙ get_d_map f (bands_of e) i 0 d h

-- the coefficients of a component then
deep : Bool → List ℤ
deep e = per_place e (λ b. cond (is_bottom_band b) (negsuc 1) (negsuc 13))

deep_at : (e : Bool) (i : ℕ) → i < length (bands_of e) → get_or (deep e) i (pos 0) ≡ cond (is_bottom_band (get_or (bands_of e) i 0)) (negsuc 1) (negsuc 13)
unfolding deep
deep_at e i h = place_at e (λ b. cond (is_bottom_band b) (negsuc 1) (negsuc 13)) (pos 0) i h

component_darker : (e : Bool) → ComponentGains (bands_of e) (replicate 10 3) (replicate 10 1) (replicate 4096 (negsuc 7)) (replicate 4096 (negsuc 0)) (deep e) (replicate 4096 (negsuc 0))
unfolding deep
component_darker e = record {
  coefficients = place_whole e (λ b. cond (is_bottom_band b) (negsuc 1) (negsuc 13)) ∙ sym (bands_whole e);
  signs = length-replicate 4096 (negsuc 0) ∙ sym (bands_whole e);
  each = λ i h. rw (same_position e 3 i, same_position e 1 i, get_or-replicate 4096 i (negsuc 7) (pos 0) (inside e i h), get_or-replicate 4096 i (negsuc 0) (pos 0) (inside e i h), deep_at e i h) (darker_place (is_bottom_band (get_or (bands_of e) i 0)));
}

-- no sign is 0
no_zeros : (e : Bool) → replicate 30 0 ≡ zero_signs_of e (joined (λ k. replicate 4096 (negsuc 0)))
unfolding is_zero
no_zeros true = sym (uniform_tile true (negsuc 0))
no_zeros false = sym (uniform_tile false (negsuc 0))

darker_gained : (e : Bool) → TileGains (dark e) (joined (of (rows_at 1))) (darker e)
unfolding loaded deep
darker_gained e =
    let lc : Long 4096 (λ k. deep e) = λ k h. place_whole e (λ b. cond (is_bottom_band b) (negsuc 1) (negsuc 13)) in
    let ls : Long 4096 (λ k. replicate 4096 (negsuc 0)) = λ k h. length-replicate 4096 (negsuc 0) in
    record {
      coefficients = joined_long 4096 (λ k. deep e) lc;
      sign = joined_long 4096 (λ k. replicate 4096 (negsuc 0)) ls;
      numbers = no_zeros e;
      each = λ k h. rw (
        component_joined (λ k. deep e) lc k h,
        component_joined (λ k. replicate 4096 (negsuc 0)) ls k h,
        start (negsuc 7) k h,
        given_row (rows_at 3) (three_at 3) k h,
        given_row (rows_at 1) (three_at 1) k h,
        row_of_lem 3 k h,
        row_of_lem 1 k h,
      ) (component_darker e);
    }

-- the tiles and the list of passes, and what they reach
pub hypotheses_met_lem : HypothesesMet
unfolding last_rows loaded
hypotheses_met_lem = record {
  fresh_fits = fresh_fits;
  loaded_fits = loaded_fits;
  dark_fits = dark_fits;
  rows_met = rows;
  none_raised = none_raised;
  darker_reached = λ e. ((reachable_pictures_lem.exact (dark e) (dark_fits e) sharpening rows (none_raised e)).reached (darker e)).1 (darker_gained e);
}
  where
    rows : AllRows sharpening
    rows = AllRows.one (three_at 2) (AllRows.one (three_at 16) (AllRows.one (three_at 1) AllRows.none))
