-- The numbers of zero signs along passes: they fall by the signs that are set.
use mathlib.Core.Path.{◌≡◌, refl, sym, ap, ap₂, ◌∙◌}
use mathlib.Core.Logic.{◌≢◌}
use mathlib.Core.Bool.{Bool, true, false, true≢false, cond, not, ◌&&◌}
use mathlib.Core.List.{List, [], ◌∷◌, map}
use Prim.Native.Nat.{ℕ, suc, ◌+◌, ◌-◌, min, ◌≤◌, ◌<◌}
use native.Mathlib.Decide.{dec_lt}
use native.Mathlib.Omega.{arith}
use lib.Dec.{T, eqb→eq}
use lib.IntN.{ℤ, pos}
use lib.ListN.{length, get_or, take, replicate, length-replicate, get_or-replicate, get_or-eq_default, length-take, length-drop}
use lib.Seq.{slice, slice_empty, get_or-take, get_or-drop, take_all}
use Rattle.fixed.specs.Fixed.{is_zero}
use Rattle.bands.specs.Bands.{layout, count_of, band_at, bands_of, is_bottom_band}
use Rattle.bands.proofs.Spread.{bands_whole}
use Rattle.bands.specs.Positions.{every, row_in_domain, rows_in_domain}
use Rattle.bands.specs.declared.BandInfo.{BandInfo}
use Rattle.bands.proofs.Laid.{laid, layout_laid, first, rest, ordered}
use Rattle.std.specs.Prelude.{Option, None, Some}
use Rattle.answer.specs.Answers.{unless, unless_refused}
use Rattle.answer.specs.declared.Refusal.{Refusal}
use Rattle.answer.specs.declared.Refusal.TheVariants.{OutOfDomain}
use Rattle.answer.proofs.Refusing.{some_not_none}
use Rattle.planes.specs.Planes.{component, row_of, joined, of, taken}
use Rattle.planes.proofs.Joined.{row_joined, parts_long}
use Rattle.zero_signs.specs.ZeroSigns.{zeros_in, signs_in, band_zeros, zero_signs_of}
use Rattle.bands.proofs.Places.{same_is}
use Rattle.zero_signs.proofs.Counted.{zeros_parts, ten_numbers, number_at_lem, uniform_tile}
use Rattle.tile.specs.Tile.{fresh, loaded, upgraded, upgrade_refusal}
use Rattle.tile.specs.declared.TileState.{TileState}
use Rattle.tile.proofs.Accepted.{numbers_right}
use Rattle.reach.specs.Reach.{TileFits, Pass, Call, after_call, answers_to, answers_by, passes_of, AllRows, rows_then, last_rows, NoRaise, picture_of, TileGains}
use Rattle.reach.specs.Place.{Gains}
use Rattle.reach.specs.Component.{ComponentGains}
use Rattle.reach.specs.Corollaries.{rows_at}
use Rattle.reach.specs.Undecided.{number_at, total, set_in, Falls, blank, all_bits_of, is_not_eight, TrueZeros, UndecidedFalls}
use Rattle.reach.proofs.Signs.{KeptAt, KeptIn, upgraded_kept}
use Rattle.reach.proofs.AnyList.{Right, answers, reachable_pictures_lem}
use Rattle.reach.proofs.Tiles.{given_row, joined_path}
use Rattle.reach.proofs.Instances.{thirds, zero_place, same_position, inside, three_at, row_of_lem, whole_part, start, lower_at, all_over_fits}

-- ════ signs that are kept or set ════

-- no sign that is not 0 is lost
abbrev Kept : List ℤ → List ℤ → Type 0
Kept old new = (i : ℕ) → KeptAt old new i

-- then the zeros fall by the signs that are set
zeros_fall : (old new : List ℤ) → length new ≡ length old → Kept old new → zeros_in old ≡ zeros_in new + set_in old new
unfolding zeros_in set_in is_zero
zeros_fall [] [] e k = omega arith
zeros_fall [] (s' ∷ new) e k = absurd (omega (arith, e))
zeros_fall (s ∷ old) [] e k = absurd (omega (arith, e))
zeros_fall (s ∷ old) (s' ∷ new) e k = by (is_zero s) (is_zero s') refl refl (zeros_fall old new (omega (arith, e)) (λ i. k (suc i)))
  where
    by : (b b' : Bool) → is_zero s ≡ b → is_zero s' ≡ b' → zeros_in old ≡ zeros_in new + set_in old new
        → cond b 1 0 + zeros_in old ≡ cond b' 1 0 + zeros_in new + (cond (b && not b') 1 0 + set_in old new)
    by true true z z' h = omega (arith, h)
    by true false z z' h = omega (arith, h)
    by false true z z' h = absurd (true≢false (sym z' ∙ ap is_zero (k 0 (λ d. true≢false (sym (ap is_zero d) ∙ z))) ∙ z))
    by false false z z' h = omega (arith, h)

-- in a part too
part_kept : (old new : List ℤ) (f t : ℕ) → Kept old new → Kept (slice f t old) (slice f t new)
part_kept old new f t k i = by (dec_lt (f + i) t)
  where
    at : (l : List ℤ) → f + i < t → get_or (slice f t l) i (pos 0) ≡ get_or l (f + i) (pos 0)
    at l h = get_or-drop f (take t l) i (pos 0) ∙ get_or-take t l (f + i) (pos 0) h

    past : (l : List ℤ) → t ≤ f + i → get_or (slice f t l) i (pos 0) ≡ pos 0
    past l h = get_or-drop f (take t l) i (pos 0) ∙ get_or-eq_default (take t l) (pos 0) {n = f + i} (omega (arith, length-take t l))

    by : Dec (f + i < t) → get_or (slice f t old) i (pos 0) ≢ pos 0 → get_or (slice f t new) i (pos 0) ≡ get_or (slice f t old) i (pos 0)
    by (yes h) n = at new h ∙ k (f + i) (λ e. n (at old h ∙ e)) ∙ sym (at old h)
    by (no h) n = absurd (n (past old (omega arith)))

-- as long as before
part_long : (old new : List ℤ) (f t : ℕ) → length new ≡ length old → length (slice f t new) ≡ length (slice f t old)
part_long old new f t e = length-drop f (take t new) ∙ ap (λ (n : ℕ). n - f) (length-take t new ∙ ap (min t) e ∙ sym (length-take t old)) ∙ sym (length-drop f (take t old))

-- ════ the numbers of a component, added up ════

-- bands that lie one after another have the zeros between them
sum_laid : (ss : List ℤ) (at : ℕ) (l : List BandInfo) (end : ℕ) → T (laid at l end) → end ≤ length ss → total (map (λ i. zeros_in (signs_in i ss)) l) ≡ zeros_in (slice at end ss)
unfolding zeros_in
sum_laid ss at [] end t h = sym (ap (λ (n : ℕ). zeros_in (slice n end ss)) (eqb→eq at end t) ∙ ap zeros_in (slice_empty end ss))
sum_laid ss at (i ∷ is) end t h =
    let others = rest i is at end t in
    let next = at + count_of i in
    ap₂ (λ (f n : ℕ). zeros_in (slice f (f + count_of i) ss) + n) (first i is at end t) (sum_laid ss next is end others h)
    ∙ sym (zeros_parts ss at end next (omega arith) (ordered next is end others) h)

sum_whole : (e : Bool) (ss : List ℤ) → length ss ≡ 4096 → total (band_zeros e ss) ≡ zeros_in ss
sum_whole e ss h = sum_laid ss 0 (layout e) 4096 (layout_laid e) (omega (arith, h)) ∙ ap zeros_in (take_all 4096 ss (omega (arith, h)))

-- ════ an accepted pass ════

-- the row of a component among right numbers
right_row : (t : TileState) → Right t → (k : ℕ) → k < 3 → row_of k t.zero_signs ≡ band_zeros t.use_reduce_extrapolate (component k t.sign)
unfolding zero_signs_of
right_row t r k h =
    let e = t.use_reduce_extrapolate in
    ap (row_of k) r ∙ row_joined (λ k. band_zeros e (component k t.sign)) (λ k _. ten_numbers e (component k t.sign)) k h

module _ (t u : TileState) (same : u.use_reduce_extrapolate ≡ t.use_reduce_extrapolate) (rt : Right t) (ru : Right u) (long : length t.sign ≡ 12288) (kept : KeptIn t u) where
  e : Bool
  e = t.use_reduce_extrapolate

  row_u : (k : ℕ) → k < 3 → row_of k u.zero_signs ≡ band_zeros e (component k u.sign)
  unfolding e
  row_u k h = right_row u ru k h ∙ ap (λ (e : Bool). band_zeros e (component k u.sign)) same

  long_t : (k : ℕ) → k < 3 → length (component k t.sign) ≡ 4096
  long_t = parts_long 4096 t.sign long

  long_u : (k : ℕ) → k < 3 → length (component k u.sign) ≡ 4096
  long_u = parts_long 4096 u.sign kept.long

  -- a number of each tile
  number_t : (k b : ℕ) → k < 3 → number_at t k b ≡ zeros_in (signs_in (band_at e b) (component k t.sign))
  unfolding e
  number_t k b h = ap (λ (l : List ℕ). get_or l b 0) (right_row t rt k h) ∙ number_at_lem e (component k t.sign) b

  number_u : (k b : ℕ) → k < 3 → number_at u k b ≡ zeros_in (signs_in (band_at e b) (component k u.sign))
  number_u k b h = ap (λ (l : List ℕ). get_or l b 0) (row_u k h) ∙ number_at_lem e (component k u.sign) b

  fall_of : (k b : ℕ) → k < 3 → number_at t k b ≡ number_at u k b + set_in (signs_in (band_at e b) (component k t.sign)) (signs_in (band_at e b) (component k u.sign))
  fall_of k b h =
      let i = band_at e b in
      let old = component k t.sign in
      let new = component k u.sign in
      number_t k b h
      ∙ zeros_fall (signs_in i old) (signs_in i new) (part_long old new i.offset (i.offset + count_of i) (long_u k h ∙ sym (long_t k h))) (part_kept old new i.offset (i.offset + count_of i) (λ j. kept.kept k j h))
      ∙ ap (λ (n : ℕ). n + set_in (signs_in i old) (signs_in i new)) (sym (number_u k b h))

  falls : Falls t u
  unfolding e
  falls = record {
    band = λ k b h l. fall_of k b h;
    not_raised = λ k b h l. omega (arith, fall_of k b h);
    sum = λ k h.
        ap total (right_row t rt k h) ∙ sum_whole e (component k t.sign) (long_t k h)
        ∙ zeros_fall (component k t.sign) (component k u.sign) (long_u k h ∙ sym (long_t k h)) (λ j. kept.kept k j h)
        ∙ ap (λ (n : ℕ). n + set_in (component k t.sign) (component k u.sign)) (sym (ap total (row_u k h) ∙ sum_whole e (component k u.sign) (long_u k h)));
  }

upgraded_falls : (t : TileState) → length t.sign ≡ 12288 → (k : Call) → upgrade_refusal t k.pass.rows ≡ None → Falls t (upgraded t k.srl_data k.raw_data k.pass.rows k.pass.quality)
unfolding upgraded
upgraded_falls t long k a =
    let u = upgraded t k.srl_data k.raw_data k.pass.rows k.pass.quality in
    falls t u (upgraded_layout t k) (same_is _ _ (numbers_right t k.pass.rows a)) (upgraded_right t k) long (upgraded_kept t long k.srl_data k.raw_data k.pass.rows k.pass.quality)
  where
    upgraded_layout : (t : TileState) (k : Call) → (upgraded t k.srl_data k.raw_data k.pass.rows k.pass.quality).use_reduce_extrapolate ≡ t.use_reduce_extrapolate
    upgraded_layout t k = refl

    upgraded_right : (t : TileState) (k : Call) → Right (upgraded t k.srl_data k.raw_data k.pass.rows k.pass.quality)
    upgraded_right t k = refl

call_falls : (t : TileState) → length t.sign ≡ 12288 → (k : Call) → upgrade_refusal t k.pass.rows ≡ None → Falls t (after_call t k)
call_falls t long k a = by (upgrade_refusal t k.pass.rows) a
  where
    by : (n : Option Refusal) → n ≡ None → Falls t (unless_refused n (upgraded t k.srl_data k.raw_data k.pass.rows k.pass.quality) t)
    by None d = upgraded_falls t long k a
    by (Some n) d = absurd (some_not_none d)

-- ════ no refusal 8 ════

-- the rows alone give 2 or none
not_eight : (low : Bool) → is_not_eight (unless low OutOfDomain) ≡ true
not_eight true = refl
not_eight false = refl

rows_not_eight : (quants positions : List ℕ) (os : List Pass) → every is_not_eight (answers_by quants positions os) ≡ true
unfolding answers_by
rows_not_eight quants positions [] = refl
rows_not_eight quants positions (o ∷ os) =
    ap₂ (λ (x y : Bool). x && y) (not_eight (rows_in_domain o.rows && (row_in_domain positions && row_in_domain quants))) (rows_not_eight quants (rows_then quants positions o) os)

never_eight : (t : TileState) → TileFits t → (ks : List Call) → every is_not_eight (answers_to t ks) ≡ true
never_eight t f ks = ap (every is_not_eight) (answers ks t f.numbers) ∙ rows_not_eight t.base_quant t.prog_quant (passes_of ks)

-- ════ every sign 0 ════

all_zeros : (e : Bool) → zero_signs_of e (joined (λ k. replicate 4096 (pos 0))) ≡ joined (λ k. map count_of (layout e))
unfolding is_zero
all_zeros e = uniform_tile e (pos 0)

fresh_numbers : fresh.zero_signs ≡ joined (λ k. map count_of (layout false))
unfolding fresh
fresh_numbers = ap (zero_signs_of false) (thirds (pos 0)) ∙ all_zeros false

-- a zero stays one
zero_stays : (b : Bool) → Gains b 3 0 (record { coefficient = pos 0; sign = pos 0 }) (record { coefficient = pos 0; sign = pos 0 })
zero_stays true = record { fits = zero_place 0 (omega arith) true; kept = refl; added = 0; more = refl; less = omega arith }
zero_stays false = record { fits = zero_place 0 (omega arith) false; kept = λ h. refl; added = 0; more = refl; less = omega arith }

zeros_stay : (e : Bool) → ComponentGains (bands_of e) (replicate 10 3) (replicate 10 0) (replicate 4096 (pos 0)) (replicate 4096 (pos 0)) (replicate 4096 (pos 0)) (replicate 4096 (pos 0))
zeros_stay e =
    let long = length-replicate 4096 (pos 0) ∙ sym (bands_whole e) in
    record {
      coefficients = long;
      signs = long;
      each = λ i h. rw (same_position e 3 i, same_position e 0 i, get_or-replicate 4096 i (pos 0) (pos 0) (inside e i h)) (zero_stays (is_bottom_band (get_or (bands_of e) i 0)));
    }

blank_fits : (e : Bool) → TileFits (blank e)
blank_fits = all_over_fits (pos 0) (pos 0) (zero_place 3 (omega arith))

blank_stays : (e : Bool) → TileGains (blank e) (joined (of (rows_at 0))) (picture_of (blank e))
unfolding loaded
blank_stays e =
    let f = blank_fits e in
    record {
      coefficients = f.coefficients;
      sign = f.sign;
      numbers = f.numbers;
      each = λ k h. rw (start (pos 0) k h, given_row (rows_at 3) (three_at 3) k h, given_row (rows_at 0) (three_at 0) k h, row_of_lem 3 k h, row_of_lem 0 k h) (zeros_stay e);
    }

true_zeros : (e : Bool) → TrueZeros e
unfolding last_rows NoRaise loaded
true_zeros e = record {
  fits = blank_fits e;
  positions = refl;
  reached = ((reachable_pictures_lem.exact (blank e) (blank_fits e) all_bits_of (AllRows.one (three_at 0) AllRows.none) ((λ a. lower_at 3 0 (omega arith)), tt)).reached (picture_of (blank e))).1 (blank_stays e);
  numbers = ap (zero_signs_of e) parts ∙ all_zeros e;
}
  where
    parts : taken (replicate 3 (replicate 4096 (pos 0))) ≡ joined (λ k. replicate 4096 (pos 0))
    parts = joined_path (λ k. take 4096 (of (replicate 3 (replicate 4096 (pos 0))) k)) (λ k. replicate 4096 (pos 0)) (whole_part (pos 0))

-- the theorem
pub undecided_falls_lem : UndecidedFalls
undecided_falls_lem = record { falls = call_falls; never_eight = never_eight; fresh_numbers = fresh_numbers; true_zeros = true_zeros }
