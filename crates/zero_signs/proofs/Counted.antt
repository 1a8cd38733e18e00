-- Zeros counted: one more, and a part by parts. The numbers of a tile's bands.
use mathlib.Core.Path.{◌≡◌, refl, sym, ap, ap₂, ◌∙◌}
use mathlib.Core.Bool.{Bool, true, false, cond, ◌&&◌}
use mathlib.Core.List.{List, [], ◌∷◌, ◌++◌, map}
use Prim.Native.Nat.{ℕ, zero, suc, ◌+◌, ◌≤◌, ◌<◌}
use native.Mathlib.Nat.{le_of_suc-le-suc, zero-add, suc-add}
use native.Mathlib.Numerals.{add-one}
use native.Mathlib.Omega.{arith}
use borrow.Author.Tests.{eq-eqb}
use borrow.Rule.Slice.PartMut.{put_mid}
use lib.Dec.{eqb}
use lib.Pointwise.{pointwise}
use lib.IntN.{ℤ, pos}
use lib.ListN.{length, get_or, take, drop, replicate, length-replicate, take-append-drop, length-map, get_or-map}
use lib.Seq.{slice, drop-cons, take-take, length-take-le, drop-append-le, ext_get_or}
use Rattle.bands.specs.Bands.{layout, count_of, band_at, none}
use Rattle.bands.specs.declared.BandInfo.{BandInfo}
use Rattle.bands.proofs.Laid.{ten_bands, band_within}
use Rattle.planes.specs.Planes.{component, joined}
use Rattle.planes.proofs.Joined.{put_all, component_joined}
use Rattle.fixed.specs.Fixed.{is_zero}
use Rattle.zero_signs.specs.ZeroSigns.{zeros_in, signs_in, band_zeros, zero_signs_of}
use Rattle.bands.specs.Tables.{are_same}

-- ════ zeros among some signs ════

pub zeros_append : (a b : List ℤ) → zeros_in (a ++ b) ≡ zeros_in a + zeros_in b
unfolding zeros_in
zeros_append [] b = omega arith
zeros_append (s ∷ a) b = omega (arith, zeros_append a b)

-- by what the first that is left is
pub zeros_next : (l : List ℤ) (i : ℕ) (b : Bool) → is_zero (get_or l i (pos 0)) ≡ b → i < length l → zeros_in (drop i l) ≡ cond b 1 0 + zeros_in (drop (i + 1) l)
unfolding zeros_in
zeros_next l i b e h = rw (add-one i, drop-cons l i (pos 0) h, e) refl

module _ (l : List ℤ) (f t : ℕ) where
  -- a part by two
  pub zeros_parts : (m : ℕ) → f ≤ m → m ≤ t → t ≤ length l → zeros_in (slice f t l) ≡ zeros_in (slice f m l) + zeros_in (slice m t l)
  zeros_parts m h k n =
      let first : take m (take t l) ≡ take m l = take-take m t l k in
      ap (λ (x : List ℤ). zeros_in (drop f x)) (sym (take-append-drop m (take t l)) ∙ ap (λ (x : List ℤ). x ++ drop m (take t l)) first)
      ∙ ap zeros_in (drop-append-le f (take m l) (drop m (take t l)) (omega (arith, length-take-le m l (omega arith))))
      ∙ zeros_append (slice f m l) (slice m t l)

-- ════ the same numbers ════

-- as the library compares
pub pointwise_same : (a b : List ℕ) → pointwise eqb a b ≡ are_same a b
pointwise_same [] [] = refl
pointwise_same [] (n ∷ b) = refl
pointwise_same (m ∷ a) [] = refl
pointwise_same (m ∷ a) (n ∷ b) = ap (λ (t : Bool). eqb m n && t) (pointwise_same a b)

-- a list has the same numbers as itself
pub same_refl : (l : List ℕ) → are_same l l ≡ true
same_refl [] = refl
same_refl (n ∷ l) = rw (eq-eqb n n refl) (same_refl l)

-- ════ the numbers of a component ════

pub ten_numbers : (e : Bool) (ss : List ℤ) → length (band_zeros e ss) ≡ 10
ten_numbers e ss = length-map (layout e) _ ∙ ten_bands e

-- that of a band; past the tenth there is none
pub number_at_lem : (e : Bool) (ss : List ℤ) (b : ℕ) → get_or (band_zeros e ss) b 0 ≡ zeros_in (signs_in (band_at e b) ss)
unfolding zeros_in
number_at_lem e ss b = get_or-map (λ (i : BandInfo). zeros_in (signs_in i ss)) (layout e) b none

-- ════ the same sign everywhere ════

take_replicate : {A : Type 0} (m n : ℕ) (x : A) → m ≤ n → take m (replicate n x) ≡ replicate m x
take_replicate zero n x h = refl
take_replicate (suc m) zero x h = absurd (omega arith)
take_replicate {A} (suc m) (suc n) x h = ap (λ (l : List A). x ∷ l) (take_replicate m n x (le_of_suc-le-suc h))

drop_replicate : {A : Type 0} (m n : ℕ) (x : A) → drop m (replicate (m + n) x) ≡ replicate n x
drop_replicate zero n x = ap (λ (k : ℕ). replicate k x) (zero-add n)
drop_replicate (suc m) n x = ap (λ (k : ℕ). drop (suc m) (replicate k x)) (suc-add m n) ∙ drop_replicate m n x

either_none : (b : Bool) → ◌≡◌ {A = ℕ} 0 (cond b 0 0)
either_none true = refl
either_none false = refl

zeros_replicate : (n : ℕ) (s : ℤ) → zeros_in (replicate n s) ≡ cond (is_zero s) n 0
unfolding zeros_in
zeros_replicate zero s = either_none (is_zero s)
zeros_replicate (suc n) s = by (is_zero s) (zeros_replicate n s)
  where
    by : (b : Bool) → zeros_in (replicate n s) ≡ cond b n 0 → cond b 1 0 + zeros_in (replicate n s) ≡ cond b (suc n) 0
    by true e = omega (arith, e)
    by false e = omega (arith, e)

-- every sign of a band is 0, or none
pub uniform : (e : Bool) (s : ℤ) → band_zeros e (replicate 4096 s) ≡ map (λ i. cond (is_zero s) (count_of i) 0) (layout e)
uniform e s = ext_get_or 0 (band_zeros e (replicate 4096 s)) (map (λ i. cond (is_zero s) (count_of i) 0) (layout e)) (length-map (layout e) _ ∙ sym (length-map (layout e) _))
    (λ b h. number_at_lem e (replicate 4096 s) b ∙ one (band_at e b) (band_within e b) ∙ sym (by b))
  where
    one : (i : BandInfo) → i.offset + count_of i ≤ 4096 → zeros_in (signs_in i (replicate 4096 s)) ≡ cond (is_zero s) (count_of i) 0
    one i h = ap (λ (l : List ℤ). zeros_in (drop i.offset l)) (take_replicate (i.offset + count_of i) 4096 s h) ∙ ap zeros_in (drop_replicate i.offset (count_of i) s) ∙ zeros_replicate (count_of i) s

    by : (b : ℕ) → get_or (map (λ i. cond (is_zero s) (count_of i) 0) (layout e)) b 0 ≡ cond (is_zero s) (count_of (band_at e b)) 0
    by b = ap (λ (d : ℕ). get_or (map (λ i. cond (is_zero s) (count_of i) 0) (layout e)) b d) (either_none (is_zero s)) ∙ get_or-map (λ (i : BandInfo). cond (is_zero s) (count_of i) 0) (layout e) b none

-- ════ the numbers of a tile ════

-- each row where it lies, by the components as parts of the whole
pub three_rows : (e : Bool) (ss : List ℤ) (into : List ℕ) → length into ≡ 30 → {a b c : List ℕ}
    → a ≡ band_zeros e (component 0 ss) → b ≡ band_zeros e (component 1 ss) → c ≡ band_zeros e (component 2 ss)
    → put_mid 20 10 (put_mid 10 10 (put_mid 0 10 into a) b) c ≡ zero_signs_of e ss
unfolding zero_signs_of
three_rows e ss into h p q r = put_all 10 (λ k. band_zeros e (component k ss)) (λ k _. ten_numbers e (component k ss)) into h p q r

-- the same sign everywhere
pub uniform_tile : (e : Bool) (s : ℤ) → zero_signs_of e (joined (λ k. replicate 4096 s)) ≡ joined (λ k. map (λ i. cond (is_zero s) (count_of i) 0) (layout e))
unfolding zero_signs_of
uniform_tile e s = ap₂ (λ (x y : List ℕ). x ++ y) (row 0 (omega arith)) (ap₂ (λ (x y : List ℕ). x ++ y) (row 1 (omega arith)) (row 2 (omega arith)))
  where
    row : (k : ℕ) → k < 3 → band_zeros e (component k (joined (λ k. replicate 4096 s))) ≡ map (λ i. cond (is_zero s) (count_of i) 0) (layout e)
    row k h = ap (band_zeros e) (component_joined (λ k. replicate 4096 s) (λ k h. length-replicate 4096 s) k h) ∙ uniform e s
