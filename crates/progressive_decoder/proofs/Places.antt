-- The places of a band's signs in two lists: one place more, eight more, and how many and how large they are.
use mathlib.Core.Path.{◌≡◌, refl, sym, ap, ap₂, ◌∙◌, subst}
use mathlib.Core.Bool.{Bool, true, false, cond, not}
use mathlib.Core.List.{List, [], ◌∷◌, ◌++◌, map, append-nil}
use Prim.Native.Nat.{ℕ, zero, suc, ◌+◌, ◌-◌, ◌*◌, ◌≤◌, ◌<◌}
use native.Mathlib.Nat.{add-zero, le_refl}
use native.Mathlib.Numerals.{add-one}
use native.Mathlib.Omega.{arith}
use lib.IntN.{ℤ, pos}
use lib.ListN.{length, get_or, set, take}
use lib.Seq.{take-length, take-suc-set, take-set-le}
use Rattle.fixed.specs.Fixed.{is_zero}
use Rattle.places.specs.Inner.{places_of, mask_of, ones_of, Listed}
use Rattle.places.proofs.Ones.{places_suc, places_more, mask_not, ones_both}
use Rattle.places.proofs.Table.{listed_ones}
use Rattle.upgrade_steps.specs.Steps.{Step}
use Rattle.upgrade_steps.specs.Inner.{from_srl}
use Rattle.progressive_decoder.specs.Inner.{srl_places, raw_places, Split, PlacesWithin}

-- a place stored behind the n that are in counts if it has the property
stored : (f : ℤ → Bool) (ss : List ℤ) (i n z : ℕ) (l : List ℕ) → i < length ss → n < length l → take n l ≡ places_of f (take i ss)
    → z ≡ cond (f (get_or ss i (pos 0))) 1 0 → take (n + z) (set l n i) ≡ places_of f (take (i + 1) ss)
stored f ss i n z l h k e g =
    by (f (get_or ss i (pos 0))) g
    ∙ ap (λ (t : List ℕ). t ++ cond (f (get_or ss i (pos 0))) (i ∷ []) []) e
    ∙ sym (ap (λ (j : ℕ). places_of f (take j ss)) (add-one i) ∙ places_suc f (pos 0) ss i h)
  where
    by : (b : Bool) → z ≡ cond b 1 0 → take (n + z) (set l n i) ≡ take n l ++ cond b (i ∷ []) []
    by true q = rw (q, add-one n) (take-suc-set l n i k)
    by false q = rw (q, add-zero n) (take-set-le n l n i (le_refl n) ∙ sym (append-nil (take n l)))

pub split_none : (t : Step) (ss : List ℤ) (zeros others : List ℕ) → Split t ss 0 0 zeros others
unfolding places_of
split_none t ss zeros others = record { few = omega arith; srl = refl; raw = refl }

-- one place more
pub split_next : (t : Step) (ss : List ℤ) (i n z : ℕ) (zeros others : List ℕ) → i < length ss → i < length zeros → i < length others → z ≡ cond (from_srl t (get_or ss i (pos 0))) 1 0
    → Split t ss i n zeros others → Split t ss (i + 1) (n + z) (set zeros n i) (set others (i - n) i)
split_next t ss i n z zeros others h k l e p =
    record {
      few = omega (arith, low (from_srl t (get_or ss i (pos 0))) e, p.few);
      srl = stored (from_srl t) ss i n z zeros h (omega (arith, p.few)) p.srl e;
      raw =
          let m : i + 1 - (n + z) ≡ i - n + (1 - z) = omega (arith, low (from_srl t (get_or ss i (pos 0))) e, p.few) in
          ap (λ (j : ℕ). take j (set others (i - n) i)) m
          ∙ stored (λ s. not (from_srl t s)) ss i (i - n) (1 - z) others h (omega arith) p.raw (other (from_srl t (get_or ss i (pos 0))) e);
    }
  where
    low : (b : Bool) → z ≡ cond b 1 0 → z ≤ 1
    low true q = omega arith
    low false q = omega arith

    other : (b : Bool) → z ≡ cond b 1 0 → 1 - z ≡ cond (not b) 1 0
    other true q = omega arith
    other false q = omega arith

-- four signs
pub mask_four : (ss : List ℤ) (i a b c d : ℕ) → a ≡ cond (is_zero (get_or ss i (pos 0))) 1 0 → b ≡ cond (is_zero (get_or ss (i + 1) (pos 0))) 1 0 → c ≡ cond (is_zero (get_or ss (i + 2) (pos 0))) 1 0
    → d ≡ cond (is_zero (get_or ss (i + 3) (pos 0))) 1 0 → a + 2 * b + 4 * c + 8 * d ≡ mask_of is_zero (pos 0) ss i 4
unfolding mask_of
mask_four ss i a b c d e f g h =
    let at : ℕ → ℕ = λ j. cond (is_zero (get_or ss j (pos 0))) 1 0 in
    let i₁ : i + 1 ≡ suc i = omega arith in
    let i₂ : i + 2 ≡ suc (suc i) = omega arith in
    let i₃ : i + 3 ≡ suc (suc (suc i)) = omega arith in
    omega (arith, e, f ∙ ap at i₁, g ∙ ap at i₂, h ∙ ap at i₃)

-- eight places more, by the ones of a byte
listed : (f : ℤ → Bool) (ss : List ℤ) (i n r m : ℕ) (l l' : List ℕ) → i + 8 ≤ length ss → n + 8 ≤ length l → m ≡ mask_of f (pos 0) ss i 8 → Listed m i n r l l' → take n l ≡ places_of f (take i ss)
    → take r l' ≡ places_of f (take (i + 8) ss)
listed f ss i n r m l l' h o e p k =
    listed_ones m i n r l l' o p ∙ ap₂ (λ (a : List ℕ) (j : ℕ). a ++ map (λ p. i + p) (ones_of 8 j)) k e ∙ sym (places_more f (pos 0) ss 8 i h)

pub split_eight_lem : (t : Step) (ss : List ℤ) (i n r o m : ℕ) (zeros zeros' others others' : List ℕ) → t.bottom ≡ false → i + 8 ≤ length ss → i + 8 ≤ length zeros → i + 8 ≤ length others → m ≡ mask_of is_zero (pos 0) ss i 8
    → Listed m i n r zeros zeros' → Listed (255 - m) i (i - n) o others others' → Split t ss i n zeros others → Split t ss (i + 8) r zeros' others'
split_eight_lem t ss i n r o m zeros zeros' others others' b h z o' e p q s =
    let f = from_srl t in
    let g : ℤ → Bool = λ x. not (from_srl t x) in
    let e' : m ≡ mask_of f (pos 0) ss i 8 = e ∙ ap (λ (a : Bool). mask_of (λ x. cond a false (is_zero x)) (pos 0) ss i 8) (sym b) in
    let d : 255 - m ≡ mask_of g (pos 0) ss i 8 = omega (arith, e', mask_not f (pos 0) ss 8 i) in
    let both : length (ones_of 8 m) + length (ones_of 8 (255 - m)) ≡ 8 = ap₂ (λ (x y : ℕ). length (ones_of 8 x) + length (ones_of 8 y)) e' d ∙ ones_both f (pos 0) ss 8 i in
    let rest : i + 8 - r ≡ o = omega (arith, p.count, q.count, both, s.few) in
    record {
      few = omega (arith, p.count, both, s.few);
      srl = listed f ss i n r m zeros zeros' h (omega (arith, z, s.few)) e' p s.srl;
      raw = ap (λ (j : ℕ). take j others') rest ∙ listed g ss i (i - n) o (255 - m) others others' h (omega (arith, o', s.few)) d q s.raw;
    }

-- places lie within the signs
later : (l : List ℕ) (m j : ℕ) → j < length (map suc l) → ((j : ℕ) → j < length l → get_or l j 0 < m) → get_or (map suc l) j 0 < suc m
later [] m j h k = absurd (omega arith)
later (x ∷ l) m zero h k = omega (arith, k 0 (omega arith))
later (x ∷ l) m (suc j) h k = later l m j (omega arith) (λ j h. k (suc j) (omega arith))

place_within : (f : ℤ → Bool) (ss : List ℤ) (j : ℕ) → j < length (places_of f ss) → get_or (places_of f ss) j 0 < length ss
unfolding places_of
place_within f [] j h = absurd (omega arith)
place_within f (x ∷ ss) j h = by (f x) j h (place_within f ss)
  where
    by : (b : Bool) (j : ℕ) → j < length (cond b (0 ∷ map suc (places_of f ss)) (map suc (places_of f ss))) → ((j : ℕ) → j < length (places_of f ss) → get_or (places_of f ss) j 0 < length ss)
        → get_or (cond b (0 ∷ map suc (places_of f ss)) (map suc (places_of f ss))) j 0 < suc (length ss)
    by true zero h k = omega arith
    by true (suc j) h k = later (places_of f ss) (length ss) j (omega arith) k
    by false j h k = later (places_of f ss) (length ss) j h k

-- all places: the two lists, and that they lie within the signs
pub split_whole : (t : Step) (ss : List ℤ) (n : ℕ) (zeros others : List ℕ) → Split t ss (length ss) n zeros others → (take n zeros ≡ srl_places t ss) × (take (length ss - n) others ≡ raw_places t ss)
split_whole t ss n zeros others p = (p.srl ∙ ap (srl_places t) (take-length ss), p.raw ∙ ap (raw_places t) (take-length ss))

pub list_within : (f : ℤ → Bool) (ss : List ℤ) {l : List ℕ} → l ≡ places_of f ss → PlacesWithin l (length ss)
list_within f ss e = subst (λ (l : List ℕ). PlacesWithin l (length ss)) (sym e) (place_within f ss)
