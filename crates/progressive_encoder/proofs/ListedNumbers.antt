-- Laws of listing the numbers for the raw stream: one place, places one after another, places that give none. Assumes nothing.
use mathlib.Core.Path.{◌≡◌, refl, ap, sym, ◌∙◌, subst}
use mathlib.Core.Bool.{Bool, true, false, cond}
use mathlib.Core.List.{List, [], ◌∷◌, ◌++◌, append_assoc, append-nil}
use Prim.Native.Nat.{ℕ, zero, suc, ◌+◌, ◌*◌, ◌/◌, ◌%◌, ◌^◌, ◌≤◌, ◌<◌}
use native.Mathlib.Nat.{add-zero}
use native.Mathlib.Omega.{arith}
use lib.IntN.{ℤ, pos}
use lib.ListN.{length, get_or, set, take}
use Rattle.bits.specs.Written.{bits_of, bits_of_all}
use Rattle.bits.proofs.Puts.{bits_mod}
use Rattle.bits.proofs.Powers.{low_small}
use Rattle.fixed.specs.Fixed.{is_zero}
use Rattle.fixed.proofs.Cuts.{rest_small}
use Rattle.upgrade_steps.specs.Steps.{Step}
use Rattle.upgrade_steps.specs.Inner.{from_srl}
use Rattle.progressive_encoder.specs.Encode.{Rule}
use Rattle.progressive_encoder.specs.Inner.{Lists, place_lists, band_lists, Part, GoesOver, number_of, number_width_of, number_bits, Words, words_of, raw_then, ListsNumbers, NumberWord, Each, FewWords, class_of, Classed, Numbered, TakesNumbers}
use Rattle.progressive_encoder.proofs.Held.{behind_others, none_behind, each_append}
use Rattle.progressive_encoder.proofs.Placewise.{Placewise, chain, place_srl, place_raw, band_begins, band_goes_on}

-- what is listed of some places and then of others is listed of both
pub numbers_placewise : Placewise ListsNumbers
numbers_placewise = record {
  none = λ x. record { bits = λ ns ms. refl };
  then = λ a b x y z p q. record { bits = chain raw_then a.number_widths b.number_widths a.numbers b.numbers x y z p.bits q.bits };
}

-- the bits of words one after another
pub bits_words : (a b : List ℕ) → number_bits (a ++ b) ≡ number_bits a ++ number_bits b
unfolding number_bits
bits_words [] b = refl
bits_words (x ∷ a) b = ap (λ (l : List Bool). bits_of (number_width_of x) (number_of x) ++ l) (bits_words a b) ∙ sym (append_assoc (bits_of (number_width_of x) (number_of x)) (number_bits a) (number_bits b))

-- ════ one place ════

-- the bits of a word: the low ones of its number
word_bits : (w m v : ℕ) → m % 2 ^ w < 65536 → v ≡ m % 2 ^ w + 65536 * w → bits_of (number_width_of v) (number_of v) ≡ bits_of w m
word_bits w m v h e =
    let a : v / 65536 ≡ w = omega (arith, e, h) in
    let b : v % 65536 ≡ m % 2 ^ w = omega (arith, e, h) in
    (λ i. bits_of (a i) (b i)) ∙ bits_mod w m

module _ (r : Rule) (t : Step) (c p s : ℤ) (h : 1 ≤ t.width) (k : t.width ≤ 15) (raws : List ℕ) (n v : ℕ) (room : n < length raws) (e : v ≡ r.number t.bottom t.position c p % 2 ^ t.width + 65536 * t.width) where
  -- the word stands for the number, where the place gives one
  place_given : from_srl t s ≡ false → ListsNumbers (place_lists r t c p s) (words_of raws n) (words_of (set raws n v) (n + 1))
  unfolding number_bits bits_of_all
  place_given f =
      let m = r.number t.bottom t.position c p in
      let w = t.width in
      let one : number_bits (v ∷ []) ≡ bits_of w m = append-nil (bits_of (number_width_of v) (number_of v)) ∙ word_bits w m v (low_small m w 16 (omega arith)) e in
      subst (λ (l : Lists). ListsNumbers l (words_of raws n) (words_of (set raws n v) (n + 1))) (sym (place_raw r t c p s h f))
      (record {
        bits = λ ns ms.
            sym (append_assoc (number_bits (take n raws)) (bits_of w m) (bits_of_all ns ms))
            ∙ ap (λ (l : List Bool). (number_bits (take n raws) ++ l) ++ bits_of_all ns ms) (sym one)
            ∙ ap (λ (l : List Bool). l ++ bits_of_all ns ms) (sym (ap number_bits (behind_others raws n v room) ∙ bits_words (take n raws) (v ∷ [])));
      })

  -- and is overwritten, where it gives none
  place_none : from_srl t s ≡ true → ListsNumbers (place_lists r t c p s) (words_of raws n) (words_of (set raws n v) (n + 0))
  place_none f =
      subst (λ (l : Lists). ListsNumbers l (words_of raws n) (words_of (set raws n v) (n + 0))) (sym (place_srl r t c p s h f))
      (record { bits = λ ns ms. ap (λ (l : List ℕ). number_bits l ++ bits_of_all ns ms) (sym (none_behind raws n v)) })

  -- by its class: of class 1 it counts
  pub place_number : (d : ℕ) → d ≡ class_of r t c p s % 2 → GoesOver ListsNumbers FewWords (place_lists r t c p s) 1 (words_of raws n) (words_of (set raws n v) (n + d))
  place_number d = by (from_srl t s) refl (is_zero (r.value t.position c p))
    where
      word : NumberWord v
      word =
          let m = r.number t.bottom t.position c p in
          let small : m % 2 ^ t.width < 65536 = low_small m t.width 16 (omega arith) in
          let w : v / 65536 ≡ t.width = omega (arith, e, small) in
          let low : v % 65536 ≡ m % 2 ^ t.width = omega (arith, e, small) in
          record { small = subst (λ (j : ℕ). v % 65536 < 2 ^ j) (sym w) (omega (arith, low, rest_small t.width m)); narrow = omega (arith, w, k) }

      none : from_srl t s ≡ true → d ≡ 0 → GoesOver ListsNumbers FewWords (place_lists r t c p s) 1 (words_of raws n) (words_of (set raws n v) (n + d))
      none f g =
          subst (λ (j : ℕ). GoesOver ListsNumbers FewWords (place_lists r t c p s) 1 (words_of raws n) (words_of (set raws n v) (n + j))) (sym g)
          (record { over = place_none f; bound = λ i b. record { few = omega (arith, b.few); all = subst (Each NumberWord) (sym (none_behind raws n v)) b.all } })

      by : (b : Bool) → from_srl t s ≡ b → (z : Bool) → d ≡ cond b (cond z 0 2) 1 % 2 → GoesOver ListsNumbers FewWords (place_lists r t c p s) 1 (words_of raws n) (words_of (set raws n v) (n + d))
      by true f true g = none f g
      by true f false g = none f g
      by false f z g =
          subst (λ (j : ℕ). GoesOver ListsNumbers FewWords (place_lists r t c p s) 1 (words_of raws n) (words_of (set raws n v) (n + j))) (sym g)
          (record {
            over = place_given f;
            bound = λ i b. record { few = omega (arith, b.few); all = subst (Each NumberWord) (sym (behind_others raws n v room)) (each_append b.all (Each.one word Each.none)) };
          })

-- ════ places one after another ════

-- none
pub takes_none : (t : Step) (ks ns : List ℕ) (i : ℕ) (x : Words) → TakesNumbers t ks ns i i x x
takes_none t ks ns i x = record { over = λ r cs ps ss h l k m. record { on = λ y g. g }; few = omega arith }

-- one more
pub takes_next : (t : Step) (ks ns : List ℕ) (from i : ℕ) (x : Words) (raws : List ℕ) (n v d : ℕ) → from ≤ i → 1 ≤ t.width → t.width ≤ 15 → n < length raws → v ≡ get_or ns i 0 + 65536 * t.width → d ≡ get_or ks i 0 % 2
    → TakesNumbers t ks ns from i x (words_of raws n) → TakesNumbers t ks ns from (i + 1) x (words_of (set raws n v) (n + d))
takes_next t ks ns from i x raws n v d o h k room e f g = record {
  over = λ r cs ps ss part l classed numbered.
      let c = get_or cs i (pos 0) in
      let p = get_or ps i (pos 0) in
      let s = get_or ss i (pos 0) in
      record {
        on = λ y before.
            band_goes_on r ListsNumbers numbers_placewise FewWords cs ps ss t part i (omega (arith, l)) y (words_of raws n) _
            ((g.over r cs ps ss part (omega (arith, l)) classed numbered).on y before) refl refl refl
            (place_number r t c p s h k raws n v room (e ∙ ap (λ (m : ℕ). m + 65536 * t.width) (numbered i (omega (arith, l)))) d (f ∙ ap (λ (m : ℕ). m % 2) (classed i (omega (arith, l)))));
      };
  few = omega (arith, g.few, f);
}

-- some, and then others
pub takes_then : (t : Step) (ks ns : List ℕ) (from mid to : ℕ) (x y z : Words) → from ≤ mid → mid ≤ to → TakesNumbers t ks ns from mid x y → TakesNumbers t ks ns mid to y z → TakesNumbers t ks ns from to x z
takes_then t ks ns from mid to x y z h k f g = record {
  over = λ r cs ps ss part l classed numbered. record {
    on = λ w before. (g.over r cs ps ss part l classed numbered).on w ((f.over r cs ps ss part (omega (arith, l)) classed numbered).on w before);
  };
  few = omega (arith, f.few, g.few);
}

-- a place of class 0 has an SRL value
class_none : (r : Rule) (t : Step) (c p s : ℤ) → class_of r t c p s ≡ 0 → from_srl t s ≡ true
class_none r t c p s = by (from_srl t s) (is_zero (r.value t.position c p))
  where
    by : (b z : Bool) → ◌≡◌ {A = ℕ} (cond b (cond z 0 2) 1) 0 → b ≡ true
    by true z e = refl
    by false z e = absurd (omega (arith, e))

-- so it has no number
place_zero : (r : Rule) (t : Step) (c p s : ℤ) → 1 ≤ t.width → class_of r t c p s ≡ 0 → (x : Words) → GoesOver ListsNumbers FewWords (place_lists r t c p s) 1 x x
place_zero r t c p s h e x = record {
  over = subst (λ (l : Lists). ListsNumbers l x x) (sym (place_srl r t c p s h (class_none r t c p s e))) (record { bits = λ ns ms. refl });
  bound = λ n b. record { few = omega (arith, b.few); all = b.all };
}

-- m places of class 0
pub takes_zeros : (t : Step) (ks ns : List ℕ) (i m : ℕ) (x : Words) → 1 ≤ t.width → ((k : ℕ) → k < m → get_or ks (i + k) 0 ≡ 0) → TakesNumbers t ks ns i (i + m) x x
takes_zeros t ks ns i zero x h e = subst (λ (j : ℕ). TakesNumbers t ks ns i j x x) (sym (add-zero i)) (takes_none t ks ns i x)
takes_zeros t ks ns i (suc m) x h e =
    let before = takes_zeros t ks ns i m x h (λ k l. e k (omega (arith, l))) in
    takes_then t ks ns i (i + m) (i + suc m) x x x (omega arith) (omega arith) before
    (record {
      over = λ r cs ps ss part l classed numbered. record {
        on = λ w g.
            subst (λ (j : ℕ). GoesOver ListsNumbers FewWords (band_lists r t j cs ps ss) j w x) {x = i + m + 1} {y = i + suc m} (omega arith)
            (band_goes_on r ListsNumbers numbers_placewise FewWords cs ps ss t part (i + m) (omega (arith, l)) w x x g refl refl refl
            (place_zero r t (get_or cs (i + m) (pos 0)) (get_or ps (i + m) (pos 0)) (get_or ss (i + m) (pos 0)) h (sym (classed (i + m) (omega (arith, l))) ∙ e m (omega arith)) x));
      };
      few = omega arith;
    })

-- all places of a band
pub takes_band : (r : Rule) (t : Step) (cs ps ss : List ℤ) (ks ns : List ℕ) (x y : Words) → Part cs ps ss → Classed r t cs ps ss ks → Numbered r t cs ps ns → TakesNumbers t ks ns 0 (length cs) x y
    → GoesOver ListsNumbers FewWords (band_lists r t (length cs) cs ps ss) (length cs) x y
takes_band r t cs ps ss ks ns x y part classed numbered g =
    (g.over r cs ps ss part (omega arith) classed numbered).on x (band_begins r ListsNumbers numbers_placewise FewWords cs ps ss t part x)
