-- Laws of listing the values for the SRL stream that are not 0, with the zeros before them: one place, places one after another, places that have none.
-- Assumes nothing.
use mathlib.Core.Path.{◌≡◌, refl, ap, sym, ◌∙◌, subst}
use mathlib.Core.Bool.{Bool, true, false, cond, ◌||◌, or_assoc, or-false}
use mathlib.Core.List.{List, [], ◌∷◌, ◌++◌}
use Prim.Native.Nat.{ℕ, zero, suc, ◌+◌, ◌-◌, ◌*◌, ◌/◌, ◌%◌, ◌^◌, ◌≤◌, ◌<◌}
use native.Mathlib.Nat.{add-zero}
use native.Mathlib.Numerals.{add-one}
use native.Mathlib.Omega.{arith}
use borrow.Author.Tests.{le-ltb}
use lib.Dec.{ltb, eqb}
use lib.IntN.{ℤ, pos, nat_abs}
use lib.ListN.{length, get_or, set, take, length-append}
use Rattle.bits.specs.Bits.{bit_of}
use Rattle.fixed.specs.Fixed.{is_zero, with_sign}
use Rattle.fixed.proofs.Sign.{zero_is}
use Rattle.srl_encoder.specs.Encode.{nonzero_bits, run_bits, run_kp, value_bits, value_kp, value_zeros}
use Rattle.srl_encoder.specs.Finish.{stream_bits}
use Rattle.upgrade_steps.specs.Steps.{Step}
use Rattle.upgrade_steps.specs.Inner.{from_srl}
use Rattle.progressive_encoder.specs.Encode.{Rule, any_too_large}
use Rattle.progressive_encoder.specs.Inner.{Lists, place_lists, band_lists, Part, GoesOver, event_magnitude, event_negative, event_width, event_zeros, Event, event_bits, event_kp, events_then, any_event_too_large, event_values, Each, Listed, listed_of, srl_then, large_then, held, words_of, ListsEvents, FewEvents, class_of, Classed, TakesEvents, sum_from}
use Rattle.progressive_encoder.proofs.Rules.{abs_signed, some_abs}
use Rattle.progressive_encoder.proofs.Held.{each_append, behind_others}
use Rattle.progressive_encoder.proofs.Placewise.{Placewise, chain, place_srl, place_raw, band_begins, band_goes_on}

-- what is listed of some places and then of others is listed of both
pub events_placewise : Placewise ListsEvents
events_placewise = record {
  none = λ x. record { bits = λ ws us. refl; large = λ ws us. refl; count = omega arith };
  then = λ a b x y z p q. record {
    bits = chain srl_then a.widths b.widths a.values b.values x y z p.bits q.bits;
    large = chain large_then a.widths b.widths a.values b.values x y z p.large q.large;
    count = omega (arith, p.count, q.count, length-append a.values b.values);
  };
}

-- ════ events one after another ════

pub events_append : (kp : ℕ) (a b : List ℕ) (f : ℕ → List Bool) → events_then kp (a ++ b) f ≡ events_then kp a (λ k. events_then k b f)
unfolding events_then
events_append kp [] b f = refl
events_append kp (x ∷ a) b f = ap (λ (l : List Bool). event_bits kp x ++ l) (events_append (event_kp kp x) a b f)

pub large_append : (a b : List ℕ) → any_event_too_large (a ++ b) ≡ (any_event_too_large a || any_event_too_large b)
unfolding any_event_too_large
large_append [] b = refl
large_append (x ∷ a) b = ap (λ (t : Bool). ltb (2 ^ event_width x - 1) (event_magnitude x) || t) (large_append a b) ∙ sym (or_assoc (ltb (2 ^ event_width x - 1) (event_magnitude x)) (any_event_too_large a) (any_event_too_large b))

values_append : (a b : List ℕ) → event_values (a ++ b) ≡ event_values a + event_values b
unfolding event_values
values_append [] b = omega arith
values_append (x ∷ a) b = omega (arith, values_append a b)

-- ════ a word ════

-- what stands in it
pub record Word (x m : ℕ) (negative : Bool) (w z : ℕ) : Type 0 where
  pub magnitude : event_magnitude x ≡ m
  pub sign : event_negative x ≡ negative
  pub width : event_width x ≡ w
  pub zeros : event_zeros x ≡ z

pub word_of_lem : (x m : ℕ) (negative : Bool) (w z : ℕ) → m < 65536 → w ≤ 15 → x ≡ m + 65536 * (bit_of negative + 2 * (w + 16 * z)) → Word x m negative w z
word_of_lem x m true w z h k e =
    let s : x / 65536 % 2 ≡ 1 = omega (arith, e, h, k) in
    record { magnitude = omega (arith, e, h); sign = ap (λ (n : ℕ). eqb n 1) s; width = omega (arith, e, h, k); zeros = omega (arith, e, h, k) }
word_of_lem x m false w z h k e =
    let s : x / 65536 % 2 ≡ 0 = omega (arith, e, h, k) in
    record { magnitude = omega (arith, e, h); sign = ap (λ (n : ℕ). eqb n 1) s; width = omega (arith, e, h, k); zeros = omega (arith, e, h, k) }

-- a value that is not 0, in parts
record Parts (w kp z : ℕ) (v : ℤ) (negative : Bool) (m : ℕ) : Type 0 where
  bits : value_bits w kp z v ≡ run_bits (suc z) kp z ++ nonzero_bits w negative (m - 1)
  next : value_kp kp z v ≡ run_kp (suc z) kp z
  zeros : value_zeros z v ≡ 0

value_parts : (w kp z : ℕ) (v : ℤ) (negative : Bool) (m : ℕ) → v ≡ with_sign negative m → 1 ≤ m → Parts w kp z v negative m
value_parts w kp z v negative zero e h = absurd (omega arith)
value_parts w kp z v true (suc m) e h =
    let n : m ≡ suc m - 1 = omega arith in
    subst (λ (u : ℤ). Parts w kp z u true (suc m)) (sym e) (record { bits = ap (λ (k : ℕ). run_bits (suc z) kp z ++ nonzero_bits w true k) n; next = refl; zeros = refl })
value_parts w kp z v false (suc m) e h =
    let n : m ≡ suc m - 1 = omega arith in
    subst (λ (u : ℤ). Parts w kp z u false (suc m)) (sym e) (record { bits = ap (λ (k : ℕ). run_bits (suc z) kp z ++ nonzero_bits w false k) n; next = refl; zeros = refl })

pos_some : (n : ℕ) → (n ≡ 0 → ⊥) → 1 ≤ n
pos_some zero h = absurd (h refl)
pos_some (suc n) h = omega arith

-- ════ one place ════

module _ (r : Rule) (t : Step) (c p s : ℤ) (h : 1 ≤ t.width) (l : List ℕ) (n z : ℕ) where
  -- a value 0: one more zero is pending
  place_zero : from_srl t s ≡ true → r.value t.position c p ≡ pos 0 → ListsEvents (place_lists r t c p s) (listed_of l n z) (listed_of l n (z + 1))
  unfolding stream_bits any_too_large
  place_zero f e =
      subst (λ (k : Lists). ListsEvents k (listed_of l n z) (listed_of l n (z + 1))) (sym (place_srl r t c p s h f))
      (record {
        bits = λ ws us. ap (λ (v : ℤ). events_then 8 (take n l) (λ kp. stream_bits kp z (t.width ∷ ws) (v ∷ us))) e;
        large = λ ws us.
            ap (λ (v : ℤ). any_event_too_large (take n l) || (ltb (2 ^ t.width - 1) (nat_abs v) || any_too_large ws us)) e
            ∙ ap (λ (b : Bool). any_event_too_large (take n l) || (b || any_too_large ws us)) (le-ltb (2 ^ t.width - 1) 0 (omega arith));
        count = omega arith;
      })

  -- a number for the raw stream: nothing
  place_other : from_srl t s ≡ false → ListsEvents (place_lists r t c p s) (listed_of l n z) (listed_of l n z)
  place_other f =
      subst (λ (k : Lists). ListsEvents k (listed_of l n z) (listed_of l n z)) (sym (place_raw r t c p s h f))
      (record { bits = λ ws us. refl; large = λ ws us. refl; count = omega arith })

  -- by its class d, which is 0 or 1
  pub place_quiet : (d z' : ℕ) → d ≡ class_of r t c p s → d ≤ 1 → z' + d ≡ z + 1 → GoesOver ListsEvents FewEvents (place_lists r t c p s) 1 (listed_of l n z) (listed_of l n z')
  place_quiet d z' = by (from_srl t s) refl (is_zero (r.value t.position c p)) refl
    where
      bound : z' ≤ z + 1 → (i : ℕ) → FewEvents (listed_of l n z) i → FewEvents (listed_of l n z') (i + 1)
      bound k i b = record { few = omega (arith, b.few); zeros = omega (arith, b.zeros); all = b.all }

      by : (b : Bool) → from_srl t s ≡ b → (y : Bool) → is_zero (r.value t.position c p) ≡ y → d ≡ cond b (cond y 0 2) 1 → d ≤ 1 → z' + d ≡ z + 1 → GoesOver ListsEvents FewEvents (place_lists r t c p s) 1 (listed_of l n z) (listed_of l n z')
      by true f true y e k g =
          let more : z + 1 ≡ z' = omega (arith, e, g) in
          record { over = subst (λ (j : ℕ). ListsEvents (place_lists r t c p s) (listed_of l n z) (listed_of l n j)) more (place_zero f (zero_is (r.value t.position c p) y)); bound = bound (omega (arith, more)) }
      by true f false y e k g = absurd (omega (arith, e, k))
      by false f x y e k g =
          let same : z ≡ z' = omega (arith, e, g) in
          record { over = subst (λ (j : ℕ). ListsEvents (place_lists r t c p s) (listed_of l n z) (listed_of l n j)) same (place_other f); bound = bound (omega (arith, same)) }

  -- a value that is not 0: x is its word
  module _ (x m : ℕ) (negative : Bool) (room : n < length l) (small : m < 65536) (narrow : t.width ≤ 15) (some : 1 ≤ m) (few : z ≤ 4096)
      (is : r.value t.position c p ≡ with_sign negative m) (e : x ≡ m + 65536 * (bit_of negative + 2 * (t.width + 16 * z))) where
    word : Word x m negative t.width z
    word = word_of_lem x m negative t.width z small narrow e

    -- behind the others
    behind : held (words_of (set l n x) (n + 1)) ≡ take n l ++ (x ∷ [])
    behind = behind_others l n x room

    place_value : from_srl t s ≡ true → ListsEvents (place_lists r t c p s) (listed_of l n z) (listed_of (set l n x) (n + 1) 0)
    unfolding stream_bits any_too_large events_then any_event_too_large event_values
    place_value f =
        let v = r.value t.position c p in
        let w = t.width in
        let a = take n l in
        let abs : nat_abs v ≡ m = ap nat_abs is ∙ abs_signed negative m in
        subst (λ (k : Lists). ListsEvents k (listed_of l n z) (listed_of (set l n x) (n + 1) 0)) (sym (place_srl r t c p s h f))
        (record {
          bits = λ ws us.
              (λ i. events_then 8 a (λ kp. (value_parts w kp z v negative m is some).bits i ++ stream_bits ((value_parts w kp z v negative m is some).next i) ((value_parts w kp z v negative m is some).zeros i) ws us))
              ∙ (λ i. events_then 8 a (λ kp. (run_bits (suc (sym word.zeros i)) kp (sym word.zeros i) ++ nonzero_bits (sym word.width i) (sym word.sign i) (sym word.magnitude i - 1)) ++ stream_bits (run_kp (suc (sym word.zeros i)) kp (sym word.zeros i)) 0 ws us))
              ∙ sym (ap (λ (k : List ℕ). events_then 8 k (λ kp. stream_bits kp 0 ws us)) behind ∙ events_append 8 a (x ∷ []) (λ kp. stream_bits kp 0 ws us));
          large = λ ws us.
              (λ i. any_event_too_large a || (ltb (2 ^ sym word.width i - 1) ((abs ∙ sym word.magnitude) i) || any_too_large ws us))
              ∙ sym (or_assoc (any_event_too_large a) (ltb (2 ^ event_width x - 1) (event_magnitude x)) (any_too_large ws us))
              ∙ ap (λ (b : Bool). (any_event_too_large a || b) || any_too_large ws us) (sym (or-false (ltb (2 ^ event_width x - 1) (event_magnitude x))))
              ∙ sym (ap (λ (k : List ℕ). any_event_too_large k || any_too_large ws us) behind ∙ ap (λ (b : Bool). b || any_too_large ws us) (large_append a (x ∷ [])));
          count = omega (arith, ap event_values behind, values_append a (x ∷ []), word.zeros);
        })

    -- of class 2
    pub place_event : class_of r t c p s ≡ 2 → GoesOver ListsEvents FewEvents (place_lists r t c p s) 1 (listed_of l n z) (listed_of (set l n x) (n + 1) 0)
    place_event = by (from_srl t s) refl (is_zero (r.value t.position c p))
      where
        event : Event x
        event = record { some = omega (arith, word.magnitude, some); wide = omega (arith, word.width, h); few = omega (arith, word.zeros, few) }

        bound : (i : ℕ) → FewEvents (listed_of l n z) i → FewEvents (listed_of (set l n x) (n + 1) 0) (i + 1)
        bound i b = record {
          few = omega (arith, b.few);
          zeros = omega arith;
          all = subst (Each Event) (sym behind) (each_append b.all (Each.one event Each.none));
        }

        by : (b : Bool) → from_srl t s ≡ b → (y : Bool) → ◌≡◌ {A = ℕ} (cond b (cond y 0 2) 1) 2 → GoesOver ListsEvents FewEvents (place_lists r t c p s) 1 (listed_of l n z) (listed_of (set l n x) (n + 1) 0)
        by true f y q = record { over = place_value f; bound = bound }
        by false f y q = absurd (omega (arith, q))

-- a class that is neither 0 nor 1 is 2, and then the value is not 0
pub class_two : (r : Rule) (t : Step) (c p s : ℤ) → 2 ≤ class_of r t c p s → (class_of r t c p s ≡ 2) × (1 ≤ nat_abs (r.value t.position c p))
class_two r t c p s = by (from_srl t s) (is_zero (r.value t.position c p)) refl
  where
    by : (b y : Bool) → is_zero (r.value t.position c p) ≡ y → 2 ≤ cond b (cond y 0 2) 1 → (◌≡◌ {A = ℕ} (cond b (cond y 0 2) 1) 2) × (1 ≤ nat_abs (r.value t.position c p))
    by true true e h = absurd (omega (arith, h))
    by true false e h = (refl, pos_some (nat_abs (r.value t.position c p)) (some_abs (r.value t.position c p) e))
    by false y e h = absurd (omega (arith, h))

-- a place whose coefficients were read is one of the coefficients
pub read_place : (r : Rule) (t : Step) (d : ℕ) (x y : Listed) {c c' p p' : ℤ} → c ≡ c' → p ≡ p' → ((s : ℤ) → d ≡ class_of r t c p s → GoesOver ListsEvents FewEvents (place_lists r t c p s) 1 x y)
    → (s : ℤ) → d ≡ class_of r t c' p' s → GoesOver ListsEvents FewEvents (place_lists r t c' p' s) 1 x y
read_place r t d x y {c = c} {c' = c'} {p = p} e f g =
    subst (λ (q : ℤ). (s : ℤ) → d ≡ class_of r t c' q s → GoesOver ListsEvents FewEvents (place_lists r t c' q s) 1 x y) f
    (subst (λ (b : ℤ). (s : ℤ) → d ≡ class_of r t b p s → GoesOver ListsEvents FewEvents (place_lists r t b p s) 1 x y) e g)

-- ════ places one after another ════

module _ (r : Rule) (t : Step) (cs ps : List ℤ) (ks : List ℕ) where
  -- none
  pub lists_none : (i : ℕ) (x : Listed) → TakesEvents r t cs ps ks i i x x
  lists_none i x = record { over = λ ss h l k. record { on = λ y g. g }; few = omega arith; zeros = omega arith }

  -- one: whatever its sign is, it goes over it by its class
  pub lists_one : (i : ℕ) (x y : Listed)
      → ((s : ℤ) → get_or ks i 0 ≡ class_of r t (get_or cs i (pos 0)) (get_or ps i (pos 0)) s → GoesOver ListsEvents FewEvents (place_lists r t (get_or cs i (pos 0)) (get_or ps i (pos 0)) s) 1 x y)
      → y.words.count ≤ x.words.count + 1 → y.zeros ≤ x.zeros + 1 → TakesEvents r t cs ps ks i (i + 1) x y
  lists_one i x y g m n = record {
    over = λ ss part l classed. record {
      on = λ w before.
          band_goes_on r ListsEvents events_placewise FewEvents cs ps ss t part i (omega (arith, l)) w x y before refl refl refl
          (g (get_or ss i (pos 0)) (classed i (omega (arith, l))));
    };
    few = omega (arith, m);
    zeros = omega (arith, n);
  }

  -- some, and then others
  pub lists_then : (from mid to : ℕ) (x y z : Listed) → from ≤ mid → mid ≤ to → TakesEvents r t cs ps ks from mid x y → TakesEvents r t cs ps ks mid to y z → TakesEvents r t cs ps ks from to x z
  lists_then from mid to x y z h k f g = record {
    over = λ ss part l classed. record { on = λ w before. (g.over ss part l classed).on w ((f.over ss part (omega (arith, l)) classed).on w before) };
    few = omega (arith, f.few, g.few);
    zeros = omega (arith, f.zeros, g.zeros);
  }

  -- m places without an event: of these, the ones of class 0 are zeros
  pub lists_quiet : (l : List ℕ) (n i m z z' : ℕ) → 1 ≤ t.width → ((k : ℕ) → k < m → get_or ks (i + k) 0 ≤ 1) → z' + sum_from ks i m ≡ z + m → TakesEvents r t cs ps ks i (i + m) (listed_of l n z) (listed_of l n z')
  unfolding sum_from
  lists_quiet l n i zero z z' h e g =
      let same : z ≡ z' = omega (arith, g) in
      subst (λ (j : ℕ). TakesEvents r t cs ps ks i j (listed_of l n z) (listed_of l n z')) (sym (add-zero i))
      (subst (λ (j : ℕ). TakesEvents r t cs ps ks i i (listed_of l n z) (listed_of l n j)) same (lists_none i (listed_of l n z)))
  lists_quiet l n i (suc m) z z' h e g =
      let d = get_or ks i 0 in
      let low : d ≤ 1 = rw (sym (add-zero i)) (e 0 (omega arith)) in
      let y = z + 1 - d in
      let here = lists_one i (listed_of l n z) (listed_of l n y)
      (λ s q. place_quiet r t (get_or cs i (pos 0)) (get_or ps i (pos 0)) s h l n z d y q low (omega (arith, low))) (omega arith) (omega (arith, low)) in
      let rest = lists_quiet l n (i + 1) m y z' h (λ k below. subst (λ (j : ℕ). get_or ks j 0 ≤ 1) {x = i + suc k} {y = i + 1 + k} (omega arith) (e (suc k) (omega (arith, below)))) (omega (arith, g, low, ap (λ (j : ℕ). sum_from ks j m) (add-one i))) in
      subst (λ (j : ℕ). TakesEvents r t cs ps ks i j (listed_of l n z) (listed_of l n z')) {x = i + 1 + m} {y = i + suc m} (omega arith)
      (lists_then i (i + 1) (i + 1 + m) (listed_of l n z) (listed_of l n y) (listed_of l n z') (omega arith) (omega arith) here rest)

-- all places of a band
pub lists_band : (r : Rule) (t : Step) (cs ps ss : List ℤ) (ks : List ℕ) (x y : Listed) → Part cs ps ss → Classed r t cs ps ss ks → TakesEvents r t cs ps ks 0 (length cs) x y
    → GoesOver ListsEvents FewEvents (band_lists r t (length cs) cs ps ss) (length cs) x y
lists_band r t cs ps ss ks x y part classed g =
    (g.over ss part (omega arith) classed).on x (band_begins r ListsEvents events_placewise FewEvents cs ps ss t part x)
