-- What places give, one after another: a place more, a band more, a band that is skipped; and whatever goes on over places goes on over bands and
-- from band to band over a pass. Assumes nothing.
use mathlib.Core.Path.{◌≡◌, refl, ap, sym, ◌∙◌, subst}
use mathlib.Core.Bool.{Bool, true, false}
use mathlib.Core.List.{List, [], ◌∷◌, ◌++◌, append_assoc}
use Prim.Native.Nat.{ℕ, zero, suc, ◌+◌, ◌-◌, ◌≤◌, ◌<◌}
use native.Mathlib.Nat.{add-zero, add_assoc}
use native.Mathlib.Omega.{arith}
use lib.IntN.{ℤ, pos}
use lib.ListN.{length, get_or, take, drop, replicate, length-drop, length-replicate, replicate-append-replicate}
use lib.Seq.{drop-cons, length-take-le, take_all}
use Rattle.bands.proofs.Spread.{place_whole}
use Rattle.upgrade_steps.specs.Steps.{Step, Source, skipped, srl, raw, source, step_of, steps, srl_width, srl_widths, raw_width, raw_widths}
use Rattle.upgrade_steps.specs.Inner.{from_srl, SameStep}
use Rattle.progressive_encoder.specs.Encode.{Rule, srl_given, raw_given, srl_differences, raw_differences}
use Rattle.progressive_encoder.specs.Inner.{Lists, lists, pass_lists, place_lists, band_lists, Slices, Part, WentOver, GoesOver, GoesOverBand, Before}
use Rattle.upgrade_steps.proofs.Stretches.{first_length}
use Rattle.upgrade_steps.proofs.Sources.{source_srl, source_raw, source_none}

-- ════ one place ════

-- what no place gives
abbrev pub no_lists : Lists
no_lists = lists [] [] [] []

-- one behind another
abbrev pub joined : Lists → Lists → Lists
joined a b =
    lists (a.values ++ b.values) (a.widths ++ b.widths) (a.numbers ++ b.numbers) (a.number_widths ++ b.number_widths)

-- what a place gives, before others
abbrev pub given : Rule → Source → Step → ℤ → ℤ → Lists → Lists
given r x t c p l =
    lists (srl_given x (r.value t.position c p) l.values) (srl_width x t.width l.widths)
    (raw_given x (r.number t.bottom t.position c p) l.numbers) (raw_width x t.width l.number_widths)

place_then : (r : Rule) (t : Step) (ts : List Step) (c p s : ℤ) (cs ps ss : List ℤ) → pass_lists r (t ∷ ts) (c ∷ cs) (p ∷ ps) (s ∷ ss) ≡ given r (source t s) t c p (pass_lists r ts cs ps ss)
unfolding srl_differences srl_widths raw_differences raw_widths
place_then r t ts c p s cs ps ss = refl

given_joined : (r : Rule) (x : Source) (t : Step) (c p : ℤ) (a b : Lists) → given r x t c p (joined a b) ≡ joined (given r x t c p a) b
given_joined r skipped t c p a b = refl
given_joined r srl t c p a b = refl
given_joined r raw t c p a b = refl

-- alone, in a band that is not skipped: a value or a number
alone : (r : Rule) (t : Step) (c p s : ℤ) → place_lists r t c p s ≡ given r (source t s) t c p no_lists
unfolding srl_differences srl_widths raw_differences raw_widths
alone r t c p s = refl

-- with an SRL value: that value, at the width of the band
pub place_srl : (r : Rule) (t : Step) (c p s : ℤ) → 1 ≤ t.width → from_srl t s ≡ true → place_lists r t c p s ≡ lists (r.value t.position c p ∷ []) (t.width ∷ []) [] []
place_srl r t c p s h e = alone r t c p s ∙ ap (λ (x : Source). given r x t c p no_lists) (source_srl t s h e)

-- with raw bits: that number, at the width of the band
pub place_raw : (r : Rule) (t : Step) (c p s : ℤ) → 1 ≤ t.width → from_srl t s ≡ false → place_lists r t c p s ≡ lists [] [] (r.number t.bottom t.position c p ∷ []) (t.width ∷ [])
place_raw r t c p s h e = alone r t c p s ∙ ap (λ (x : Source). given r x t c p no_lists) (source_raw t s h e)

-- ════ places one after another ════

no_places : (r : Rule) (cs ps ss : List ℤ) → pass_lists r [] cs ps ss ≡ no_lists
unfolding srl_differences srl_widths raw_differences raw_widths
no_places r cs ps ss = refl

pass_append : (r : Rule) (ts us : List Step) (cs ps ss : List ℤ) → length ts ≤ length cs → length ts ≤ length ps → length ts ≤ length ss
    → pass_lists r (ts ++ us) cs ps ss ≡ joined (pass_lists r ts cs ps ss) (pass_lists r us (drop (length ts) cs) (drop (length ts) ps) (drop (length ts) ss))
pass_append r [] us cs ps ss h j k = ap (λ (l : Lists). joined l (pass_lists r us cs ps ss)) (sym (no_places r cs ps ss))
pass_append r (t ∷ ts) us [] ps ss h j k = absurd (omega arith)
pass_append r (t ∷ ts) us (c ∷ cs) [] ss h j k = absurd (omega arith)
pass_append r (t ∷ ts) us (c ∷ cs) (p ∷ ps) [] h j k = absurd (omega arith)
pass_append r (t ∷ ts) us (c ∷ cs) (p ∷ ps) (s ∷ ss) h j k =
    let x = source t s in
    let rest = pass_lists r us (drop (length ts) cs) (drop (length ts) ps) (drop (length ts) ss) in
    place_then r t (ts ++ us) c p s cs ps ss
    ∙ ap (given r x t c p) (pass_append r ts us cs ps ss (omega arith) (omega arith) (omega arith))
    ∙ given_joined r x t c p (pass_lists r ts cs ps ss) rest
    ∙ ap (λ (l : Lists). joined l rest) (sym (place_then r t ts c p s cs ps ss))

-- places that all have one step: what a place more keeps holds of them all
same_step : (r : Rule) (t : Step) (P : ℕ → Lists → Type 0) → P 0 no_lists → ((n : ℕ) (c p s : ℤ) (l : Lists) → P n l → P (suc n) (given r (source t s) t c p l))
    → (n : ℕ) (cs ps ss : List ℤ) → n ≤ length cs → n ≤ length ps → n ≤ length ss → P n (pass_lists r (replicate n t) cs ps ss)
same_step r t P z f zero cs ps ss h j k = subst (P 0) (sym (no_places r cs ps ss)) z
same_step r t P z f (suc n) [] ps ss h j k = absurd (omega arith)
same_step r t P z f (suc n) (c ∷ cs) [] ss h j k = absurd (omega arith)
same_step r t P z f (suc n) (c ∷ cs) (p ∷ ps) [] h j k = absurd (omega arith)
same_step r t P z f (suc n) (c ∷ cs) (p ∷ ps) (s ∷ ss) h j k =
    subst (P (suc n)) (sym (place_then r t (replicate n t) c p s cs ps ss))
    (f n c p s (pass_lists r (replicate n t) cs ps ss) (same_step r t P z f n cs ps ss (omega arith) (omega arith) (omega arith)))

-- the places of a band are such
pub of_band : (r : Rule) (t : Step) (P : ℕ → Lists → Type 0) → P 0 no_lists → ((n : ℕ) (c p s : ℤ) (l : Lists) → P n l → P (suc n) (given r (source t s) t c p l))
    → (cs ps ss : List ℤ) → Part cs ps ss → P (length cs) (band_lists r t (length cs) cs ps ss)
of_band r t P z f cs ps ss h = same_step r t P z f (length cs) cs ps ss (omega arith) (omega (arith, h.previous)) (omega (arith, h.sign))

-- of width 0 they give nothing
skipped_none : (r : Rule) (t : Step) → t.width ≡ 0 → (cs ps ss : List ℤ) → Part cs ps ss → band_lists r t (length cs) cs ps ss ≡ no_lists
skipped_none r t e = of_band r t (λ n l. l ≡ no_lists) refl (λ n c p s l q. ap (λ (x : Source). given r x t c p l) (source_none t s e) ∙ q)

-- only as many elements matter as there are steps
pass_take : (r : Rule) (ts : List Step) (n : ℕ) (cs ps ss : List ℤ) → length ts ≤ n → length ts ≤ length cs → length ts ≤ length ps → length ts ≤ length ss
    → pass_lists r ts (take n cs) (take n ps) (take n ss) ≡ pass_lists r ts cs ps ss
pass_take r [] n cs ps ss g h j k = no_places r (take n cs) (take n ps) (take n ss) ∙ sym (no_places r cs ps ss)
pass_take r (t ∷ ts) zero cs ps ss g h j k = absurd (omega arith)
pass_take r (t ∷ ts) (suc n) [] ps ss g h j k = absurd (omega arith)
pass_take r (t ∷ ts) (suc n) (c ∷ cs) [] ss g h j k = absurd (omega arith)
pass_take r (t ∷ ts) (suc n) (c ∷ cs) (p ∷ ps) [] g h j k = absurd (omega arith)
pass_take r (t ∷ ts) (suc n) (c ∷ cs) (p ∷ ps) (s ∷ ss) g h j k =
    place_then r t ts c p s (take n cs) (take n ps) (take n ss)
    ∙ ap (given r (source t s) t c p) (pass_take r ts n cs ps ss (omega arith) (omega arith) (omega arith) (omega arith))
    ∙ sym (place_then r t ts c p s cs ps ss)

-- a width for each value
pub same_length : (r : Rule) (ts : List Step) (cs ps ss : List ℤ) → length ts ≤ length cs → length ts ≤ length ps → length ts ≤ length ss → length (pass_lists r ts cs ps ss).widths ≡ length (pass_lists r ts cs ps ss).values
unfolding srl_differences srl_widths
same_length r [] cs ps ss h j k = refl
same_length r (t ∷ ts) [] ps ss h j k = absurd (omega arith)
same_length r (t ∷ ts) (c ∷ cs) [] ss h j k = absurd (omega arith)
same_length r (t ∷ ts) (c ∷ cs) (p ∷ ps) [] h j k = absurd (omega arith)
same_length r (t ∷ ts) (c ∷ cs) (p ∷ ps) (s ∷ ss) h j k = by (source t s) (same_length r ts cs ps ss (omega arith) (omega arith) (omega arith))
  where
    by : (x : Source) → length (srl_widths ts ss) ≡ length (srl_differences r ts cs ps ss)
        → length (srl_width x t.width (srl_widths ts ss)) ≡ length (srl_given x (r.value t.position c p) (srl_differences r ts cs ps ss))
    by skipped e = e
    by srl e = ap suc e
    by raw e = e

-- ════ what goes on over places ════

-- what does so whatever comes behind: a function of the rest
pub chain : {A T X : Type 0} (F : X → List ℕ → List A → T) (a b : List ℕ) (v u : List A) (x y z : X)
    → ((ws : List ℕ) (us : List A) → F x (a ++ ws) (v ++ us) ≡ F y ws us) → ((ws : List ℕ) (us : List A) → F y (b ++ ws) (u ++ us) ≡ F z ws us)
    → (ws : List ℕ) (us : List A) → F x ((a ++ b) ++ ws) ((v ++ u) ++ us) ≡ F z ws us
chain F a b v u x y z p q ws us =
    ap (λ l. F x l ((v ++ u) ++ us)) (append_assoc a b ws) ∙ ap (F x (a ++ (b ++ ws))) (append_assoc v u us) ∙ p (b ++ ws) (u ++ us) ∙ q ws us

-- it stays where there is none, and goes on behind what it went over
pub record Placewise {X : Type 0} (R : Lists → X → X → Type 0) : Type 0 where
  pub none : (x : X) → R no_lists x x
  pub then : (a b : Lists) (x y z : X) → R a x y → R b y z → R (joined a b) x z

module _ (rule : Rule) {X : Type 0} (R : Lists → X → X → Type 0) (o : Placewise R) (cs ps ss : List ℤ) where
  -- before the first place of a band
  pub band_none : (t : Step) (x : X) → R (band_lists rule t 0 cs ps ss) x x
  band_none t x = subst (λ (l : Lists). R l x x) (sym (no_places rule cs ps ss)) (o.none x)

  -- a place more
  pub place_next : (t : Step) (i : ℕ) → Part cs ps ss → i < length cs → (x y z : X) → R (band_lists rule t i cs ps ss) x y
      → {c p s : ℤ} → c ≡ get_or cs i (pos 0) → p ≡ get_or ps i (pos 0) → s ≡ get_or ss i (pos 0) → R (place_lists rule t c p s) y z → R (band_lists rule t (i + 1) cs ps ss) x z
  unfolding srl_differences srl_widths raw_differences raw_widths
  place_next t i h k x y z before {c = c} {p = p} {s = s} u v w now = subst (λ (l : Lists). R l x z) (sym more) (o.then (band_lists rule t i cs ps ss) (place_lists rule t c p s) x y z before now)
    where
      n : length (replicate i t) ≡ i
      n = length-replicate i t

      -- a part from there on
      here : (l : List ℤ) (a : ℤ) → i < length l → a ≡ get_or l i (pos 0) → drop (length (replicate i t)) l ≡ a ∷ drop (suc i) l
      here l a g q = ap (λ (m : ℕ). drop m l) n ∙ drop-cons l i (pos 0) g ∙ ap (λ (b : ℤ). b ∷ drop (suc i) l) (sym q)

      one : (a b d a' b' d' : List ℤ) → a ≡ a' → b ≡ b' → d ≡ d' → pass_lists rule (t ∷ []) a b d ≡ pass_lists rule (t ∷ []) a' b' d'
      one a b d a' b' d' e f g = λ m. pass_lists rule (t ∷ []) (e m) (f m) (g m)

      more : band_lists rule t (i + 1) cs ps ss ≡ joined (band_lists rule t i cs ps ss) (place_lists rule t c p s)
      more =
          ap (λ (ts : List Step). pass_lists rule ts cs ps ss) (sym (replicate-append-replicate i 1 t))
          ∙ pass_append rule (replicate i t) (t ∷ []) cs ps ss (omega (arith, n)) (omega (arith, n, h.previous)) (omega (arith, n, h.sign))
          ∙ ap (joined (band_lists rule t i cs ps ss)) (one _ _ _ _ _ _ (here cs c k u) (here ps p (omega (arith, h.previous)) v) (here ss s (omega (arith, h.sign)) w))

-- ════ with a bound, in a band ════

module _ (rule : Rule) {X : Type 0} (R : Lists → X → X → Type 0) (o : Placewise R) (B : X → ℕ → Type 0) (cs ps ss : List ℤ) (t : Step) (h : Part cs ps ss) where
  -- before its first place
  pub band_begins : (x : X) → GoesOver R B (band_lists rule t 0 cs ps ss) 0 x x
  band_begins x = record { over = band_none rule R o cs ps ss t x; bound = λ n b. subst (B x) (sym (add-zero n)) b }

  -- a place more
  pub band_goes_on : (i : ℕ) → i < length cs → (x y z : X) → GoesOver R B (band_lists rule t i cs ps ss) i x y
      → {c p s : ℤ} → c ≡ get_or cs i (pos 0) → p ≡ get_or ps i (pos 0) → s ≡ get_or ss i (pos 0) → GoesOver R B (place_lists rule t c p s) 1 y z → GoesOver R B (band_lists rule t (i + 1) cs ps ss) (i + 1) x z
  band_goes_on i k x y z before u v w now = record {
    over = place_next rule R o cs ps ss t i h k x y z before.over u v w now.over;
    bound = λ n b. subst (B z) (add_assoc n i 1) (now.bound (n + i) (before.bound n b));
  }

  -- all of them, where the band is skipped: what can have come to some places can have come to more
  pub band_skip : ((x : X) (i j : ℕ) → i ≤ j → B x i → B x j) → t.width ≡ 0 → (x : X) → GoesOverBand rule R B t cs ps ss x x
  band_skip on e x = record {
    over = subst (λ (l : Lists). R l x x) (sym (skipped_none rule t e cs ps ss h)) (o.none x);
    bound = λ n b. on x n (n + length cs) (omega arith) b;
  }

-- ════ from band to band ════

-- the places of a band in a slice
abbrev pub part_of : ℕ → ℕ → List ℤ → List ℤ
part_of from to l = take (to - from) (drop from l)

part_length : (from to : ℕ) (l : List ℤ) → to ≤ length l → length (part_of from to l) ≡ to - from
part_length from to l h = length-take-le (to - from) (drop from l) (omega (arith, length-drop from l))

-- a walk that went over the first i places of a pass
abbrev pub WentTo : Rule → {X : Type 0} (R : Lists → X → X → Type 0) (B : X → ℕ → Type 0) (cs ps ss : List ℤ) (e : Bool) (prev curr : List ℕ) (i : ℕ) (x y : X) → Type 0
WentTo rule R B cs ps ss e prev curr i x y = WentOver R B (pass_lists rule (take i (steps e prev curr)) cs ps ss) i x y

module _ (rule : Rule) {X : Type 0} (R : Lists → X → X → Type 0) (o : Placewise R) (B : X → ℕ → Type 0) (cs ps ss : List ℤ) (e : Bool) (prev curr : List ℕ) where
  -- before the first
  pub walk_begins : (x : X) → B x 0 → WentTo rule R B cs ps ss e prev curr 0 x x
  walk_begins x h = record { over = subst (λ (l : Lists). R l x x) (sym (no_places rule cs ps ss)) (o.none x); bound = h }

  module _ (i to : ℕ) (t : Step) (p : SameStep e prev curr i to t) (h : Slices cs ps ss) where
    -- the next band's parts
    pub next_part : Part (part_of i to cs) (part_of i to ps) (part_of i to ss)
    next_part =
        let n : length (part_of i to cs) ≡ to - i = part_length i to cs (omega (arith, p.ends, h.coefficients)) in
        record {
          previous = part_length i to ps (omega (arith, p.ends, h.previous)) ∙ sym n;
          sign = part_length i to ss (omega (arith, p.ends, h.sign)) ∙ sym n;
          few = omega (arith, n, p.few);
        }

    -- and room for them
    pub next_room : (x y : X) → WentTo rule R B cs ps ss e prev curr i x y → Before B y (length (part_of i to cs))
    next_room x y r = record { done = i; bound = r.bound; left = omega (arith, part_length i to cs (omega (arith, p.ends, h.coefficients)), p.begins, p.ends) }

    -- that band more
    pub walk_on : (x y z : X) → WentTo rule R B cs ps ss e prev curr i x y
        → GoesOverBand rule R B t (part_of i to cs) (part_of i to ps) (part_of i to ss) y z
        → WentTo rule R B cs ps ss e prev curr to x z
    walk_on x y z r now =
        let ts = steps e prev curr in
        let us = replicate (to - i) t in
        let k : length (part_of i to cs) ≡ to - i = part_length i to cs (omega (arith, p.ends, h.coefficients)) in
        let m : length (take i ts) ≡ i = first_length p in
        let n : length us ≡ to - i = length-replicate (to - i) t in
        let first = pass_lists rule (take i ts) cs ps ss in
        let all : pass_lists rule (take to ts) cs ps ss ≡ joined first (band_lists rule t (length (part_of i to cs)) (part_of i to cs) (part_of i to ps) (part_of i to ss)) =
        ap (λ (l : List Step). pass_lists rule l cs ps ss) p.more
        ∙ pass_append rule (take i ts) us cs ps ss (omega (arith, m, p.begins, p.ends, h.coefficients)) (omega (arith, m, p.begins, p.ends, h.previous)) (omega (arith, m, p.begins, p.ends, h.sign))
        ∙ ap (λ (j : ℕ). joined first (pass_lists rule us (drop j cs) (drop j ps) (drop j ss))) m
        ∙ ap (joined first) (sym (pass_take rule us (to - i) (drop i cs) (drop i ps) (drop i ss) (omega (arith, n)) (omega (arith, n, length-drop i cs, p.ends, h.coefficients)) (omega (arith, n, length-drop i ps, p.ends, h.previous)) (omega (arith, n, length-drop i ss, p.ends, h.sign))))
        ∙ ap (λ (j : ℕ). joined first (band_lists rule t j (part_of i to cs) (part_of i to ps) (part_of i to ss))) (sym k) in
        record {
          over = subst (λ (l : Lists). R l x z) (sym all) (o.then first (band_lists rule t (length (part_of i to cs)) (part_of i to cs) (part_of i to ps) (part_of i to ss)) x y z r.over now.over);
          bound = subst (B z) {x = i + length (part_of i to cs)} {y = to} (omega (arith, k, p.begins)) (now.bound i r.bound);
        }

  -- all bands are the pass
  pub walk_ends : (i : ℕ) (x y : X) → i ≡ 4096 → WentTo rule R B cs ps ss e prev curr i x y → WentOver R B (pass_lists rule (steps e prev curr) cs ps ss) 4096 x y
  walk_ends i x y n r =
      let all : take i (steps e prev curr) ≡ steps e prev curr = take_all i (steps e prev curr) (omega (arith, n, place_whole e (step_of prev curr))) in
      record { over = subst (λ (ts : List Step). R (pass_lists rule ts cs ps ss) x y) all r.over; bound = subst (B y) n r.bound }
