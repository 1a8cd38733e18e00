-- A band by two lists of its places: the walk over all places is the raw places one after another and then the SRL places; and a list of SRL places
-- by runs of zeros.
use mathlib.Core.Path.{◌≡◌, refl, sym, ap, ap₂, ◌∙◌, subst}
use mathlib.Core.Bool.{Bool, true, false, cond, not}
use mathlib.Core.List.{List, [], ◌∷◌, map}
use Prim.Native.Nat.{ℕ, zero, suc, ◌+◌, ◌-◌, ◌*◌, ◌≤◌, ◌<◌}
use native.Mathlib.Numerals.{add-one}
use native.Mathlib.Omega.{arith}
use lib.IntN.{ℤ, pos}
use lib.ListN.{length, get_or, set, drop, replicate, length-drop, drop_of_length-le}
use lib.Seq.{drop-cons, drop-drop, set-get_or}
use Rattle.bits.specs.Bits.{num}
use Rattle.srl_decoder.specs.Srl.{Reader, reader, nonzero, behind, next_value, next_reader}
use Rattle.srl_decoder.specs.Inner.{Same}
use Rattle.srl_decoder.proofs.Codes.{next_near}
use Rattle.srl_rules.specs.Inner.{Width}
use Rattle.srl_rules.proofs.Widths.{pow_high}
use Rattle.upgrade_steps.specs.Steps.{Step, Source, skipped, srl, raw, source}
use Rattle.upgrade_steps.specs.Inner.{from_srl}
use Rattle.upgrade_steps.proofs.Sources.{source_srl, source_raw}
use Rattle.progressive_decoder.specs.Upgrade.{srl_coefficient, srl_sign, adds, raw_coefficient}
use Rattle.places.specs.Inner.{places_of}
use Rattle.progressive_decoder.specs.Inner.{Walked, walked, coefficient_at, sign_at, reader_at, count_at, onto, walk, stepped_from, over, srl_places, raw_places}

-- how far the readers have gone
pub record Near (w : Walked) (m n : ℕ) : Type 0 where
  pub kp : w.srl.kp ≤ 80
  pub srl_read_lem : w.srl.read ≤ m
  pub raw_read : w.raw ≤ n

module _ (s d : List ℕ) (t : Step) where
  -- ════ all places of a band ════

  -- one place before those of the list
  over_shift : (o : Source) (is : List ℕ) (c x : ℤ) (w : Walked) → over o s d t (map suc is) (onto c x w) ≡ onto c x (over o s d t is w)
  unfolding over
  over_shift o [] c x w = refl
  over_shift o (i ∷ is) c x w = over_shift o is c x (stepped_from o s d t i w)

  -- raw places have nothing to do with the SRL reader
  abbrev with_reader : Reader → Walked → Walked
  with_reader q w = walked w.coefficients w.sign q w.raw

  raw_reader : (is : List ℕ) (cs ss : List ℤ) (r q : Reader) (n : ℕ) → over raw s d t is (walked cs ss q n) ≡ with_reader q (over raw s d t is (walked cs ss r n))
  unfolding over
  raw_reader [] cs ss r q n = refl
  raw_reader (i ∷ is) cs ss r q n =
      raw_reader is (set cs i (raw_coefficient (adds t (get_or ss i (pos 0))) t.position (num d n t.width) (get_or cs i (pos 0)))) (set ss i (get_or ss i (pos 0))) r q (n + t.width)

  pub walk_listed : (cs ss : List ℤ) (r : Reader) (n : ℕ) → 1 ≤ t.width → length ss ≡ length cs
      → walk s d (replicate (length cs) t) cs ss r n ≡ over srl s d t (srl_places t ss) (over raw s d t (raw_places t ss) (walked cs ss r n))
  unfolding walk over places_of
  walk_listed [] [] r n h e = refl
  walk_listed [] (x ∷ ss) r n h e = absurd (omega arith)
  walk_listed (c ∷ cs) [] r n h e = absurd (omega arith)
  walk_listed (c ∷ cs) (x ∷ ss) r n h e = by (from_srl t x) refl (λ r n. walk_listed cs ss r n h (omega arith))
    where
      by : (b : Bool) → from_srl t x ≡ b
          → ((r : Reader) (n : ℕ) → walk s d (replicate (length cs) t) cs ss r n ≡ over srl s d t (srl_places t ss) (over raw s d t (raw_places t ss) (walked cs ss r n)))
          → onto (coefficient_at s d t (source t x) c x r n) (sign_at s d t (source t x) x r) (walk s d (replicate (length cs) t) cs ss (reader_at s d t (source t x) r) (count_at s d t (source t x) n))
          ≡ over srl s d t (cond b (0 ∷ map suc (srl_places t ss)) (map suc (srl_places t ss))) (over raw s d t (cond (not b) (0 ∷ map suc (raw_places t ss)) (map suc (raw_places t ss))) (walked (c ∷ cs) (x ∷ ss) r n))
      by true q ih =
          let is = srl_places t ss in
          let os = raw_places t ss in
          let v = next_value s t.width r in
          let c' = srl_coefficient t.position v c in
          let x' = srl_sign v x in
          let r' = next_reader s t.width r in
          ap (λ (o : Source). onto (coefficient_at s d t o c x r n) (sign_at s d t o x r) (walk s d (replicate (length cs) t) cs ss (reader_at s d t o r) (count_at s d t o n))) (source_srl t x h q)
          ∙ ap (onto c' x') (ih r' n)
          ∙ sym (over_shift srl is c' x' (over raw s d t os (walked cs ss r' n)))
          ∙ ap (λ (w : Walked). over srl s d t (map suc is) (onto c' x' w)) (raw_reader os cs ss r r' n)
          ∙ ap (λ (w : Walked). over srl s d t (0 ∷ map suc is) (onto c x w)) (sym (raw_reader os cs ss r r n))
          ∙ ap (over srl s d t (0 ∷ map suc is)) (sym (over_shift raw os c x (walked cs ss r n)))
      by false q ih =
          let is = srl_places t ss in
          let os = raw_places t ss in
          let c' = raw_coefficient (adds t x) t.position (num d n t.width) c in
          let n' = n + t.width in
          ap (λ (o : Source). onto (coefficient_at s d t o c x r n) (sign_at s d t o x r) (walk s d (replicate (length cs) t) cs ss (reader_at s d t o r) (count_at s d t o n))) (source_raw t x h q)
          ∙ ap (onto c' x) (ih r n')
          ∙ sym (over_shift srl is c' x (over raw s d t os (walked cs ss r n')))
          ∙ ap (over srl s d t (map suc is)) (sym (over_shift raw os c' x (walked cs ss r n')))

  -- ════ how far the readers go ════

  pub walk_near : (k : ℕ) (cs ss : List ℤ) (r : Reader) (n : ℕ) → Width t.width → r.kp ≤ 80 → Near (walk s d (replicate k t) cs ss r n) (r.read + 40000 * k) (n + 40000 * k)
  unfolding walk
  walk_near zero cs ss r n h l = record { kp = l; srl_read_lem = omega arith; raw_read = omega arith }
  walk_near (suc k) [] ss r n h l = record { kp = l; srl_read_lem = omega arith; raw_read = omega arith }
  walk_near (suc k) (c ∷ cs) [] r n h l = record { kp = l; srl_read_lem = omega arith; raw_read = omega arith }
  walk_near (suc k) (c ∷ cs) (x ∷ ss) r n h l = by (source t x) (λ r n. walk_near k cs ss r n h)
    where
      by : (o : Source) → ((r : Reader) (n : ℕ) → r.kp ≤ 80 → Near (walk s d (replicate k t) cs ss r n) (r.read + 40000 * k) (n + 40000 * k))
          → Near (onto (coefficient_at s d t o c x r n) (sign_at s d t o x r) (walk s d (replicate k t) cs ss (reader_at s d t o r) (count_at s d t o n))) (r.read + 40000 * suc k) (n + 40000 * suc k)
      by skipped ih = let y = ih r n l in record { kp = y.kp; srl_read_lem = omega (arith, y.srl_read_lem); raw_read = omega (arith, y.raw_read) }
      by srl ih =
          let near = next_near s t.width r l in
          let y = ih (next_reader s t.width r) n near.1 in
          record { kp = y.kp; srl_read_lem = omega (arith, y.srl_read_lem, near.0, pow_high t.width h); raw_read = omega (arith, y.raw_read) }
      by raw ih = let y = ih r (n + t.width) l in record { kp = y.kp; srl_read_lem = omega (arith, y.srl_read_lem); raw_read = omega (arith, y.raw_read, h.1) }

  -- ════ a list of SRL places ════

  -- readers that give the same
  over_same : (is : List ℕ) (cs ss : List ℤ) (r q : Reader) (m : ℕ) → Same s (length is) r q → over srl s d t is (walked cs ss r m) ≡ over srl s d t is (walked cs ss q m)
  unfolding over
  over_same [] cs ss r q m e = ap (λ (p : Reader). walked cs ss p m) e
  over_same (i ∷ is) cs ss r q m e =
      let f = e t.width in
      let v = next_value s t.width q in
      ap (λ (v : ℤ). over srl s d t is (walked (set cs i (srl_coefficient t.position v (get_or cs i (pos 0)))) (set ss i (srl_sign v (get_or ss i (pos 0)))) (next_reader s t.width r) m)) f.0
      ∙ over_same is (set cs i (srl_coefficient t.position v (get_or cs i (pos 0)))) (set ss i (srl_sign v (get_or ss i (pos 0)))) (next_reader s t.width r) (next_reader s t.width q) m f.1

  -- the zeros of a run, as many as there are places
  over_run : (is : List ℕ) (cs ss : List ℤ) (n kp run : ℕ) (p : Bool) (m : ℕ)
      → over srl s d t is (walked cs ss (reader n kp run p) m) ≡ over srl s d t (drop run is) (walked cs ss (reader n kp (run - length is) p) m)
  unfolding over
  over_run is cs ss n kp zero p m = ap (λ (k : ℕ). over srl s d t is (walked cs ss (reader n kp k p) m)) {x = 0} {y = 0 - length is} (omega arith)
  over_run [] cs ss n kp (suc run) p m = ap (λ (k : ℕ). walked cs ss (reader n kp k p) m) {x = suc run} {y = suc run - 0} (omega arith)
  over_run (i ∷ is) cs ss n kp (suc run) p m =
      (λ j. over srl s d t is (walked (set-get_or cs i (pos 0) j) (set-get_or ss i (pos 0) j) (reader n kp run p) m))
      ∙ over_run is cs ss n kp run p m
      ∙ ap (λ (k : ℕ). over srl s d t (drop run is) (walked cs ss (reader n kp k p) m)) {x = run - length is} {y = suc run - suc (length is)} (omega arith)

  -- ════ a turn of a loop, at the j-th place of a list ════

  -- what is left of SRL places, with the slices and the reader as they are: the zeros up to place j are given
  abbrev pub left : List ℕ → List ℤ → List ℤ → ℕ → ℕ → ℕ → Bool → ℕ → Walked
  left list cs ss j at kp pending m = over srl s d t (drop j list) (walked cs ss (reader at kp (j - length list) pending) m)

  module _ (list : List ℕ) where
    abbrev n : ℕ
    n = length list

    -- the next place
    next : (j i : ℕ) → j < n → i ≡ get_or list j 0 → drop j list ≡ i ∷ drop (j + 1) list
    next j i h e =
        drop-cons list j 0 h ∙ ap₂ (λ (x k : ℕ). x ∷ drop k list) (sym e) (sym (add-one j))

    -- none
    pub turn_end : (o : Source) (j : ℕ) (w : Walked) → n ≤ j → over o s d t (drop j list) w ≡ w
    unfolding over
    turn_end o j w h = ap (λ (is : List ℕ). over o s d t is w) (drop_of_length-le list {i = j} h)

    -- raw bits
    pub turn_raw : (cs ss : List ℤ) (r : Reader) (j at i : ℕ) → j < n → i ≡ get_or list j 0
        → over raw s d t (drop j list) (walked cs ss r at)
        ≡ over raw s d t (drop (j + 1) list) (walked (set cs i (raw_coefficient (adds t (get_or ss i (pos 0))) t.position (num d at t.width) (get_or cs i (pos 0)))) ss r (at + t.width))
    unfolding over
    turn_raw cs ss r j at i h e =
        let cs' = set cs i (raw_coefficient (adds t (get_or ss i (pos 0))) t.position (num d at t.width) (get_or cs i (pos 0))) in
        ap (λ (is : List ℕ). over raw s d t is (walked cs ss r at)) (next j i h e)
        ∙ ap (λ (l : List ℤ). over raw s d t (drop (j + 1) list) (walked cs' l r (at + t.width))) (set-get_or ss i (pos 0))

    pub turn_start : (cs ss : List ℤ) (at kp run : ℕ) (pending : Bool) (m : ℕ) → over srl s d t list (walked cs ss (reader at kp run pending) m) ≡ left list cs ss run at kp pending m
    turn_start cs ss at kp run pending m =
        over_run list cs ss at kp run pending m

    -- code words
    pub turn_codes : (cs ss : List ℤ) (j at kp run at' kp' : ℕ) (pending pending' : Bool) (m : ℕ) → j < n → Same s (n - j) (reader at kp 0 pending) (reader at' kp' run pending')
        → left list cs ss j at kp pending m ≡ left list cs ss (j + run) at' kp' pending' m
    turn_codes cs ss j at kp run at' kp' pending pending' m h same =
        let is = drop j list in
        let z : j - n ≡ 0 = omega arith in
        let y : run - length is ≡ j + run - n = omega (arith, length-drop j list) in
        ap (λ (k : ℕ). over srl s d t is (walked cs ss (reader at kp k pending) m)) z
        ∙ over_same is cs ss (reader at kp 0 pending) (reader at' kp' run pending') m (subst (λ (k : ℕ). Same s k (reader at kp 0 pending) (reader at' kp' run pending')) (sym (length-drop j list)) same)
        ∙ over_run is cs ss at' kp' run pending' m
        ∙ ap₂ (λ (l : List ℕ) (k : ℕ). over srl s d t l (walked cs ss (reader at' kp' k pending') m)) (drop-drop run j list) y

    -- a nonzero value
    pub turn_value : (cs ss : List ℤ) (j at kp i : ℕ) (pending : Bool) (m : ℕ) → j < n → pending ≡ true → i ≡ get_or list j 0
        → left list cs ss j at kp pending m
        ≡ left list (set cs i (srl_coefficient t.position (nonzero s at t.width) (get_or cs i (pos 0)))) (set ss i (srl_sign (nonzero s at t.width) (get_or ss i (pos 0)))) (j + 1) (behind s at t.width) kp false m
    unfolding over
    turn_value cs ss j at kp i pending m h e f =
        let v = nonzero s at t.width in
        let z : j - n ≡ 0 = omega arith in
        let z' : 0 ≡ j + 1 - n = omega arith in
        (λ x. over srl s d t (next j i h f x) (walked cs ss (reader at kp (z x) (e x)) m))
        ∙ ap (λ (k : ℕ). over srl s d t (drop (j + 1) list) (walked (set cs i (srl_coefficient t.position v (get_or cs i (pos 0)))) (set ss i (srl_sign v (get_or ss i (pos 0)))) (reader (behind s at t.width) kp k false) m)) z'
