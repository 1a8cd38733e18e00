-- Three parts of one length in one list: a part of what is joined, a list by its parts, and the parts replaced one after another.
-- The length n is any: `component` is at 4096, `row_of` at 10.
use mathlib.Core.Path.{◌≡◌, refl, sym, ap, ap₂, ◌∙◌}
use mathlib.Core.Bool.{Bool, true, false, cond}
use mathlib.Core.List.{List, [], ◌++◌, append_assoc, append-nil}
use Prim.Native.Nat.{ℕ, zero, suc, ◌+◌, ◌*◌, ◌<◌, ◌≤◌}
use native.Mathlib.Omega.{arith}
use borrow.Author.Tests.{le-ltb}
use borrow.Rule.Slice.PartMut.{put_mid}
use lib.Dec.{ltb}
use lib.ListN.{length, take, drop, length-append, length-drop, take-append-drop, drop_of_length-le}
use lib.Seq.{take_at, drop_at, drop-drop, take_all, take-add, length-take-le}
use Rattle.planes.specs.Planes.{component, row_of, joined, three, of}

-- the one with a number
pub three_of_lem : {A : Type 0} (f : ℕ → List A) (k : ℕ) → k < 3 → of (three (f 0) (f 1) (f 2)) k ≡ f k
three_of_lem f zero h = refl
three_of_lem f (suc zero) h = refl
three_of_lem f (suc (suc zero)) h = refl
three_of_lem f (suc (suc (suc k))) h = absurd (omega arith)

-- each of the three has n elements
abbrev pub Long : {A : Type 0} → ℕ → (ℕ → List A) → Type 0
Long n f = (k : ℕ) → k < 3 → length (f k) ≡ n

-- the first k of the three are new, the others old
abbrev pub up_to : {A : Type 0} → ℕ → (ℕ → List A) → (ℕ → List A) → ℕ → List A
up_to k new old j = cond (ltb j k) (new j) (old j)

module _ {A : Type 0} (n : ℕ) where
  -- what lies from a part on
  from_first : (l : List A) → drop (0 * n) l ≡ l
  from_first l = let e : 0 * n ≡ 0 = omega arith in ap (λ (p : ℕ). drop p l) e

  from_second : (l : List A) → drop (1 * n) l ≡ drop n l
  from_second l = let e : 1 * n ≡ n = omega arith in ap (λ (p : ℕ). drop p l) e

  from_third : (l : List A) → drop (2 * n) l ≡ drop n (drop n l)
  from_third l = let e : 2 * n ≡ n + n = omega arith in ap (λ (p : ℕ). drop p l) e ∙ sym (drop-drop n n l)

  pub joined_long : (f : ℕ → List A) → Long n f → length (joined f) ≡ 3 * n
  joined_long f h = simp length-append (omega (arith, h 0 (omega arith), h 1 (omega arith), h 2 (omega arith)))

  pub part_joined : (f : ℕ → List A) → Long n f → (k : ℕ) → k < 3 → take n (drop (k * n) (joined f)) ≡ f k
  part_joined f h zero p = ap (take n) (from_first (joined f)) ∙ take_at (f 0) (f 1 ++ f 2) n (h 0 p)
  part_joined f h (suc zero) p = ap (take n) (from_second (joined f) ∙ drop_at (f 0) (f 1 ++ f 2) n (h 0 (omega arith))) ∙ take_at (f 1) (f 2) n (h 1 p)
  part_joined f h (suc (suc zero)) p =
      ap (take n) (from_third (joined f) ∙ ap (drop n) (drop_at (f 0) (f 1 ++ f 2) n (h 0 (omega arith))) ∙ drop_at (f 1) (f 2) n (h 1 (omega arith)))
      ∙ take_all n (f 2) (omega (arith, h 2 p))
  part_joined f h (suc (suc (suc k))) p = absurd (omega arith)

  pub joined_parts : (l : List A) → length l ≡ 3 * n → joined (λ k. take n (drop (k * n) l)) ≡ l
  joined_parts l h =
      let last : take n (drop (2 * n) l) ≡ drop n (drop n l) = take_all n (drop (2 * n) l) (omega (arith, length-drop (2 * n) l)) ∙ from_third l in
      ap₂ (λ (x y : List A). x ++ y) (ap (take n) (from_first l)) (ap₂ (λ (x y : List A). x ++ y) (ap (take n) (from_second l)) last ∙ take-append-drop n (drop n l))
      ∙ take-append-drop n l

  pub parts_long : (l : List A) → length l ≡ 3 * n → Long n (λ k. take n (drop (k * n) l))
  parts_long l h k p = length-take-le n (drop (k * n) l) (enough k p)
    where
      enough : (k : ℕ) → k < 3 → n ≤ length (drop (k * n) l)
      enough zero p = simp length-drop (omega arith)
      enough (suc zero) p = simp length-drop (omega arith)
      enough (suc (suc zero)) p = simp length-drop (omega arith)
      enough (suc (suc (suc k))) p = absurd (omega arith)

  -- ════ the parts replaced one after another ════

  -- a part put where it lies
  put_first : (a b y : List A) → length a ≡ n → put_mid (0 * n) n (a ++ b) y ≡ y ++ b
  put_first a b y h =
      let e : 0 * n ≡ 0 = omega arith in
      ap (λ (p : ℕ). put_mid p n (a ++ b) y) e ∙ ap (λ (l : List A). y ++ l) (drop_at a b n h)

  put_second : (a b c y : List A) → length a ≡ n → length b ≡ n → put_mid (1 * n) n (a ++ (b ++ c)) y ≡ a ++ (y ++ c)
  put_second a b c y h j =
      let e : 1 * n ≡ n = omega arith in
      ap (λ (p : ℕ). put_mid p n (a ++ (b ++ c)) y) e
      ∙ ap₂ (λ (x z : List A). x ++ (y ++ z)) (take_at a (b ++ c) n h) (ap (drop n) (drop_at a (b ++ c) n h) ∙ drop_at b c n j)

  put_third : (a b c y : List A) → length a ≡ n → length b ≡ n → length c ≡ n → put_mid (2 * n) n (a ++ (b ++ c)) y ≡ a ++ (b ++ y)
  put_third a b c y h j k =
      let e : 2 * n ≡ n + n = omega arith in
      let l = a ++ (b ++ c) in
      let front : take (n + n) l ≡ a ++ b = take-add n n l ∙ ap₂ (λ (x z : List A). x ++ z) (take_at a (b ++ c) n h) (ap (take n) (drop_at a (b ++ c) n h) ∙ take_at b c n j) in
      let back : drop n (drop (n + n) l) ≡ [] = drop-drop n (n + n) l ∙ drop_of_length-le l {i = n + n + n} (omega (arith, length-append a (b ++ c), length-append b c)) in
      ap (λ (p : ℕ). put_mid p n l y) e ∙ ap₂ (λ (x z : List A). x ++ (y ++ z)) front back ∙ append_assoc a b (y ++ []) ∙ ap (λ (x : List A). a ++ (b ++ x)) (append-nil y)

  module _ (new old : ℕ → List A) (longNew : Long n new) (longOld : Long n old) where
    long : (k : ℕ) → Long n (up_to k new old)
    long k j h = by (ltb j k)
      where
        by : (b : Bool) → length (cond b (new j) (old j)) ≡ n
        by true = longNew j h
        by false = longOld j h

    -- the next part is old yet
    pub here : (k : ℕ) → k < 3 → (l : List A) → l ≡ joined (up_to k new old) → take n (drop (k * n) l) ≡ old k
    here k p l e =
        ap (λ (x : List A). take n (drop (k * n) x)) e ∙ part_joined (up_to k new old) (long k) k p
        ∙ ap (λ (b : Bool). cond b (new k) (old k)) (le-ltb k k (omega arith))

    -- and the new one is put there
    pub next : (k : ℕ) → k < 3 → (l y : List A) → l ≡ joined (up_to k new old) → y ≡ new k → put_mid (k * n) n l y ≡ joined (up_to (suc k) new old)
    next k p l y e d = ap₂ (put_mid (k * n) n) e d ∙ by k p
      where
        by : (k : ℕ) → k < 3 → put_mid (k * n) n (joined (up_to k new old)) (new k) ≡ joined (up_to (suc k) new old)
        by zero p = put_first (old 0) (old 1 ++ old 2) (new 0) (longOld 0 p)
        by (suc zero) p = put_second (new 0) (old 1) (old 2) (new 1) (longNew 0 (omega arith)) (longOld 1 p)
        by (suc (suc zero)) p = put_third (new 0) (new 1) (old 2) (new 2) (longNew 0 (omega arith)) (longNew 1 (omega arith)) (longOld 2 p)
        by (suc (suc (suc k))) p = absurd (omega arith)

  -- all three
  pub put_all : (new : ℕ → List A) → Long n new → (l : List A) → length l ≡ 3 * n → {a b c : List A} → a ≡ new 0 → b ≡ new 1 → c ≡ new 2
      → put_mid (2 * n) n (put_mid (1 * n) n (put_mid (0 * n) n l a) b) c ≡ joined new
  put_all new h l e {a} {b} {c} p q r =
      let old : ℕ → List A = λ k. take n (drop (k * n) l) in
      let one = next new old h (parts_long l e) 0 (omega arith) l a (sym (joined_parts l e)) p in
      let two = next new old h (parts_long l e) 1 (omega arith) (put_mid (0 * n) n l a) b one q in
      next new old h (parts_long l e) 2 (omega arith) (put_mid (1 * n) n (put_mid (0 * n) n l a) b) c two r

-- ════ components and rows ════

pub component_joined : {A : Type 0} (f : ℕ → List A) → Long 4096 f → (k : ℕ) → k < 3 → component k (joined f) ≡ f k
component_joined = part_joined 4096

pub row_joined : (f : ℕ → List ℕ) → Long 10 f → (k : ℕ) → k < 3 → row_of k (joined f) ≡ f k
row_joined = part_joined 10

pub joined_components : {A : Type 0} (l : List A) → length l ≡ 12288 → joined (λ k. component k l) ≡ l
joined_components = joined_parts 4096
