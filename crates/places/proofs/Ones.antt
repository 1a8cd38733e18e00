-- Places by the ones of a number: k elements more, how many there are, and those without the property.
use mathlib.Core.Path.{◌≡◌, refl, sym, ap, ap₂, ◌∙◌}
use mathlib.Core.Bool.{Bool, true, false, cond, not}
use mathlib.Core.List.{List, [], ◌∷◌, ◌++◌, map, append-nil, append_assoc}
use Prim.Native.Nat.{ℕ, zero, suc, ◌+◌, ◌*◌, ◌/◌, ◌%◌, ◌^◌, ◌≤◌, ◌<◌}
use native.Mathlib.Nat.{add-zero, zero-add, suc-add, pow-suc, mul_comm, mul_assoc}
use native.Mathlib.Omega.{arith}
use lib.Dec.{eqb}
use lib.ListN.{length, get_or, take, length-map}
use lib.Seq.{length-take-le, take-suc}
use Rattle.places.specs.Inner.{places_of, mask_of, ones_of}

pub map_append : (f : ℕ → ℕ) (a b : List ℕ) → map f (a ++ b) ≡ map f a ++ map f b
map_append f [] b = refl
map_append f (x ∷ a) b = ap (λ (l : List ℕ). f x ∷ l) (map_append f a b)

-- ════ one element more ════

pub places_next : {A : Type 0} (f : A → Bool) (xs : List A) (x : A) → places_of f (xs ++ (x ∷ [])) ≡ places_of f xs ++ cond (f x) (length xs ∷ []) []
unfolding places_of
places_next f [] x = refl
places_next f (y ∷ xs) x = by (f y) (f x) (places_next f xs x)
  where
    last : (b : Bool) → map suc (cond b (length xs ∷ []) []) ≡ cond b (suc (length xs) ∷ []) []
    last true = refl
    last false = refl

    by : (a b : Bool) → places_of f (xs ++ (x ∷ [])) ≡ places_of f xs ++ cond b (length xs ∷ []) []
        → cond a (0 ∷ map suc (places_of f (xs ++ (x ∷ [])))) (map suc (places_of f (xs ++ (x ∷ []))))
        ≡ cond a (0 ∷ map suc (places_of f xs)) (map suc (places_of f xs)) ++ cond b (suc (length xs) ∷ []) []
    by true b e = ap (λ (l : List ℕ). 0 ∷ l) (ap (map suc) e ∙ map_append suc (places_of f xs) (cond b (length xs ∷ []) []) ∙ ap (λ (l : List ℕ). map suc (places_of f xs) ++ l) (last b))
    by false b e = ap (map suc) e ∙ map_append suc (places_of f xs) (cond b (length xs ∷ []) []) ∙ ap (λ (l : List ℕ). map suc (places_of f xs) ++ l) (last b)

-- of a list's first places
pub places_suc : {A : Type 0} (f : A → Bool) (d : A) (xs : List A) (i : ℕ) → i < length xs → places_of f (take (suc i) xs) ≡ places_of f (take i xs) ++ cond (f (get_or xs i d)) (i ∷ []) []
places_suc f d xs i h =
    ap (places_of f) (take-suc xs i d h) ∙ places_next f (take i xs) (get_or xs i d)
    ∙ ap (λ (j : ℕ). places_of f (take i xs) ++ cond (f (get_or xs i d)) (j ∷ []) []) (length-take-le i xs (omega arith))

-- ════ the ones of a mask ════

-- the lowest bit, and those above it
ones_cons : (b : Bool) (k m : ℕ) → ones_of (suc k) (cond b 1 0 + 2 * m) ≡ cond b (0 ∷ []) [] ++ map suc (ones_of k m)
unfolding ones_of
ones_cons true k m =
    let r : (1 + 2 * m) % 2 ≡ 1 = omega arith in
    let q : (1 + 2 * m) / 2 ≡ m = omega arith in
    ap₂ (λ (x y : ℕ). cond (eqb x 1) (0 ∷ map suc (ones_of k y)) (map suc (ones_of k y))) r q
ones_cons false k m =
    let r : (0 + 2 * m) % 2 ≡ 0 = omega arith in
    let q : (0 + 2 * m) / 2 ≡ m = omega arith in
    ap₂ (λ (x y : ℕ). cond (eqb x 1) (0 ∷ map suc (ones_of k y)) (map suc (ones_of k y))) r q

-- counted from i on
shifted : (i : ℕ) (l : List ℕ) → map (λ p. i + p) (map suc l) ≡ map (λ p. suc i + p) l
shifted i [] = refl
shifted i (x ∷ l) = let e : i + suc x ≡ suc i + x = omega arith in ap₂ (λ (y : ℕ) (ys : List ℕ). y ∷ ys) e (shifted i l)

first : (i : ℕ) (b : Bool) → map (λ p. i + p) (cond b (0 ∷ []) []) ≡ cond b (i ∷ []) []
first i true = ap (λ (y : ℕ). y ∷ []) (add-zero i)
first i false = refl

module _ {A : Type 0} (f : A → Bool) (d : A) (xs : List A) where
  -- k elements more: the ones of their mask
  pub places_more : (k i : ℕ) → i + k ≤ length xs → places_of f (take (i + k) xs) ≡ places_of f (take i xs) ++ map (λ p. i + p) (ones_of k (mask_of f d xs i k))
  unfolding mask_of ones_of
  places_more zero i h = ap (λ (j : ℕ). places_of f (take j xs)) (add-zero i) ∙ sym (append-nil (places_of f (take i xs)))
  places_more (suc k) i h =
      let b = f (get_or xs i d) in
      let m = mask_of f d xs (suc i) k in
      let tail : map (λ p. i + p) (ones_of (suc k) (cond b 1 0 + 2 * m)) ≡ cond b (i ∷ []) [] ++ map (λ p. suc i + p) (ones_of k m) =
      ap (map (λ p. i + p)) (ones_cons b k m) ∙ map_append (λ p. i + p) (cond b (0 ∷ []) []) (map suc (ones_of k m)) ∙ ap₂ (λ (u v : List ℕ). u ++ v) (first i b) (shifted i (ones_of k m)) in
      let e : i + suc k ≡ suc i + k = omega arith in
      ap (λ (j : ℕ). places_of f (take j xs)) e
      ∙ places_more k (suc i) (omega arith)
      ∙ ap (λ (l : List ℕ). l ++ map (λ p. suc i + p) (ones_of k m)) (places_suc f d xs i (omega arith))
      ∙ append_assoc (places_of f (take i xs)) (cond b (i ∷ []) []) (map (λ p. suc i + p) (ones_of k m))
      ∙ ap (λ (l : List ℕ). places_of f (take i xs) ++ l) (sym tail)

  -- the mask of the elements without the property
  pub mask_not : (k i : ℕ) → mask_of f d xs i k + mask_of (λ x. not (f x)) d xs i k + 1 ≡ 2 ^ k
  unfolding mask_of
  mask_not zero i = refl
  mask_not (suc k) i = by (f (get_or xs i d)) (mask_of f d xs (suc i) k) (mask_of (λ x. not (f x)) d xs (suc i) k) (mask_not k (suc i)) ∙ sym (pow-suc 2 k ∙ mul_comm (2 ^ k) 2)
    where
      by : (b : Bool) (m n : ℕ) {p : ℕ} → m + n + 1 ≡ p → cond b 1 0 + 2 * m + (cond (not b) 1 0 + 2 * n) + 1 ≡ 2 * p
      by true m n e = omega (arith, e)
      by false m n e = omega (arith, e)

  -- a mask in two parts
  pub mask_add : (j k i : ℕ) → mask_of f d xs i (j + k) ≡ mask_of f d xs i j + 2 ^ j * mask_of f d xs (i + j) k
  unfolding mask_of
  mask_add zero k i =
      ap₂ (λ (a b : ℕ). mask_of f d xs a b) (sym (add-zero i)) (zero-add k) ∙ omega arith
  mask_add (suc j) k i =
      let e : suc i + j ≡ i + suc j = omega arith in
      ap (mask_of f d xs i) (suc-add j k) ∙ by (mask_of f d xs (suc i) j) (mask_of f d xs (i + suc j) k) (mask_add j k (suc i) ∙ ap (λ (a : ℕ). mask_of f d xs (suc i) j + 2 ^ j * mask_of f d xs a k) e)
    where
      by : (m n : ℕ) → mask_of f d xs (suc i) (j + k) ≡ m + 2 ^ j * n
          → cond (f (get_or xs i d)) 1 0 + 2 * mask_of f d xs (suc i) (j + k) ≡ cond (f (get_or xs i d)) 1 0 + 2 * m + 2 ^ suc j * n
      by m n e =
          let p : 2 ^ suc j * n ≡ 2 * (2 ^ j * n) = ap (λ (x : ℕ). x * n) (pow-suc 2 j ∙ mul_comm (2 ^ j) 2) ∙ mul_assoc 2 (2 ^ j) n in
          omega (arith, e, p)

  -- each element is among the ones or among the others
  pub ones_both : (k i : ℕ) → length (ones_of k (mask_of f d xs i k)) + length (ones_of k (mask_of (λ x. not (f x)) d xs i k)) ≡ k
  unfolding mask_of ones_of
  ones_both zero i = refl
  ones_both (suc k) i =
      by (f (get_or xs i d)) (mask_of f d xs (suc i) k) (mask_of (λ x. not (f x)) d xs (suc i) k) (ones_both k (suc i))
    where
      one : (b : Bool) (m : ℕ) → length (ones_of (suc k) (cond b 1 0 + 2 * m)) ≡ cond b 1 0 + length (ones_of k m)
      one true m = ap length (ones_cons true k m) ∙ ap suc (length-map (ones_of k m) suc) ∙ (omega arith)
      one false m = ap length (ones_cons false k m) ∙ length-map (ones_of k m) suc ∙ sym (zero-add (length (ones_of k m)))

      by : (b : Bool) (m n : ℕ) → length (ones_of k m) + length (ones_of k n) ≡ k
          → length (ones_of (suc k) (cond b 1 0 + 2 * m)) + length (ones_of (suc k) (cond (not b) 1 0 + 2 * n)) ≡ suc k
      by true m n e = omega (arith, one true m, one false n, e)
      by false m n e = omega (arith, one false m, one true n, e)
