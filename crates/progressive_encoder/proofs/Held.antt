-- Laws of a list of words of which the first ones count: one more, each of them, the one at a place. Assumes nothing.
use mathlib.Core.Path.{◌≡◌, refl, ap, ◌∙◌}
use mathlib.Core.List.{List, [], ◌∷◌, ◌++◌}
use Prim.Native.Nat.{ℕ, zero, suc, ◌+◌, ◌<◌}
use native.Mathlib.Nat.{add-zero, le_refl}
use native.Mathlib.Numerals.{add-one}
use native.Mathlib.Omega.{arith}
use lib.ListN.{length, get_or, set, take}
use lib.Seq.{take-suc-set, take-set-le}
use Rattle.progressive_encoder.specs.Inner.{Each, held, words_of}

-- a word behind n others counts, or does not
pub behind_others : (l : List ℕ) (n v : ℕ) → n < length l → held (words_of (set l n v) (n + 1)) ≡ take n l ++ (v ∷ [])
behind_others l n v h = ap (λ (m : ℕ). take m (set l n v)) (add-one n) ∙ take-suc-set l n v h

pub none_behind : (l : List ℕ) (n v : ℕ) → held (words_of (set l n v) (n + 0)) ≡ take n l
none_behind l n v = ap (λ (m : ℕ). take m (set l n v)) (add-zero n) ∙ take-set-le n l n v (le_refl n)

-- the first n + 1 words are the first n and the next
pub one_more : (l : List ℕ) (n : ℕ) → n < length l → take (n + 1) l ≡ take n l ++ (get_or l n 0 ∷ [])
one_more l n h = ap (λ (m : ℕ). take m l) (add-one n) ∙ by l n h
  where
    by : (l : List ℕ) (n : ℕ) → n < length l → take (suc n) l ≡ take n l ++ (get_or l n 0 ∷ [])
    by [] n h = absurd (omega arith)
    by (x ∷ l) zero h = refl
    by (x ∷ l) (suc n) h = ap (λ (r : List ℕ). x ∷ r) (by l n (omega arith))

-- what each of some words is, and each of others, each of both is
pub each_append : {P : ℕ → Type 0} {a b : List ℕ} → Each P a → Each P b → Each P (a ++ b)
each_append Each.none h = h
each_append (Each.one e l) h = Each.one e (each_append l h)

-- so is the one at a place
pub each_at : {P : ℕ → Type 0} (l : List ℕ) (i : ℕ) → Each P l → i < length l → P (get_or l i 0)
each_at [] i e h = absurd (omega arith)
each_at (x ∷ l) zero (Each.one e es) h = e
each_at (x ∷ l) (suc i) (Each.one e es) h = each_at l i es (omega arith)
