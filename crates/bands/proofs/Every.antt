-- `every` by its elements, of parts of a list, and of two lists one after another.
-- Assumes nothing.
use mathlib.Core.Bool.{Bool, true, false, ◌&&◌, true≢false}
use mathlib.Core.List.{List, [], ◌∷◌, ◌++◌}
use mathlib.Core.Path.{◌≡◌, refl, sym}
use Prim.Native.Nat.{ℕ, zero, suc, ◌<◌, ◌≤◌}
use native.Mathlib.Decide.{dec_lt}
use native.Mathlib.Omega.{arith}
use borrow.Author.Tests.{leb-true}
use lib.ListN.{length, get_or, take, drop, get_or-eq_default}
use Rattle.bands.specs.Bands.{position_of}
use Rattle.bands.specs.Positions.{every, in_domain, row_in_domain}

-- where two tests hold together, each does
pub both_true : (a b : Bool) → (a && b) ≡ true → (a ≡ true) × (b ≡ true)
both_true true b e = (refl, e)
both_true false b e = absurd (true≢false (sym e))

-- and where each does, both
pub both_pass : (a b : Bool) → a ≡ true → b ≡ true → (a && b) ≡ true
both_pass true b p q = q
both_pass false b p q = p

-- each element passes a test that every one passes
pub at : {A : Type 0} (f : A → Bool) (l : List A) (i : ℕ) (d : A) → every f l ≡ true → i < length l → f (get_or l i d) ≡ true
at f [] i d e h = absurd (omega arith)
at f (x ∷ xs) zero d e h = (both_true (f x) (every f xs) e).0
at f (x ∷ xs) (suc i) d e h = at f xs i d (both_true (f x) (every f xs) e).1 (omega arith)

-- and where each does, every one does
pub each_passes : {A : Type 0} (f : A → Bool) (l : List A) (d : A) → ((i : ℕ) → i < length l → f (get_or l i d) ≡ true) → every f l ≡ true
each_passes f [] d h = refl
each_passes f (x ∷ xs) d h = both_pass (f x) (every f xs) (h zero (omega arith)) (each_passes f xs d (λ i k. h (suc i) (omega arith)))

-- so do those of a part, and those of two lists one after another
module _ {A : Type 0} (f : A → Bool) where
  take_passes : (n : ℕ) (l : List A) → every f l ≡ true → every f (take n l) ≡ true
  take_passes zero l e = refl
  take_passes (suc n) [] e = refl
  take_passes (suc n) (x ∷ xs) e =
      let p = both_true (f x) (every f xs) e in
      both_pass (f x) (every f (take n xs)) p.0 (take_passes n xs p.1)

  drop_passes : (n : ℕ) (l : List A) → every f l ≡ true → every f (drop n l) ≡ true
  drop_passes zero l e = e
  drop_passes (suc n) [] e = refl
  drop_passes (suc n) (x ∷ xs) e = drop_passes n xs (both_true (f x) (every f xs) e).1

  pub part_passes : (n i : ℕ) (l : List A) → every f l ≡ true → every f (take n (drop i l)) ≡ true
  part_passes n i l e = take_passes n (drop i l) (drop_passes i l e)

  pub append_passes : (a b : List A) → every f a ≡ true → every f b ≡ true → every f (a ++ b) ≡ true
  append_passes [] b h k = k
  append_passes (x ∷ a) b h k =
      let p = both_true (f x) (every f a) h in
      both_pass (f x) (every f (a ++ b)) p.0 (append_passes a b p.1 k)

-- a row in the domain has no position above 15; past its end they are 0
pub row_low : (row : List ℕ) (b : ℕ) → row_in_domain row ≡ true → position_of row b ≤ 15
row_low row b e = by (dec_lt b (length row))
  where
    by : Dec (b < length row) → position_of row b ≤ 15
    by (yes h) = leb-true (position_of row b) 15 (at in_domain row b 0 e h)
    by (no h) = omega (arith, get_or-eq_default row 0 {n = b} (omega arith))
