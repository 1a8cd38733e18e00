-- Rows made place by place of two or three rows (`zip_with`, `zip_with3`): how long they are, what stands at a place, and what is left without the first place.
-- Assumes nothing.
use mathlib.Core.Path.{◌≡◌, refl, ap, ◌∙◌}
use mathlib.Core.List.{List, [], ◌∷◌, zip_with}
use Prim.Native.Nat.{ℕ, zero, suc, ◌<◌}
use native.Mathlib.Omega.{arith}
use lib.IntN.{ℤ}
use lib.ListN.{length, get_or, drop}
use Rattle.dwt_columns.specs.Inner.{zip_with3}

-- ════ of two ════

-- as long as both
pub zip_length : {A B C : Type 0} {w : ℕ} (f : A → B → C) (a : List A) (b : List B) → length a ≡ w → length b ≡ w → length (zip_with f a b) ≡ w
unfolding zip_with
zip_length f [] b e g = e
zip_length f (x ∷ a) [] e g = absurd (omega arith)
zip_length f (x ∷ a) (y ∷ b) e g = ap suc (zip_length f a b refl (omega arith)) ∙ e

-- a place, of the same place in both
pub zip_get : (f : ℤ → ℤ → ℤ) (a b : List ℤ) (i : ℕ) (z : ℤ) → i < length a → i < length b → get_or (zip_with f a b) i z ≡ f (get_or a i z) (get_or b i z)
unfolding zip_with
zip_get f [] b i z e g = absurd (omega arith)
zip_get f (x ∷ a) [] i z e g = absurd (omega arith)
zip_get f (x ∷ a) (y ∷ b) zero z e g = refl
zip_get f (x ∷ a) (y ∷ b) (suc i) z e g = zip_get f a b i z (omega arith) (omega arith)

-- without the first place, of both without theirs
pub zip_drop : (f : ℤ → ℤ → ℤ) (a b : List ℤ) → drop 1 (zip_with f a b) ≡ zip_with f (drop 1 a) (drop 1 b)
unfolding zip_with
zip_drop f [] b = refl
zip_drop f (x ∷ []) [] = refl
zip_drop f (x ∷ y ∷ a) [] = refl
zip_drop f (x ∷ a) (y ∷ b) = refl

-- ════ of three ════

-- as long as all three
pub zip3_length : {w : ℕ} (f : ℤ → ℤ → ℤ → ℤ) (a b c : List ℤ) → length a ≡ w → length b ≡ w → length c ≡ w → length (zip_with3 f a b c) ≡ w
unfolding zip_with3
zip3_length f [] b c e g h = e
zip3_length f (x ∷ a) [] c e g h = absurd (omega arith)
zip3_length f (x ∷ a) (y ∷ b) [] e g h = absurd (omega arith)
zip3_length f (x ∷ a) (y ∷ b) (z ∷ c) e g h = ap suc (zip3_length f a b c refl (omega arith) (omega arith)) ∙ e

-- a place, of the same place in all three
pub zip3_get : (f : ℤ → ℤ → ℤ → ℤ) (a b c : List ℤ) (i : ℕ) (z : ℤ) → i < length a → i < length b → i < length c → get_or (zip_with3 f a b c) i z ≡ f (get_or a i z) (get_or b i z) (get_or c i z)
unfolding zip_with3
zip3_get f [] b c i z e g h = absurd (omega arith)
zip3_get f (x ∷ a) [] c i z e g h = absurd (omega arith)
zip3_get f (x ∷ a) (y ∷ b) [] i z e g h = absurd (omega arith)
zip3_get f (x ∷ a) (y ∷ b) (w ∷ c) zero z e g h = refl
zip3_get f (x ∷ a) (y ∷ b) (w ∷ c) (suc i) z e g h = zip3_get f a b c i z (omega arith) (omega arith) (omega arith)

-- without the first place, of all three without theirs
pub zip3_drop : (f : ℤ → ℤ → ℤ → ℤ) (a b c : List ℤ) → drop 1 (zip_with3 f a b c) ≡ zip_with3 f (drop 1 a) (drop 1 b) (drop 1 c)
unfolding zip_with3
zip3_drop f [] b c = refl
zip3_drop f (x ∷ []) [] c = refl
zip3_drop f (x ∷ y ∷ a) [] c = refl
zip3_drop f (x ∷ []) (y ∷ b) [] = refl
zip3_drop f (x ∷ w ∷ a) (y ∷ []) [] = refl
zip3_drop f (x ∷ w ∷ a) (y ∷ v ∷ b) [] = refl
zip3_drop f (x ∷ a) (y ∷ b) (z ∷ c) = refl
