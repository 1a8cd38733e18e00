-- A row that a loop stores place by place: its first i places are those of the row r that it makes. One more place, and all of them.
-- Assumes nothing.
use mathlib.Core.Path.{◌≡◌, refl, sym, ap₂, ◌∙◌}
use mathlib.Core.List.{List, [], ◌∷◌, ◌++◌, zip_with}
use Prim.Native.Nat.{ℕ, ◌+◌, ◌<◌, ◌≤◌}
use native.Mathlib.Numerals.{add-one}
use native.Mathlib.Omega.{arith}
use lib.IntN.{ℤ, pos}
use lib.ListN.{length, get_or, set, take}
use lib.Seq.{take_all, take-suc, take-suc-set}
use Rattle.dwt_columns.specs.Inner.{zip_with3}
use Rattle.dwt_columns.proofs.Places.{zip_length, zip_get, zip3_length, zip3_get}

-- one more place is stored
row_more : (r s : List ℤ) (i : ℕ) (v : ℤ) → i < length r → i < length s → take i s ≡ take i r → v ≡ get_or r i (pos 0) → take (i + 1) (set s i v) ≡ take (i + 1) r
row_more r s i v e f g h =
    rw (add-one i, take-suc-set s i v f, take-suc r i (pos 0) e) (ap₂ (λ (a : List ℤ) (b : ℤ). a ++ (b ∷ [])) g h)

-- of a row made of two rows
pub zip_more : (f : ℤ → ℤ → ℤ) (a b s : List ℤ) (i : ℕ) (v : ℤ) → length b ≡ length a → length s ≡ length a → i < length a → take i s ≡ take i (zip_with f a b)
    → v ≡ f (get_or a i (pos 0)) (get_or b i (pos 0)) → take (i + 1) (set s i v) ≡ take (i + 1) (zip_with f a b)
zip_more f a b s i v eb es h g e =
    let n = zip_length f a b refl eb in
    row_more (zip_with f a b) s i v (omega arith) (omega arith) g (e ∙ sym (zip_get f a b i (pos 0) h (omega arith)))

-- and of three
pub zip3_more : (f : ℤ → ℤ → ℤ → ℤ) (a b c s : List ℤ) (i : ℕ) (v : ℤ) → length b ≡ length a → length c ≡ length a → length s ≡ length a → i < length a → take i s ≡ take i (zip_with3 f a b c)
    → v ≡ f (get_or a i (pos 0)) (get_or b i (pos 0)) (get_or c i (pos 0)) → take (i + 1) (set s i v) ≡ take (i + 1) (zip_with3 f a b c)
zip3_more f a b c s i v eb ec es h g e =
    let n = zip3_length f a b c refl eb ec in
    row_more (zip_with3 f a b c) s i v (omega arith) (omega arith) g (e ∙ sym (zip3_get f a b c i (pos 0) h (omega arith) (omega arith)))

-- all places are stored
pub row_all : (r s : List ℤ) (i : ℕ) → length r ≤ i → length s ≤ i → take i s ≡ take i r → s ≡ r
row_all r s i e f g = sym (take_all i s f) ∙ g ∙ take_all i r e
