-- Lists of cut coefficients and signs: known ones, how many there are, place by place, and by things that are made of other things. Assumes nothing.
use mathlib.Core.Path.{◌≡◌, refl, ap₂}
use mathlib.Core.Bool.{Bool, true, false}
use mathlib.Core.List.{List, [], ◌∷◌, map}
use Prim.Native.Nat.{ℕ, zero, suc, ◌≤◌, ◌<◌}
use native.Mathlib.Omega.{arith}
use lib.IntN.{ℤ, pos, negsuc}
use lib.ListN.{length, get_or, replicate}
use Rattle.fixed.specs.Fixed.{sign_of}
use Rattle.upgrade_steps.specs.Cut.{cut_at, cut_sign_at, cut_all, cut_signs_all}

-- ════ known cuts ════

-- outside the bottom at 1, 3 and 15, and in the bottom at 1 and 15
abbrev known : List (Bool × ℕ)
known = (false, 1) ∷ (false, 3) ∷ (false, 15) ∷ (false, 15) ∷ (true, 1) ∷ (true, 15) ∷ []

abbrev target : List ℤ
target = negsuc 6 ∷ negsuc 6 ∷ negsuc 32766 ∷ negsuc 32767 ∷ negsuc 6 ∷ negsuc 0 ∷ pos 5 ∷ []

-- -7 to -6 and to 0; -32767 to 0, and -32768 stays; in the bottom -7 to -8, and -1 to -32768
known_cuts : cut_all (λ b. b.0) (λ b. b.1) known target ≡ negsuc 5 ∷ pos 0 ∷ pos 0 ∷ negsuc 32767 ∷ negsuc 7 ∷ negsuc 32767 ∷ []
unfolding cut_all
known_cuts = refl

-- their own signs, and in the bottom those that were there
known_signs : cut_signs_all (λ b. b.0) (λ b. b.1) known target (replicate 6 (pos 7)) ≡ negsuc 0 ∷ pos 0 ∷ pos 0 ∷ negsuc 0 ∷ pos 7 ∷ pos 7 ∷ []
unfolding cut_signs_all sign_of
known_signs = refl

-- ════ as many as there are things, where there are enough ════

module _ {B : Type 0} (bottom : B → Bool) (at : B → ℕ) where
  pub cut_length : (bs : List B) (cs : List ℤ) → length bs ≤ length cs → length (cut_all bottom at bs cs) ≡ length bs
  unfolding cut_all
  cut_length [] cs h = refl
  cut_length (b ∷ bs) [] h = absurd (omega arith)
  cut_length (b ∷ bs) (c ∷ cs) h = omega (arith, cut_length bs cs (omega arith))

  pub cut_signs_length : (bs : List B) (cs ss : List ℤ) → length bs ≤ length cs → length bs ≤ length ss → length (cut_signs_all bottom at bs cs ss) ≡ length bs
  unfolding cut_signs_all
  cut_signs_length [] cs ss h k = refl
  cut_signs_length (b ∷ bs) [] ss h k = absurd (omega arith)
  cut_signs_length (b ∷ bs) (c ∷ cs) [] h k = absurd (omega arith)
  cut_signs_length (b ∷ bs) (c ∷ cs) (s ∷ ss) h k = omega (arith, cut_signs_length bs cs ss (omega arith) (omega arith))

-- ════ place by place ════

module _ {B : Type 0} (bottom : B → Bool) (at : B → ℕ) (d : B) where
  pub cut_at_lem : (bs : List B) (cs : List ℤ) (i : ℕ) → i < length bs → length bs ≤ length cs
      → get_or (cut_all bottom at bs cs) i (pos 0) ≡ cut_at (bottom (get_or bs i d)) (at (get_or bs i d)) (get_or cs i (pos 0))
  unfolding cut_all
  cut_at_lem [] cs i h k = absurd (omega arith)
  cut_at_lem (b ∷ bs) [] i h k = absurd (omega arith)
  cut_at_lem (b ∷ bs) (c ∷ cs) zero h k = refl
  cut_at_lem (b ∷ bs) (c ∷ cs) (suc i) h k = cut_at_lem bs cs i (omega arith) (omega arith)

  pub cut_sign_at_lem : (bs : List B) (cs ss : List ℤ) (i : ℕ) → i < length bs → length bs ≤ length cs → length bs ≤ length ss
      → get_or (cut_signs_all bottom at bs cs ss) i (pos 0) ≡ cut_sign_at (bottom (get_or bs i d)) (at (get_or bs i d)) (get_or cs i (pos 0)) (get_or ss i (pos 0))
  unfolding cut_signs_all
  cut_sign_at_lem [] cs ss i h k l = absurd (omega arith)
  cut_sign_at_lem (b ∷ bs) [] ss i h k l = absurd (omega arith)
  cut_sign_at_lem (b ∷ bs) (c ∷ cs) [] i h k l = absurd (omega arith)
  cut_sign_at_lem (b ∷ bs) (c ∷ cs) (s ∷ ss) zero h k l = refl
  cut_sign_at_lem (b ∷ bs) (c ∷ cs) (s ∷ ss) (suc i) h k l = cut_sign_at_lem bs cs ss i (omega arith) (omega arith) (omega arith)

-- ════ things made of other things: where these have the same positions, the cut is the same ════

module _ {A B : Type 0} (f : A → B) (bottom : B → Bool) (at : B → ℕ) (on : A → ℕ) (same : (a : A) → at (f a) ≡ on a) where
  pub cut_mapped : (bs : List A) (cs : List ℤ) → cut_all bottom at (map f bs) cs ≡ cut_all (λ a. bottom (f a)) on bs cs
  unfolding cut_all
  cut_mapped [] cs = refl
  cut_mapped (b ∷ bs) [] = refl
  cut_mapped (b ∷ bs) (c ∷ cs) = ap₂ (λ (p : ℕ) (l : List ℤ). cut_at (bottom (f b)) p c ∷ l) (same b) (cut_mapped bs cs)

  pub cut_signs_mapped : (bs : List A) (cs ss : List ℤ) → cut_signs_all bottom at (map f bs) cs ss ≡ cut_signs_all (λ a. bottom (f a)) on bs cs ss
  unfolding cut_signs_all
  cut_signs_mapped [] cs ss = refl
  cut_signs_mapped (b ∷ bs) [] ss = refl
  cut_signs_mapped (b ∷ bs) (c ∷ cs) [] = refl
  cut_signs_mapped (b ∷ bs) (c ∷ cs) (s ∷ ss) = ap₂ (λ (p : ℕ) (l : List ℤ). cut_sign_at (bottom (f b)) p c s ∷ l) (same b) (cut_signs_mapped bs cs ss)
