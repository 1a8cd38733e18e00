-- Parts of a list: a part put in the place of another (`put`), what lies before it and after it, and a part that goes to the end.
-- Assumes nothing.
use mathlib.Core.Path.{◌≡◌, sym, ap, ◌∙◌}
use mathlib.Core.List.{List, ◌++◌, append_assoc}
use Prim.Native.Nat.{ℕ, ◌+◌, ◌-◌, ◌≤◌}
use native.Mathlib.Omega.{arith}
use lib.IntN.{ℤ}
use lib.ListN.{length, take, drop, length-append, length-drop, take-append-drop}
use lib.Seq.{take_all, drop-drop, take_at, drop_at, length-take-le}
use Rattle.dwt_columns.specs.Inner.{put_part}

-- a part has its length
pub part_length : (d : List ℤ) (w i : ℕ) → i + w ≤ length d → length (take w (drop i d)) ≡ w
part_length d w i e = length-take-le w (drop i d) (simp length-drop (omega arith))

-- a part that goes to the end
pub to_end : (l : List ℤ) (i : ℕ) → take (length l - i) (drop i l) ≡ drop i l
to_end l i = take_all (length l - i) (drop i l) (simp length-drop (omega arith))

-- what is alike from g on is alike from any later place on
pub drop_more : (d d₀ : List ℤ) (g j : ℕ) → g ≤ j → drop g d ≡ drop g d₀ → drop j d ≡ drop j d₀
drop_more d d₀ g j e f =
    let n : g + (j - g) ≡ j = omega arith in
    ap (λ (z : ℕ). drop z d) (sym n) ∙ sym (drop-drop (j - g) g d) ∙ ap (drop (j - g)) f ∙ drop-drop (j - g) g d₀ ∙ ap (λ (z : ℕ). drop z d₀) n

module _ (d u : List ℤ) (i k : ℕ) (e : i ≤ length d) (f : length u ≡ k) where
  -- what lies before the part, with it
  front_length : length (take i d ++ u) ≡ i + k
  front_length = rw (length-append, length-take-le i d e, f)

  -- what lies up to the end of the part that was put
  pub put_take : take (i + k) (put_part i k d u) ≡ take i d ++ u
  put_take = rw (← append_assoc) (take_at (take i d ++ u) (drop k (drop i d)) (i + k) front_length)

  -- what lies after it
  put_drop : drop (i + k) (put_part i k d u) ≡ drop (i + k) d
  put_drop = rw (← append_assoc) (drop_at (take i d ++ u) (drop k (drop i d)) (i + k) front_length ∙ drop-drop k i d)

  -- what lies after it, from j on, is as it was at first, where that was so from g on
  pub put_kept : (d₀ : List ℤ) (j g : ℕ) → i + k ≡ j → g ≤ j → drop g d ≡ drop g d₀ → drop j (put_part i k d u) ≡ drop j d₀
  put_kept d₀ j g n m r =
      ap (λ (z : ℕ). drop z (put_part i k d u)) (sym n) ∙ put_drop ∙ ap (λ (z : ℕ). drop z d) n ∙ drop_more d d₀ g j m r

-- all is done: Y, and what lies after it
pub whole : (Y d d₀ : List ℤ) (i n : ℕ) → i ≡ n → drop i d ≡ drop i d₀ → Y ≡ take i d → d ≡ Y ++ drop n d₀
whole Y d d₀ i n e f g = sym (take-append-drop i d) ∙ rw (g, ← e, f)
