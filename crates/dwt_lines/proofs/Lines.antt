-- A line of samples: one sample that is another, its two endings, one more pair of places, the whole, and how long it is.
-- Assumes nothing.
use mathlib.Core.Path.{◌≡◌, refl, sym, ap, ◌∙◌}
use mathlib.Core.List.{List, [], ◌∷◌, ◌++◌, append_assoc, append-nil}
use Prim.Native.Nat.{ℕ, suc, ◌+◌, ◌/◌, ◌<◌, ◌≤◌}
use native.Mathlib.Nat.{add-zero}
use native.Mathlib.Numerals.{add-one}
use native.Mathlib.Omega.{arith}
use lib.IntN.{ℤ, pos, negsuc, ◌+ℤ◌}
use lib.ListN.{length, get_or, set, take, drop, length-set, length-drop, drop_of_length-le}
use lib.Seq.{drop-cons, take_all, drop-drop, get_or-drop, take-suc-set, sets, sets-eq}
use Rattle.fixed.specs.Fixed.{half_toward_zero}
use Rattle.dwt_lines.specs.Line.{edge, even, odd, half, mean, Halves, from, line}

-- ════ one sample ════

-- half of twice a number
twice : (h : ℤ) → half_toward_zero (h +ℤ h) ≡ h
twice (pos n) = ap pos (omega arith)
twice (negsuc n) =
    let e : suc (suc (n + n)) / 2 ≡ suc n = omega arith in
    rw e

-- an even place between two high ones that are the same is one with a single high one
pub even_edge : (l h : ℤ) → even l h h ≡ edge l h
unfolding even edge
even_edge l h = rw (twice h)

-- ════ the end of a line ════

-- every place of d is stored to
filled : (d vs : List ℤ) → length d ≡ length vs → sets d 0 vs ≡ vs
filled d vs e =
    sets-eq vs d 0 (omega arith) ∙ ap (λ (z : List ℤ). vs ++ z) (drop_of_length-le d {i = 0 + length vs} (omega arith)) ∙ append-nil vs

-- one low place is left
pub end_one : (l d : List ℤ) (x h y o : ℤ) → length l ≡ 1 → length d ≡ length l + 2 → y ≡ edge (get_or l 0 (pos 0)) h → o ≡ odd x y h
    → set (set (set d 0 x) 1 o) 2 y ≡ from x h (get_or l 0 (pos 0)) (drop 1 l) []
unfolding from
end_one [] d x h y o e f p q = absurd (omega arith)
end_one (a ∷ []) d x h y o e f p q = filled d (x ∷ o ∷ y ∷ []) f ∙ rw (q, p)
end_one (a ∷ b ∷ l) d x h y o e f p q = absurd (omega arith)

-- two are left
pub end_two : (l d : List ℤ) (x h y o m : ℤ) → length l ≡ 2 → length d ≡ length l + 2 → y ≡ half (get_or l 0 (pos 0)) h → o ≡ odd x y h → m ≡ mean y (get_or l 1 (pos 0))
    → set (set (set (set d 0 x) 1 o) 2 y) 3 m ≡ from x h (get_or l 0 (pos 0)) (drop 1 l) []
unfolding from
end_two [] d x h y o m e f p q r = absurd (omega arith)
end_two (a ∷ []) d x h y o m e f p q r = absurd (omega arith)
end_two (a ∷ b ∷ []) d x h y o m e f p q r = filled d (x ∷ o ∷ y ∷ m ∷ []) f ∙ rw (r, q, p)
end_two (a ∷ b ∷ c ∷ l) d x h y o m e f p q r = absurd (omega arith)

-- ════ a line: what is done, and what is left from the even place x on, make the whole ════

-- two more places are done
two_more : (d : List ℤ) (i : ℕ) (x o : ℤ) → i + 2 ≤ length d → take (i + 2) (set (set d i x) (i + 1) o) ≡ take i d ++ (x ∷ o ∷ [])
two_more d i x o h =
    let e : i + 2 ≡ suc (suc i) = omega arith in
    rw (e, add-one i, take-suc-set (set d i x) (suc i) o (simp length-set (omega arith)), take-suc-set d i x (omega arith)) (append_assoc (take i d) (x ∷ []) (o ∷ []))

-- nothing is done
pub line_start : (low high : List ℤ) (x h : ℤ) → 2 ≤ length low → 1 ≤ length high → h ≡ get_or high 0 (pos 0) → x ≡ edge (get_or low 0 (pos 0)) h
    → line low high ≡ from x h (get_or low 1 (pos 0)) (drop 2 low) (drop 1 high)
unfolding line
line_start [] high x h e f p q = absurd (omega arith)
line_start (l ∷ []) high x h e f p q = absurd (omega arith)
line_start (l ∷ m ∷ low) [] x h e f p q = absurd (omega arith)
line_start (l ∷ m ∷ low) (k ∷ high) x h e f p q = rw (q, p)

-- x and the odd place after it are done
pub line_turn : (Y low high d : List ℤ) (x h k y o : ℤ) (i j : ℕ) → i + 2 ≤ length d → j + 1 < length low → j < length high → k ≡ get_or high j (pos 0) → y ≡ even (get_or low j (pos 0)) h k → o ≡ odd x y h
    → Y ≡ take i d ++ from x h (get_or low j (pos 0)) (drop (j + 1) low) (drop j high)
    → Y ≡ take (i + 2) (set (set d i x) (i + 1) o) ++ from y k (get_or low (j + 1) (pos 0)) (drop (j + 1 + 1) low) (drop (j + 1) high)
unfolding from
line_turn Y low high d x h k y o i j e f g p q r w =
    let step : from x h (get_or low j (pos 0)) (drop (j + 1) low) (drop j high) ≡ x ∷ o ∷ from y k (get_or low (suc j) (pos 0)) (drop (suc (suc j)) low) (drop (suc j) high)
    = rw (add-one j, drop-cons low (suc j) (pos 0) (omega arith), drop-cons high j (pos 0) g, r, q, p) in
    rw (two_more d i x o e, append_assoc, add-one j, add-one (suc j)) (w ∙ ap (λ (z : List ℤ). take i d ++ z) step)

-- the end u is put after the i places that are done; the m low places from n on are left
pub line_done : (Y low high d u : List ℤ) (x h : ℤ) (i n k m : ℕ) → length high ≤ n → length d ≤ i + k → length low ≤ n + m → Y ≡ take i d ++ from x h (get_or low n (pos 0)) (drop (n + 1) low) (drop n high)
    → u ≡ from x h (get_or (take m (drop n low)) 0 (pos 0)) (drop 1 (take m (drop n low))) [] → take i d ++ (u ++ drop k (drop i d)) ≡ Y
line_done Y low high d u x h i n k m e f g w v =
    let none : drop n high ≡ [] = drop_of_length-le high {i = n} e in
    let rest : drop k (drop i d) ≡ [] = drop-drop k i d ∙ drop_of_length-le d {i = i + k} f in
    let all : take m (drop n low) ≡ drop n low = take_all m (drop n low) (simp length-drop (omega arith)) in
    sym (rw (rest, append-nil, v, all, get_or-drop n low 0 (pos 0), add-zero n, drop-drop 1 n low) (rw none at w))

-- ════ how long a line is ════

-- from an even place on
from_length : (x h l : ℤ) (ls hs : List ℤ) → length hs ≤ length ls → length ls ≤ length hs + 1 → length (from x h l ls hs) ≡ length ls + length hs + 3
unfolding from
from_length x h l [] [] e f = refl
from_length x h l [] (k ∷ hs) e f = absurd (omega arith)
from_length x h l (m ∷ []) [] e f = refl
from_length x h l (m ∷ n ∷ ls) [] e f = absurd (omega arith)
from_length x h l (m ∷ ls) (k ∷ hs) e f =
    let r : length (from (even l h k) k m ls hs) ≡ length ls + length hs + 3 = from_length (even l h k) k m ls hs (omega arith) (omega arith) in
    omega arith

-- as long as its two halves together
pub line_length : (l h : List ℤ) → Halves (length l) (length h) → length (line l h) ≡ length l + length h
unfolding line
line_length [] h v = absurd (omega arith)
line_length (x ∷ []) h v = absurd (omega arith)
line_length (x ∷ m ∷ l) [] v = absurd (omega arith)
line_length (x ∷ m ∷ l) (y ∷ h) v =
    let r : length (from (edge x y) y m l h) ≡ length l + length h + 3 = from_length (edge x y) y m l h (omega arith) (omega arith) in
    omega arith
