-- The table of places: what it has for a byte, and a row of it stored behind what a list has.
use mathlib.Core.Path.{◌≡◌, refl, sym, ap, ap₂, ◌∙◌}
use mathlib.Core.Bool.{Bool, true, false, cond}
use mathlib.Core.List.{List, [], ◌∷◌, ◌++◌, map}
use Prim.Native.Nat.{ℕ, zero, suc, ◌+◌, ◌*◌, ◌/◌, ◌%◌, ◌≤◌, ◌<◌}
use native.Mathlib.Nat.{add-zero, zero-add}
use native.Mathlib.Numerals.{add-one}
use native.Mathlib.Omega.{arith}
use lib.Dec.{eqb}
use lib.ListN.{length, get_or, set, take, drop, length-append, length-drop, length-map, get_or-map}
use lib.Seq.{paste, paste-suc, take-paste, length-take-le, take_at, take-take, take-append_seam, take-append-add, drop-append-add, get_or-take, get_or-drop, get_or_at}
use Rattle.places.specs.Inner.{ones_of, eight_places, ones_row, rows_from, place_rows, Listed}

-- at most k of k bits are ones
pub ones_few : (k m : ℕ) → length (ones_of k m) ≤ k
unfolding ones_of
ones_few zero m = omega arith
ones_few (suc k) m = by (eqb (m % 2) 1) (ones_of k (m / 2)) (ones_few k (m / 2))
  where
    by : (b : Bool) (l : List ℕ) → length l ≤ k → length (cond b (0 ∷ map suc l) (map suc l)) ≤ suc k
    by true l h = omega (arith, length-map l suc, h)
    by false l h = omega (arith, length-map l suc, h)

-- ════ a row ════

-- its eight numbers
eight : (m : ℕ) → length (take 8 (ones_of 8 m ++ eight_places)) ≡ 8
eight m = length-take-le 8 (ones_of 8 m ++ eight_places) (omega (arith, length-append (ones_of 8 m) eight_places))

row_length : (m : ℕ) → length (ones_row m) ≡ 9
row_length m = length-append (take 8 (ones_of 8 m ++ eight_places)) (length (ones_of 8 m) ∷ []) ∙ ap (λ (l : ℕ). l + 1) (eight m)

row_at : (c m n : ℕ) → m < c → take 9 (drop (9 * m) (rows_from c n)) ≡ ones_row (n + m)
unfolding rows_from
row_at zero m n h = absurd (omega arith)
row_at (suc c) zero n h = take_at (ones_row n) (rows_from c (suc n)) 9 (row_length n) ∙ ap ones_row (sym (add-zero n))
row_at (suc c) (suc m) n h =
    let e : 9 * suc m ≡ length (ones_row n) + 9 * m = omega (arith, row_length n) in
    let s : suc n + m ≡ n + suc m = omega arith in
    ap (λ (j : ℕ). take 9 (drop j (ones_row n ++ rows_from c (suc n)))) e ∙ ap (take 9) (drop-append-add (ones_row n) (rows_from c (suc n)) (9 * m)) ∙ row_at c m (suc n) (omega arith) ∙ ap ones_row s

row_is : (m : ℕ) → m < 256 → take 9 (drop (9 * m) place_rows) ≡ ones_row m
row_is m h = row_at 256 m 0 h ∙ ap ones_row (zero-add m)

pub rows_length_lem : length place_rows ≡ 2304
unfolding rows_from ones_of
rows_length_lem = refl

-- its first eight
pub row_eight : (m : ℕ) → m < 256 → take 8 (drop (9 * m) place_rows) ≡ take 8 (ones_row m)
row_eight m h = sym (take-take 8 9 (drop (9 * m) place_rows) (omega arith)) ∙ ap (take 8) (row_is m h)

-- the first of them are the ones
row_ones : (m : ℕ) → take (length (ones_of 8 m)) (take 8 (ones_row m)) ≡ ones_of 8 m
row_ones m =
    ap (take (length (ones_of 8 m))) (take_at (take 8 (ones_of 8 m ++ eight_places)) (length (ones_of 8 m) ∷ []) 8 (eight m))
    ∙ take-take (length (ones_of 8 m)) 8 (ones_of 8 m ++ eight_places) (ones_few 8 m)
    ∙ take-append_seam (ones_of 8 m) eight_places

-- the last number counts them
pub row_count : (m : ℕ) → m < 256 → get_or place_rows (9 * m + 8) 0 ≡ length (ones_of 8 m)
row_count m h =
    sym (get_or-drop (9 * m) place_rows 8 0)
    ∙ sym (get_or-take 9 (drop (9 * m) place_rows) 8 0 (omega arith))
    ∙ ap (λ (l : List ℕ). get_or l 8 0) (row_is m h)
    ∙ get_or_at (take 8 (ones_of 8 m ++ eight_places)) (length (ones_of 8 m)) [] 0 8 (eight m)

-- ════ a row stored behind what a list has ════

-- one number more
pub row_next : (base from n k x : ℕ) (rows start list : List ℕ) → n + k < length start → from + k < length rows → x ≡ base + get_or rows (from + k) 0
    → list ≡ paste start n (map (λ p. base + p) (drop from rows)) k → set list (n + k) x ≡ paste start n (map (λ p. base + p) (drop from rows)) (k + 1)
row_next base from n k x rows start list h l v e =
    let row = drop from rows in
    let s = map (λ p. base + p) row in
    let w : x ≡ get_or s k (base + 0) = v ∙ ap (λ (y : ℕ). base + y) (sym (get_or-drop from rows k 0)) ∙ sym (get_or-map (λ p. base + p) row k 0) in
    ap₂ (λ (a : List ℕ) (y : ℕ). set a (n + k) y) e w
    ∙ paste-suc start n s k (base + 0) h (omega (arith, length-map row (λ p. base + p), length-drop from rows))
    ∙ ap (paste start n s) (sym (add-one k))

map_take : (f : ℕ → ℕ) (c : ℕ) (l : List ℕ) → take c (map f l) ≡ map f (take c l)
map_take f zero l = refl
map_take f (suc c) [] = refl
map_take f (suc c) (x ∷ l) = ap (λ (a : List ℕ). f x ∷ a) (map_take f c l)

-- the row of m, where the table's numbers from 9 * m on were stored
pub row_stored : (base m n : ℕ) (start : List ℕ) → m < 256
    → paste start n (map (λ p. base + p) (drop (9 * m) place_rows)) 8 ≡ paste start n (map (λ p. base + p) (ones_row m)) 8
row_stored base m n start h =
    ap (λ (a : List ℕ). take n start ++ a ++ drop (n + 8) start)
    (map_take (λ p. base + p) 8 (drop (9 * m) place_rows) ∙ ap (map (λ p. base + p)) (row_eight m h) ∙ sym (map_take (λ p. base + p) 8 (ones_row m)))

-- what is in the list then: what was in, and the ones
pub listed_ones : (m base n r : ℕ) (start list : List ℕ) → n + 8 ≤ length start → Listed m base n r start list → take r list ≡ take n start ++ map (λ p. base + p) (ones_of 8 m)
listed_ones m base n r start list h p =
    let c = length (ones_of 8 m) in
    let front = take n start in
    let eights = map (λ p. base + p) (take 8 (ones_row m)) in
    let f : length front ≡ n = length-take-le n start (omega arith) in
    let q : n + c ≡ length front + c = omega (arith, f) in
    let whole : take (n + 8) list ≡ front ++ eights =
    ap (take (n + 8)) p.list
    ∙ take-paste start n (map (λ p. base + p) (ones_row m)) 8 (omega arith) (omega (arith, length-map (ones_row m) (λ p. base + p), row_length m))
    ∙ ap (λ (a : List ℕ). front ++ a) (map_take (λ p. base + p) 8 (ones_row m)) in
    ap (λ (j : ℕ). take j list) p.count
    ∙ sym (take-take (n + c) (n + 8) list (omega (arith, ones_few 8 m)))
    ∙ ap (take (n + c)) whole
    ∙ ap (λ (j : ℕ). take j (front ++ eights)) q
    ∙ take-append-add front eights c
    ∙ ap (λ (a : List ℕ). front ++ a) (map_take (λ p. base + p) c (take 8 (ones_row m)) ∙ ap (map (λ p. base + p)) (row_ones m))
