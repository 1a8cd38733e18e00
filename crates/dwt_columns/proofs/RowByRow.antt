-- All columns at once, row by row: what a call on parts says of the whole, a turn of the loop, its two ends, and the whole.
-- What is done, `take i d`, and what is left from the even row at i on, `from_rows ..`, make the whole.
-- Assumes nothing.
use mathlib.Core.Path.{◌≡◌, refl, ap, ◌∙◌}
use mathlib.Core.List.{List, [], ◌∷◌, ◌++◌, append_assoc, append-nil, zip_with, flatten}
use Prim.Native.Nat.{ℕ, zero, suc, ◌+◌, ◌*◌, ◌-◌, ◌<◌, ◌≤◌}
use native.Mathlib.Nat.{suc-add}
use native.Mathlib.Omega.{arith}
use lib.IntN.{ℤ}
use lib.ListN.{length, take, drop, length-append}
use lib.Seq.{take-take, drop-drop, take_at, drop_at, length-take-le}
use Rattle.dwt_lines.specs.Line.{edge, even, odd, Halves}
use Rattle.dwt_lines.proofs.Lines.{even_edge}
use Rattle.dwt_columns.specs.Columns.{rows}
use Rattle.dwt_columns.specs.Inner.{zip_with3, from_rows, line_rows, pair_rows, end_rows, put_part}
use Rattle.dwt_columns.proofs.Products.{scale}
use Rattle.dwt_columns.proofs.Put.{part_length, drop_more, put_kept}
use Rattle.dwt_columns.proofs.Places.{zip3_length}

-- ════ what a call on rows says of the whole: L, H and K are w places from l, h and k on, and d is given from i on ════

module _ (low f g d u L H K : List ℤ) (w l h k i j n : ℕ) (eL : L ≡ take w (drop l low)) (eH : H ≡ take w (drop h f)) (eK : K ≡ take w (drop k g)) (ej : j ≡ n) (nw : w ≤ n) (nl : l + w ≤ length low) where
  -- a pair of rows
  pub pair_put : u ≡ pair_rows L H K (take (length L) (take j (drop i d))) → put_part i j d u ≡ put_part i n d (pair_rows (take w (drop l low)) (take w (drop h f)) (take w (drop k g)) (take w (drop i d)))
  pair_put q = rw (q, ej, eL, eH, eK, part_length low w l nl, take-take w n (drop i d) nw)

  -- the last three rows
  pub last_put : u ≡ end_rows L H K (take (length L) (take j (drop i d))) → put_part i j d u ≡ put_part i n d (end_rows (take w (drop l low)) (take w (drop h f)) (take w (drop k g)) (take w (drop i d)))
  last_put q = rw (q, ej, eL, eH, eK, part_length low w l nl, take-take w n (drop i d) nw)

-- ════ a turn ════

-- what is left begins with a pair of rows
from_more : (x h l : List ℤ) (w m e : ℕ) (b f : List ℤ) → flatten (from_rows x h l (rows w (suc m + e) b) (rows w (suc m) f))
    ≡ x ++ (zip_with3 odd x (zip_with3 even l h (take w f)) h ++ flatten (from_rows (zip_with3 even l h (take w f)) (take w f) (take w b) (rows w (m + e) (drop w b)) (rows w m (drop w f))))
unfolding from_rows flatten rows
from_more x h l w m e b f = rw (suc-add m e)

-- it has three rows
pair_length : (L H K x : List ℤ) (w : ℕ) → length L ≡ w → length H ≡ w → length K ≡ w → length x ≡ w → length (pair_rows L H K x) ≡ 3 * w
unfolding pair_rows
pair_length L H K x w eL eH eK ex =
    let eE : length (zip_with3 even L H K) ≡ w = zip3_length even L H K eL eH eK in
    let eO : length (zip_with3 odd x (zip_with3 even L H K) H) ≡ w = zip3_length odd x (zip_with3 even L H K) H ex eE eH in
    rw (length-append, length-append) (omega arith)

-- d is the buffer before a call, with the even row at i, and D the buffer after it
module _ (low high d : List ℤ) (w l h i : ℕ) (nl : l + w ≤ length low) (nh : h + w ≤ length high) (D : List ℤ) (nd : i + 3 * w ≤ length d) (n2 : h + w + w ≤ length high)
    (e : D ≡ put_part i (3 * w) d (pair_rows (take w (drop l low)) (take w (drop h high)) (take w (drop (h + w) high)) (take w (drop i d)))) where
  -- the rows after it are as they were
  pub cols_kept : (d₀ : List ℤ) → drop (i + w) d ≡ drop (i + w) d₀ → drop (i + 2 * w + w) D ≡ drop (i + 2 * w + w) d₀
  cols_kept d₀ g =
      rw e
      (put_kept d (pair_rows (take w (drop l low)) (take w (drop h high)) (take w (drop (h + w) high)) (take w (drop i d))) i (3 * w) (omega arith)
      (pair_length (take w (drop l low)) (take w (drop h high)) (take w (drop (h + w) high)) (take w (drop i d)) w (part_length low w l nl) (part_length high w h nh) (part_length high w (h + w) n2) (part_length d w i (omega arith)))
      d₀ (i + 2 * w + w) (i + w) (omega arith) (omega arith) g)

  -- the pair of rows is done
  pub cols_turn : (Y : List ℤ) (m k : ℕ) → 0 < m
      → Y ≡ take i d ++ flatten (from_rows (take w (drop i d)) (take w (drop h high)) (take w (drop l low)) (rows w (m + k) (drop (l + w) low)) (rows w m (drop (h + w) high)))
      → Y ≡ take (i + 2 * w) D ++ flatten (from_rows (take w (drop (i + 2 * w) D)) (take w (drop (h + w) high)) (take w (drop (l + w) low)) (rows w (m - 1 + k) (drop (l + w + w) low)) (rows w (m - 1) (drop (h + w + w) high)))
  unfolding pair_rows
  cols_turn Y zero k z p = absurd (omega arith)
  cols_turn Y (suc m) k z p =
      let L : List ℤ = take w (drop l low) in
      let H : List ℤ = take w (drop h high) in
      let K : List ℤ = take w (drop (h + w) high) in
      let x : List ℤ = take w (drop i d) in
      let E : List ℤ = zip_with3 even L H K in
      let O : List ℤ = zip_with3 odd x E H in
      let rest : List ℤ = drop (3 * w) (drop i d) in
      let eL : length L ≡ w = part_length low w l nl in
      let eH : length H ≡ w = part_length high w h nh in
      let eK : length K ≡ w = part_length high w (h + w) n2 in
      let ex : length x ≡ w = part_length d w i (omega arith) in
      let eE : length E ≡ w = zip3_length even L H K eL eH eK in
      let eO : length O ≡ w = zip3_length odd x E H ex eE eH in
      let ei : length (take i d) ≡ i = length-take-le i d (omega arith) in
      let en : length (take i d ++ (x ++ O)) ≡ i + 2 * w = rw (length-append, length-append) (omega arith) in
      let eD : D ≡ (take i d ++ (x ++ O)) ++ (E ++ rest) = rw e (simp append_assoc) in
      let front : take (i + 2 * w) D ≡ take i d ++ (x ++ O) = rw eD (take_at (take i d ++ (x ++ O)) (E ++ rest) (i + 2 * w) en) in
      let next : take w (drop (i + 2 * w) D) ≡ E = rw (eD, drop_at (take i d ++ (x ++ O)) (E ++ rest) (i + 2 * w) en) (take_at E rest w eE) in
      let less : suc m - 1 ≡ m = omega arith in
      rw (front, next, less, ← drop-drop w (l + w) low, ← drop-drop w (h + w) high, append_assoc, append_assoc)
      (p ∙ ap (λ (z : List ℤ). take i d ++ z) (from_more x H L w m k (drop (l + w) low) (drop (h + w) high)))

-- what is left of the rows Y: the even row is at i, the high row beside it at h and the low row after it at l; then m high rows are left, and e low ones more
pub record ColsLeft (Y low high d₀ : List ℤ) (w e i h l m : ℕ) (d : List ℤ) : Type 0 where
  pub kept : drop (i + w) d ≡ drop (i + w) d₀
  pub left : Y ≡ take i d ++ flatten (from_rows (take w (drop i d)) (take w (drop h high)) (take w (drop l low)) (rows w (m + e) (drop (l + w) low)) (rows w m (drop (h + w) high)))

-- the same by other names
pub left_at : {Y low high d₀ d : List ℤ} {w e i h l m i' h' l' m' : ℕ} → ColsLeft Y low high d₀ w e i h l m d → i' ≡ i → h' ≡ h → l' ≡ l → m' ≡ m → ColsLeft Y low high d₀ w e i' h' l' m' d
left_at c ei eh el em = rw (ei, eh, el, em) c

-- a pair of rows less
pub left_next : {Y low high d₀ d : List ℤ} {w e i h l m : ℕ} (D : List ℤ) → l + w ≤ length low → h + w ≤ length high → h + w + w ≤ length high → i + 3 * w ≤ length d → 0 < m
    → D ≡ put_part i (3 * w) d (pair_rows (take w (drop l low)) (take w (drop h high)) (take w (drop (h + w) high)) (take w (drop i d))) → ColsLeft Y low high d₀ w e i h l m d → ColsLeft Y low high d₀ w e (i + 2 * w) (h + w) (l + w) (m - 1) D
left_next {Y} {low} {high} {d₀} {d} {w} {e} {i} {h} {l} {m} D nl nh n2 nd z f c = record {
  kept = cols_kept low high d w l h i nl nh D nd n2 f d₀ c.kept;
  left = cols_turn low high d w l h i nl nh D nd n2 f Y m e z c.left;
}

-- ════ the ends ════

-- a pair with the last high row twice is the end where one low row is left
even_same : (l h : List ℤ) → zip_with3 even l h h ≡ zip_with edge l h
unfolding zip_with zip_with3
even_same [] h = refl
even_same (x ∷ l) [] = refl
even_same (x ∷ l) (y ∷ h) = rw (even_edge x y, even_same l h)

-- no high row is left, and r low ones after that at l; the rows after the even one at i are as they were at first, in d₀
module _ (low high d : List ℤ) (w l h i : ℕ) (Y D d₀ hs : List ℤ) (r z n : ℕ) (ez : z ≡ 0) (ed : drop (i + w) d ≡ drop (i + w) d₀)
    (p : Y ≡ take i d ++ flatten (from_rows (take w (drop i d)) (take w (drop h high)) (take w (drop l low)) (rows w r (drop (l + w) low)) (rows w z hs))) where
  -- what lies k places after i is as it was at first
  rest : (k : ℕ) → i + k ≡ n → i + w ≤ n → drop k (drop i d) ≡ drop n d₀
  rest k en ew = drop-drop k i d ∙ ap (λ (z : ℕ). drop z d) en ∙ drop_more d d₀ (i + w) n ew ed

  -- one low row more than high ones
  pub cols_one : r ≡ 0 → i + 3 * w ≡ n → D ≡ put_part i (3 * w) d (pair_rows (take w (drop l low)) (take w (drop h high)) (take w (drop h high)) (take w (drop i d))) → D ≡ Y ++ drop n d₀
  unfolding pair_rows from_rows flatten rows
  cols_one er en e = rw (e, rest (3 * w) en (omega arith), even_same (take w (drop l low)) (take w (drop h high)), p, er) (simp (append_assoc, append-nil))

  -- two more
  pub cols_two : r ≡ 1 → i + 4 * w ≡ n → D ≡ put_part i (4 * w) d (end_rows (take w (drop l low)) (take w (drop h high)) (take w (drop (l + w) low)) (take w (drop i d))) → D ≡ Y ++ drop n d₀
  unfolding end_rows from_rows flatten rows
  cols_two er en e = rw (e, rest (4 * w) en (omega arith), p, er, ez) (simp (append_assoc, append-nil))

-- ════ the whole ════

-- the first row, put where the buffer begins, and all rows after it
pub cols_whole : (low high d u D : List ℤ) (w p q a b k : ℕ) → Halves p q → (p + q) * w ≤ length d → a ≡ w → b ≡ w → k ≡ w → length u ≡ k → u ≡ zip_with edge (take a low) (take b high)
    → D ≡ flatten (from_rows (take w (put_part 0 k d u)) (take w high) (take w (drop w low)) (rows w (p - 2) (drop (w + w) low)) (rows w (q - 1) (drop w high))) ++ drop ((p + q) * w) (put_part 0 k d u)
    → D ≡ flatten (line_rows (rows w p low) (rows w q high)) ++ drop ((p + q) * w) d
unfolding line_rows rows
cols_whole low high d u D w zero q a b k hv n ea eb ek eu e f = absurd (omega arith)
cols_whole low high d u D w (suc zero) q a b k hv n ea eb ek eu e f = absurd (omega arith)
cols_whole low high d u D w (suc (suc p)) zero a b k hv n ea eb ek eu e f = absurd (omega arith)
cols_whole low high d u D w (suc (suc p)) (suc q) a b k hv n ea eb ek eu e f =
    let np : suc (suc p) - 2 ≡ p = omega arith in
    let nq : suc q - 1 ≡ q = omega arith in
    let all : ℕ = (suc (suc p) + suc q) * w in
    let nw : w ≤ all = omega (arith, scale (suc (suc p) + suc q) (suc p + suc q) 1 w (omega arith)) in
    let x : take w (put_part 0 k d u) ≡ zip_with edge (take w low) (take w high) = take_at u (drop k d) w (eu ∙ ek) ∙ e ∙ rw (ea, eb) in
    let kept : drop all (put_part 0 k d u) ≡ drop all d =
    drop_more (put_part 0 k d u) d w all nw (drop_at u (drop k d) w (eu ∙ ek) ∙ ap (λ (z : ℕ). drop z d) ek) in
    f ∙ rw (x, kept, np, nq, drop-drop w w low)
