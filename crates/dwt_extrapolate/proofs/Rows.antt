-- Rows laid out one after another, and the lines of a number of rows: one more, none, how many and how wide they are, and their halves.
-- Assumes nothing.
use mathlib.Core.Path.{◌≡◌, refl, ap, ◌∙◌}
use mathlib.Core.List.{List, [], ◌∷◌, ◌++◌, append_assoc, zip_with, flatten}
use Prim.Native.Nat.{ℕ, zero, suc, ◌+◌, ◌*◌, ◌-◌, ◌<◌, ◌≤◌}
use native.Mathlib.Nat.{suc-mul}
use native.Mathlib.Omega.{arith}
use lib.IntN.{ℤ}
use lib.ListN.{length, take, drop, length-drop}
use lib.Seq.{drop-drop, take_at, drop_at, length-take-le}
use Rattle.dwt_lines.specs.Line.{Halves, line}
use Rattle.dwt_lines.proofs.Lines.{line_length}
use Rattle.dwt_extrapolate.specs.Block.{lines}
use Rattle.dwt_extrapolate.specs.Made.{EachLine}
use Rattle.dwt_columns.specs.Columns.{rows}
use Rattle.dwt_columns.specs.Inner.{put_part}
use Rattle.dwt_columns.proofs.Put.{put_take}
use Rattle.dwt_columns.proofs.Wide.{Wide, rows_wide}

-- ════ rows of w places ════

-- rows laid out one after another are the first rows of that list
pub flat_rows : (w : ℕ) (rs : List (List ℤ)) (t : List ℤ) → Wide w rs → rows w (length rs) (flatten rs ++ t) ≡ rs
unfolding rows flatten
flat_rows w [] t v = refl
flat_rows w (r ∷ rs) t v = rw (append_assoc, take_at r (flatten rs ++ t) w v.0, drop_at r (flatten rs ++ t) w v.0, flat_rows w rs t v.1)

-- ════ lines ════

-- one more, before the others
lines_more : (p q m : ℕ) (b e : List ℤ) → flatten (lines p q (suc m) b e) ≡ line (take p b) (take q e) ++ flatten (lines p q m (drop p b) (drop q e))
unfolding lines rows zip_with flatten
lines_more p q m b e = refl

-- none
pub lines_none : (p q : ℕ) (b e : List ℤ) → flatten (lines p q 0 b e) ≡ []
unfolding lines rows zip_with flatten
lines_none p q b e = refl

-- the next line u is put after the i places that are done; m lines were left
pub lines_turn : (Y b e d u : List ℤ) (p q m i k j l h p' q' : ℕ) → 0 < m → i ≤ length d → length u ≡ k → i + k ≡ j → p' ≡ p → q' ≡ q
    → Y ≡ take i d ++ flatten (lines p q m (drop l b) (drop h e)) → u ≡ line (take p' (drop l b)) (take q' (drop h e)) → Y ≡ take j (put_part i k d u) ++ flatten (lines p q (m - 1) (drop (l + p) b) (drop (h + q) e))
lines_turn Y b e d u p q zero i k j l h p' q' z f g x y t w v = absurd (omega arith)
lines_turn Y b e d u p q (suc m) i k j l h p' q' z f g x y t w v =
    let n : suc m - 1 ≡ m = omega arith in
    rw (← x, put_take d u i k f g, n, append_assoc, v, y, t, ← drop-drop p l b, ← drop-drop q h e) (w ∙ ap (λ (z : List ℤ). take i d ++ z) (lines_more p q m (drop l b) (drop h e)))

-- n lines, each as long as its halves together
pub lines_wide : (p q : ℕ) → Halves p q → (n : ℕ) (b e : List ℤ) → n * p ≤ length b → n * q ≤ length e → (length (lines p q n b e) ≡ n) × Wide (p + q) (lines p q n b e)
unfolding lines rows zip_with
lines_wide p q v zero b e f g = (refl, tt)
lines_wide p q v (suc n) b e f g =
    let sp : suc n * p ≡ n * p + p = suc-mul n p in
    let sq : suc n * q ≡ n * q + q = suc-mul n q in
    let np : length (take p b) ≡ p = length-take-le p b (omega arith) in
    let nq : length (take q e) ≡ q = length-take-le q e (omega arith) in
    let r = lines_wide p q v n (drop p b) (drop q e) (simp length-drop (omega arith)) (simp length-drop (omega arith)) in
    (ap suc r.0, (line_length (take p b) (take q e) (rw (np, nq) v) ∙ rw (np, nq), r.1))

-- low halves of p places and high halves of q make lines
pub each_line : (p q : ℕ) → Halves p q → (ls hs : List (List ℤ)) → Wide p ls → Wide q hs → EachLine ls hs
each_line p q v [] hs el ek = tt
each_line p q v (l ∷ ls) [] el ek = tt
each_line p q v (l ∷ ls) (h ∷ hs) el ek = (rw (el.0, ek.0) v, each_line p q v ls hs el.1 ek.1)

-- and so do n rows of two lists
pub each_row : (p q : ℕ) → Halves p q → (n : ℕ) (b e : List ℤ) → n * p ≤ length b → n * q ≤ length e → EachLine (rows p n b) (rows q n e)
each_row p q v n b e f g = each_line p q v (rows p n b) (rows q n e) (rows_wide p n b f).1 (rows_wide q n e g).1
