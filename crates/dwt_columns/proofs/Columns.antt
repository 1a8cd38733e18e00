-- Columns: all columns at once, row by row, are the lines of the columns one by one. `rows_down` says so, and the rest leads to it.
-- Assumes nothing.
use mathlib.Core.Path.{◌≡◌, refl, sym, ap, ap₂, ◌∙◌}
use mathlib.Core.List.{List, [], ◌∷◌, map, zip_with, flatten}
use Prim.Native.Nat.{ℕ, zero, suc, ◌+◌, ◌*◌, ◌≤◌}
use native.Mathlib.Omega.{arith}
use lib.IntN.{ℤ, pos}
use lib.ListN.{length, get_or, drop, length-map}
use Rattle.dwt_lines.specs.Line.{edge, even, odd, half, mean, Halves, from, line}
use Rattle.dwt_lines.proofs.Lines.{line_length}
use Rattle.dwt_columns.specs.Columns.{rows, columns, down}
use Rattle.dwt_columns.specs.Inner.{zip_with3, from_rows, line_rows}
use Rattle.dwt_columns.proofs.Places.{zip_length, zip_get, zip_drop, zip3_length, zip3_get, zip3_drop}
use Rattle.dwt_columns.proofs.Wide.{Wide, flat_length, rows_wide}

-- the first place of a row
abbrev head : List ℤ → ℤ
head r = get_or r 0 (pos 0)

-- the first place of each row
abbrev heads : List (List ℤ) → List ℤ
heads rs = map (λ (r : List ℤ). get_or r 0 (pos 0)) rs

-- each row without its first place
abbrev tails : List (List ℤ) → List (List ℤ)
tails rs = map (drop 1) rs

-- ════ rows to columns and back ════

-- so many columns as were asked for
columns_count : (w : ℕ) (rs : List (List ℤ)) → length (columns w rs) ≡ w
unfolding columns
columns_count zero rs = refl
columns_count (suc w) rs = ap suc (columns_count w (tails rs))

-- each as long as there are rows
pub columns_wide : (w : ℕ) (rs : List (List ℤ)) → Wide (length rs) (columns w rs)
unfolding columns
columns_wide zero rs = tt
columns_wide (suc w) rs = (length-map rs _, rw (length-map rs (drop 1)) at (columns_wide w (tails rs)))

-- the first row, of columns
columns_head : (w : ℕ) (r : List ℤ) (rs : List (List ℤ)) → length r ≡ w → heads (columns w (r ∷ rs)) ≡ r
unfolding columns
columns_head zero [] rs e = refl
columns_head zero (a ∷ r) rs e = absurd (omega arith)
columns_head (suc w) [] rs e = absurd (omega arith)
columns_head (suc w) (a ∷ r) rs e = ap (◌∷◌ a) (columns_head w r (tails rs) (omega arith))

-- and the other rows
columns_tails : (w : ℕ) (r : List ℤ) (rs : List (List ℤ)) → tails (columns w (r ∷ rs)) ≡ columns w rs
unfolding columns
columns_tails zero r rs = refl
columns_tails (suc w) r rs = ap (◌∷◌ (heads rs)) (columns_tails w (drop 1 r) (tails rs))

-- the columns of the columns are the rows
columns_back : (w : ℕ) (rs : List (List ℤ)) → Wide w rs → columns (length rs) (columns w rs) ≡ rs
unfolding columns
columns_back w [] v = refl
columns_back w (r ∷ rs) v = ap₂ ◌∷◌ (columns_head w r rs v.0) (ap (columns (length rs)) (columns_tails w r rs) ∙ columns_back w rs v.1)

-- ════ the first column ════

module _ (w : ℕ) where
  -- from the even row x on
  from_heads : (x h l : List ℤ) (ls hs : List (List ℤ)) → length x ≡ suc w → length h ≡ suc w → length l ≡ suc w → Wide (suc w) ls → Wide (suc w) hs
      → heads (from_rows x h l ls hs) ≡ from (head x) (head h) (head l) (heads ls) (heads hs)
  unfolding from from_rows
  from_heads x h l [] hs ex eh el em ek =
      let n : length (zip_with edge l h) ≡ suc w = zip_length edge l h el eh in
      rw (zip3_get odd x (zip_with edge l h) h 0 (pos 0) (omega arith) (omega arith) (omega arith), zip_get edge l h 0 (pos 0) (omega arith) (omega arith))
  from_heads x h l (m ∷ ls) [] ex eh el em ek =
      let n : length (zip_with half l h) ≡ suc w = zip_length half l h el eh in
      let nm : length m ≡ suc w = em.0 in
      rw (zip_get mean (zip_with half l h) m 0 (pos 0) (omega arith) (omega arith), zip3_get odd x (zip_with half l h) h 0 (pos 0) (omega arith) (omega arith) (omega arith), zip_get half l h 0 (pos 0) (omega arith) (omega arith))
  from_heads x h l (m ∷ ls) (k ∷ hs) ex eh el em ek =
      let n : length (zip_with3 even l h k) ≡ suc w = zip3_length even l h k el eh ek.0 in
      let e : head (zip_with3 even l h k) ≡ even (head l) (head h) (head k) = zip3_get even l h k 0 (pos 0) (omega arith) (omega arith) (omega arith) in
      let o : head (zip_with3 odd x (zip_with3 even l h k) h) ≡ odd (head x) (head (zip_with3 even l h k)) (head h) = zip3_get odd x (zip_with3 even l h k) h 0 (pos 0) (omega arith) (omega arith) (omega arith) in
      rw (o, from_heads (zip_with3 even l h k) k m ls hs n ek.0 em.0 em.1 ek.1, e)

  -- it is the line of the first columns
  line_heads : (ls hs : List (List ℤ)) → Wide (suc w) ls → Wide (suc w) hs → heads (line_rows ls hs) ≡ line (heads ls) (heads hs)
  unfolding line line_rows
  line_heads [] hs el ek = refl
  line_heads (l ∷ []) hs el ek = refl
  line_heads (l ∷ m ∷ ls) [] el ek = refl
  line_heads (l ∷ m ∷ ls) (h ∷ hs) el ek =
      let n : length (zip_with edge l h) ≡ suc w = zip_length edge l h el.0 ek.0 in
      from_heads (zip_with edge l h) h m ls hs n ek.0 el.1.0 el.1.1 ek.1
      ∙ ap (λ (z : ℤ). from z (head h) (head m) (heads ls) (heads hs)) (zip_get edge l h 0 (pos 0) (omega arith) (omega arith))

-- ════ the other columns ════

-- from the even row x on
from_tails : (x h l : List ℤ) (ls hs : List (List ℤ)) → tails (from_rows x h l ls hs) ≡ from_rows (drop 1 x) (drop 1 h) (drop 1 l) (tails ls) (tails hs)
unfolding from_rows
from_tails x h l [] hs = rw (zip3_drop odd x (zip_with edge l h) h, zip_drop edge l h)
from_tails x h l (m ∷ ls) [] = rw (zip3_drop odd x (zip_with half l h) h, zip_drop mean (zip_with half l h) m, zip_drop half l h)
from_tails x h l (m ∷ ls) (k ∷ hs) = rw (zip3_drop odd x (zip_with3 even l h k) h, from_tails (zip_with3 even l h k) k m ls hs, zip3_drop even l h k)

-- without the first column, the rows are those of the rows without it
line_tails : (ls hs : List (List ℤ)) → tails (line_rows ls hs) ≡ line_rows (tails ls) (tails hs)
unfolding line_rows
line_tails [] hs = refl
line_tails (l ∷ []) hs = refl
line_tails (l ∷ m ∷ ls) [] = refl
line_tails (l ∷ m ∷ ls) (h ∷ hs) = from_tails (zip_with edge l h) h m ls hs ∙ ap (λ (z : List ℤ). from_rows z (drop 1 h) (drop 1 m) (tails ls) (tails hs)) (zip_drop edge l h)

-- ════ all of them ════

-- rows without their first place
wide_tails : (w : ℕ) (rs : List (List ℤ)) → Wide (suc w) rs → Wide w (tails rs)
wide_tails w [] v = tt
wide_tails w ([] ∷ rs) v = absurd (omega (arith, v.0))
wide_tails w ((a ∷ r) ∷ rs) v = (omega (arith, v.0), wide_tails w rs v.1)

-- the lines of the columns are the columns of the rows
line_columns : (w : ℕ) (ls hs : List (List ℤ)) → Wide w ls → Wide w hs → zip_with line (columns w ls) (columns w hs) ≡ columns w (line_rows ls hs)
unfolding columns zip_with
line_columns zero ls hs el ek = refl
line_columns (suc w) ls hs el ek =
    ap₂ ◌∷◌ (sym (line_heads w ls hs el ek)) (line_columns w (tails ls) (tails hs) (wide_tails w ls el) (wide_tails w hs ek) ∙ ap (columns w) (sym (line_tails ls hs)))

module _ (w : ℕ) where
  -- rows of rows that are w wide are w wide, from the even row x on
  from_wide : (x h l : List ℤ) (ls hs : List (List ℤ)) → length x ≡ w → length h ≡ w → length l ≡ w → Wide w ls → Wide w hs → Wide w (from_rows x h l ls hs)
  unfolding from_rows
  from_wide x h l [] hs ex eh el em ek =
      let n : length (zip_with edge l h) ≡ w = zip_length edge l h el eh in
      (ex, (zip3_length odd x (zip_with edge l h) h ex n eh, (n, tt)))
  from_wide x h l (m ∷ ls) [] ex eh el em ek =
      let n : length (zip_with half l h) ≡ w = zip_length half l h el eh in
      (ex, (zip3_length odd x (zip_with half l h) h ex n eh, (n, (zip_length mean (zip_with half l h) m n em.0, tt))))
  from_wide x h l (m ∷ ls) (k ∷ hs) ex eh el em ek =
      let n : length (zip_with3 even l h k) ≡ w = zip3_length even l h k el eh ek.0 in
      (ex, (zip3_length odd x (zip_with3 even l h k) h ex n eh, from_wide (zip_with3 even l h k) k m ls hs n ek.0 em.0 em.1 ek.1))

  -- and all
  line_wide : (ls hs : List (List ℤ)) → Wide w ls → Wide w hs → Wide w (line_rows ls hs)
  unfolding line_rows
  line_wide [] hs el ek = tt
  line_wide (l ∷ []) hs el ek = tt
  line_wide (l ∷ m ∷ ls) [] el ek = tt
  line_wide (l ∷ m ∷ ls) (h ∷ hs) el ek = from_wide (zip_with edge l h) h m ls hs (zip_length edge l h el.0 ek.0) ek.0 el.1.0 el.1.1 ek.1

-- as many rows as low and high ones together
line_count : (w : ℕ) (ls hs : List (List ℤ)) → Halves (length ls) (length hs) → Wide (suc w) ls → Wide (suc w) hs → length (line_rows ls hs) ≡ length ls + length hs
line_count w ls hs v el ek =
    let a : length (heads ls) ≡ length ls = length-map ls _ in
    let b : length (heads hs) ≡ length hs = length-map hs _ in
    sym (length-map (line_rows ls hs) _) ∙ ap length (line_heads w ls hs el ek) ∙ line_length (heads ls) (heads hs) (rw (a, b) v) ∙ rw (a, b)

-- all columns at once, row by row, are the lines of the columns: low and high rows that are as wide as there are rows of both
line_down : (w : ℕ) (ls hs : List (List ℤ)) → Halves (length ls) (length hs) → length ls + length hs ≡ w → Wide w ls → Wide w hs → line_rows ls hs ≡ down w ls hs
unfolding down
line_down zero ls hs v e el ek = absurd (omega arith)
line_down (suc w) ls hs v e el ek =
    let n : length (line_rows ls hs) ≡ suc w = line_count w ls hs v el ek ∙ e in
    sym (ap (columns (suc w)) (line_columns (suc w) ls hs el ek) ∙ (rw n at (columns_back (suc w) (line_rows ls hs) (line_wide (suc w) ls hs el ek))))

-- and so for the rows of two lists
pub rows_down : (w p q : ℕ) (b d : List ℤ) → Halves p q → w ≡ p + q → p * w ≤ length b → q * w ≤ length d → line_rows (rows w p b) (rows w q d) ≡ down w (rows w p b) (rows w q d)
rows_down w p q b d v e m n =
    let r = rows_wide w p b m in
    let s = rows_wide w q d n in
    line_down w (rows w p b) (rows w q d) (rw (r.0, s.0) v) (rw (r.0, s.0) (sym e)) r.1 s.1

-- the columns, laid out row by row, take n times n places
pub down_flat : (n : ℕ) (ls hs : List (List ℤ)) → length (flatten (down n ls hs)) ≡ n * n
unfolding down
down_flat n ls hs =
    let cs : List (List ℤ) = zip_with line (columns n ls) (columns n hs) in
    let c : length cs ≡ n = zip_length line (columns n ls) (columns n hs) (columns_count n ls) (columns_count n hs) in
    flat_length (length cs) (columns n cs) (columns_wide n cs) ∙ rw (columns_count n cs, c)
