-- `dwt_columns::cols_from` meets its contract. Assumes nothing.
use mathlib.Core.Path.{◌≡◌, refl, ap, ◌∙◌}
use mathlib.Core.List.{List}
use Prim.Native.Nat.{ℕ, ◌+◌, ◌*◌, ◌-◌, ◌≤◌}
use native.Mathlib.Omega.{arith}
use lib.IntN.{ℤ}
use lib.ListN.{length, take, drop}
use Rattle.dwt_columns.proofs.Products.{scale}
use Rattle.dwt_columns.proofs.Put.{part_length}
use Rattle.dwt_columns.proofs.RowByRow.{pair_put, last_put, left_at, left_next, cols_one, cols_two}
use Rattle.dwt_columns.proofs.cols_from.Goals as goal

pub loop-j-preserved : goal.loop-j-preserved
loop-j-preserved c =
    let a = c.args in
    let at = c.loop-j in
    let l = at.j * a.w in
    let h = (at.j - 1) * a.w in
    let i = 2 * h in
    let low = scale a.p (at.j + 1) (a.p - at.j - 1) a.w (omega arith) in
    let high = scale a.q (at.j + 1) (a.q - at.j - 1) a.w (omega arith) in
    let beside : l ≡ h + a.w = omega (arith, scale at.j (at.j - 1) 1 a.w (omega arith)) in
    let next : (at.j + 1 - 1) * a.w ≡ h + a.w = omega (arith, scale (at.j + 1 - 1) (at.j - 1) 1 a.w (omega arith)) in
    let in_low : l + a.w ≤ length a.low.now = omega (arith, low, c.requires.w_in_bounds) in
    let in_dst : i + 3 * a.w ≤ length at.dst = omega (arith, low, high, beside, c.requires.w_in_bounds) in
    left_at (left_next _ in_low (omega (arith, high, beside, c.requires.w_in_bounds)) (omega (arith, high, beside, c.requires.w_in_bounds)) in_dst (omega arith)
    (pair_put a.low.now a.high.now a.high.now at.dst c.pair_rows.new.d c.row.result.now c.row-in-loop-j.result.now c.row-in-loop-j-2.result.now a.w l h (h + a.w) i (i + 3 * a.w - i) (3 * a.w)
    c.row.ensures.value c.row-in-loop-j.ensures.value (rw beside at c.row-in-loop-j-2.ensures.value) (omega arith) (omega arith) in_low c.pair_rows.ensures) at.invariant)
    (omega (arith, next)) next (omega arith) (omega arith)

-- the part of the buffer for n rows of w places
part : (d : List ℤ) (i w n : ℕ) {k : ℕ} → i + n * w ≤ length d → k ≡ w → length (take (i + n * w - i) (drop i d)) ≡ n * k
part d i w n h e = part_length d (i + n * w - i) i (omega arith) ∙ rw e (omega arith)

pub pair_rows-requires-then-p-q-clause-d_len : goal.pair_rows-requires-then-p-q-clause-d_len
pair_rows-requires-then-p-q-clause-d_len c =
    let a = c.args in
    let p = scale a.p (a.q + 1) (a.p - a.q - 1) a.w (omega arith) in
    let q = scale a.q (a.q - 1) 1 a.w (omega arith) in
    part c.loop-j.dst (2 * ((a.q - 1) * a.w)) a.w 3 (omega (arith, p, q, c.requires.w_in_bounds)) c.row-l.ensures.len

pub returns-then-p-q : goal.returns-then-p-q
returns-then-p-q c =
    let a = c.args in
    let at = c.loop-j in
    let l = a.q * a.w in
    let h = (a.q - 1) * a.w in
    let i = 2 * h in
    let end : a.q ≡ at.j = omega arith in
    let left = left_at at.invariant (ap (λ (n : ℕ). 2 * ((n - 1) * a.w)) end) (ap (λ (n : ℕ). (n - 1) * a.w) end) (ap (λ (n : ℕ). n * a.w) end) refl in
    let p = scale a.p a.q 1 a.w (omega arith) in
    let q = scale a.q (a.q - 1) 1 a.w (omega arith) in
    let in_low : l + a.w ≤ length a.low.now = omega (arith, p, c.requires.w_in_bounds) in
    cols_one a.low.now a.high.now at.dst a.w l h i _ _ a.dst.now (drop (h + a.w) a.high.now) (a.q - at.j + (a.p - a.q - 1)) (a.q - at.j) ((a.p + a.q) * a.w)
    (omega arith) left.kept left.left (omega arith) (omega (arith, p, q))
    (pair_put a.low.now a.high.now a.high.now at.dst c.pair_rows-then-p-q.new.d c.row-l.result.now c.row-h.result.now c.row-h.result.now a.w l h h i (i + 3 * a.w - i) (3 * a.w)
    c.row-l.ensures.value c.row-h.ensures.value c.row-h.ensures.value (omega arith) (omega arith) in_low c.pair_rows-then-p-q.ensures)

pub last_rows-requires-clause-d_len : goal.last_rows-requires-clause-d_len
last_rows-requires-clause-d_len c =
    let a = c.args in
    let p = scale a.p a.q 2 a.w (omega arith) in
    let q = scale a.q (a.q - 1) 1 a.w (omega arith) in
    part c.loop-j.dst (2 * ((a.q - 1) * a.w)) a.w 4 (omega (arith, p, q, c.requires.w_in_bounds)) c.row-l.ensures.len

pub returns : goal.returns
returns c =
    let a = c.args in
    let at = c.loop-j in
    let l = a.q * a.w in
    let h = (a.q - 1) * a.w in
    let i = 2 * h in
    let end : a.q ≡ at.j = omega arith in
    let left = left_at at.invariant (ap (λ (n : ℕ). 2 * ((n - 1) * a.w)) end) (ap (λ (n : ℕ). (n - 1) * a.w) end) (ap (λ (n : ℕ). n * a.w) end) refl in
    let p = scale a.p a.q 2 a.w (omega arith) in
    let q = scale a.q (a.q - 1) 1 a.w (omega arith) in
    let in_low : l + a.w ≤ length a.low.now = omega (arith, p, c.requires.w_in_bounds) in
    let last : (a.q + 1) * a.w ≡ l + a.w = omega arith in
    cols_two a.low.now a.high.now at.dst a.w l h i _ _ a.dst.now (drop (h + a.w) a.high.now) (a.q - at.j + (a.p - a.q - 1)) (a.q - at.j) ((a.p + a.q) * a.w)
    (omega arith) left.kept left.left (omega arith) (omega (arith, p, q))
    (last_put a.low.now a.high.now a.low.now at.dst c.last_rows.new.d c.row-l.result.now c.row-h.result.now c.row-2.result.now a.w l h (l + a.w) i (i + 4 * a.w - i) (4 * a.w)
    c.row-l.ensures.value c.row-h.ensures.value (rw last at c.row-2.ensures.value) (omega arith) (omega arith) in_low c.last_rows.ensures)
