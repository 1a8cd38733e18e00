-- Blocks: the rows of a block and the halves of its lines, what its two steps leave in scratch and buffer, and the three blocks one after another.
-- Assumes nothing.
use mathlib.Core.Path.{◌≡◌, sym, ap, ◌∙◌}
use mathlib.Core.Bool.{◌&&◌}
use mathlib.Core.List.{List, [], ◌++◌, append_assoc, append-nil, flatten}
use Prim.Native.Nat.{ℕ, ◌+◌, ◌*◌, ◌-◌, ◌≤◌}
use native.Mathlib.Nat.{add-mul}
use native.Mathlib.Omega.{arith}
use lib.Dec.{T, leb, lit≤}
use lib.IntN.{ℤ}
use lib.ListN.{length, take, drop, length-append, length-drop, drop_of_length-le}
use lib.Seq.{drop-drop, take_at, drop_at}
use mir.Facts.{and_yes}
use Rattle.dwt_lines.specs.Line.{Halves}
use Rattle.dwt_extrapolate.specs.Block.{lines, lows, highs, scratch, block, block_at}
use Rattle.dwt_extrapolate.specs.Transform.{inner, inverse, scratched}
use Rattle.dwt_extrapolate.specs.Made.{BlockLines}
use Rattle.dwt_columns.specs.Columns.{rows, columns, down}
use Rattle.dwt_columns.specs.Inner.{put_part}
use Rattle.dwt_columns.proofs.Put.{part_length, to_end, drop_more}
use Rattle.dwt_columns.proofs.Wide.{Wide, flat_length}
use Rattle.dwt_columns.proofs.Columns.{columns_wide}
use Rattle.dwt_extrapolate.proofs.Rows.{flat_rows, lines_wide, each_line, each_row}

-- ════ the rows of a block ════

module _ (p q : ℕ) (v : Halves p q) (b : List ℤ) (nb : (p + q) * (p + q) ≤ length b) where
  -- how many low rows there are, and how wide
  lows_wide : (length (lows p q b) ≡ p) × Wide (p + q) (lows p q b)
  unfolding lows
  lows_wide = lines_wide p q v p (drop (q * p + p * q + q * q) b) b (simp length-drop (omega arith)) (omega arith)

  -- and high ones
  highs_wide : (length (highs p q b) ≡ q) × Wide (p + q) (highs p q b)
  unfolding highs
  highs_wide = lines_wide p q v q (drop (q * p) b) (drop (q * p + p * q) b) (simp length-drop (omega arith)) (simp length-drop (omega arith))

  -- the halves of its lines
  pub block_lines : BlockLines p q b
  block_lines = record {
    low_rows = each_row p q v p (drop (q * p + p * q + q * q) b) b (simp length-drop (omega arith)) (omega arith);
    high_rows = each_row p q v q (drop (q * p) b) (drop (q * p + p * q) b) (simp length-drop (omega arith)) (simp length-drop (omega arith));
    all_columns = each_line (length (lows p q b)) (length (highs p q b)) (rw (lows_wide.0, highs_wide.0) v)
        (columns (p + q) (lows p q b)) (columns (p + q) (highs p q b)) (columns_wide (p + q) (lows p q b)) (columns_wide (p + q) (highs p q b));
  }

  -- how long the low rows are, laid out one after another
  lows_length : length (flatten (lows p q b)) ≡ p * (p + q)
  lows_length = flat_length (p + q) (lows p q b) lows_wide.1 ∙ ap (λ (n : ℕ). n * (p + q)) lows_wide.0

  -- and the high ones
  highs_length : length (flatten (highs p q b)) ≡ q * (p + q)
  highs_length = flat_length (p + q) (highs p q b) highs_wide.1 ∙ ap (λ (n : ℕ). n * (p + q)) highs_wide.0

  -- what a block leaves of the scratch, after its own places
  scratch_rest : (t : List ℤ) → drop ((p + q) * (p + q)) (scratch p q b t) ≡ drop ((p + q) * (p + q)) t
  unfolding scratch
  scratch_rest t =
      let F : List ℤ = flatten (lows p q b) in
      let G : List ℤ = flatten (highs p q b) in
      let nF : length F ≡ p * (p + q) = lows_length in
      let nG : length G ≡ q * (p + q) = highs_length in
      let n : length (F ++ G) ≡ (p + q) * (p + q) = rw length-append (omega arith) in
      rw (← append_assoc) (drop_at (F ++ G) (drop ((p + q) * (p + q)) t) ((p + q) * (p + q)) n)

  -- t is the scratch, t₁ the scratch after the first rows, u its rest after the others
  module _ (t t₁ u : List ℤ) (k : ℕ) (e₁ : t₁ ≡ flatten (lines p q p (drop (q * p + p * q + q * q) b) b) ++ drop (p * (p + q)) t) (ek : k ≡ length t₁ - p * (p + q))
      (e₂ : u ≡ flatten (lines p q q (drop (q * p) b) (drop (q * p + p * q) b)) ++ drop (q * (p + q)) (take k (drop (p * (p + q)) t₁))) where
    -- the scratch then
    pub block_scratch : put_part (p * (p + q)) k t₁ u ≡ scratch p q b t
    unfolding scratch lows highs
    block_scratch =
        let half : ℕ = p * (p + q) in
        let F : List ℤ = flatten (lows p q b) in
        let all : take k (drop half t₁) ≡ drop half t₁ = rw ek (to_end t₁ half) in
        let none : drop k (drop half t₁) ≡ [] = drop_of_length-le (drop half t₁) {i = k} (simp length-drop (omega arith)) in
        let front : take half t₁ ≡ F = rw e₁ (take_at F (drop half t) half lows_length) in
        let back : drop half t₁ ≡ drop half t = rw e₁ (drop_at F (drop half t) half lows_length) in
        let end : drop (q * (p + q)) (drop half t) ≡ drop ((p + q) * (p + q)) t = drop-drop (q * (p + q)) half t ∙ ap (λ (z : ℕ). drop z t) (sym (add-mul p q (p + q))) in
        rw (none, append-nil, front, e₂, all, back, end)

    -- the buffer D after the columns
    pub block_cols : (D : List ℤ) → D ≡ flatten (down (p + q) (rows (p + q) p (put_part (p * (p + q)) k t₁ u)) (rows (p + q) q (drop (p * (p + q)) (put_part (p * (p + q)) k t₁ u)))) ++ drop ((p + q) * (p + q)) b → D ≡ block p q b
    unfolding scratch block
    block_cols D e =
        let half : ℕ = p * (p + q) in
        let F : List ℤ = flatten (lows p q b) in
        let G : List ℤ = flatten (highs p q b) in
        let R : List ℤ = drop ((p + q) * (p + q)) t in
        let l = lows_wide in
        let h = highs_wide in
        let rl : rows (p + q) p (F ++ (G ++ R)) ≡ lows p q b = rw l.0 at (flat_rows (p + q) (lows p q b) (G ++ R) l.1) in
        let rh : rows (p + q) q (G ++ R) ≡ highs p q b = rw h.0 at (flat_rows (p + q) (highs p q b) R h.1) in
        let back : drop half (F ++ (G ++ R)) ≡ G ++ R = drop_at F (G ++ R) half lows_length in
        e ∙ rw (block_scratch, rl, back, rh)

-- ════ the three blocks ════

-- each makes lines, by a test of its two numbers
pub makes_lines : {p q : ℕ} → T (leb 1 q && (leb (q + 1) p && leb p (q + 2))) → Halves p q
makes_lines {p} {q} t =
    let u = and_yes (leb 1 q) (leb (q + 1) p && leb p (q + 2)) t in
    let v = and_yes (leb (q + 1) p) (leb p (q + 2)) u.1 in
    record { some = lit≤ u.0; least = lit≤ v.0; most = lit≤ v.1 }

-- a block at the end of the buffer
at_end : (p q i k : ℕ) (b u : List ℤ) → k ≡ length b - i → u ≡ block p q (take k (drop i b)) → put_part i k b u ≡ block_at i p q b
unfolding block_at
at_end p q i k b u e f =
    let none : drop k (drop i b) ≡ [] = drop_of_length-le (drop i b) {i = k} (simp length-drop (omega arith)) in
    let all : take k (drop i b) ≡ drop i b = rw e (to_end b i) in
    rw (none, append-nil, f, all)

-- the last block's scratch is the same, whatever the earlier ones wrote
scratch_same : (b t t' : List ℤ) → drop 4096 t' ≡ drop 4096 t → scratch 33 31 b t' ≡ scratch 33 31 b t
unfolding scratch
scratch_same b t t' e = rw e

-- the buffer and the scratch after each of the three: u₃ and u₂ are what the first two put at the end of the buffer
module _ (b t u₃ t₃ u₂ t₂ b₁ t₁ : List ℤ) (k₃ k₂ : ℕ) (n₃ : k₃ ≡ length b - 3807) (n₂ : k₂ ≡ length (put_part 3807 k₃ b u₃) - 3007)
    (nb : 4096 ≤ length b) (nb₃ : length (put_part 3807 k₃ b u₃) ≡ length b)
    (e₃ : u₃ ≡ block 9 8 (take k₃ (drop 3807 b))) (e₂ : u₂ ≡ block 17 16 (take k₂ (drop 3007 (put_part 3807 k₃ b u₃)))) (e₁ : b₁ ≡ block 33 31 (put_part 3007 k₂ (put_part 3807 k₃ b u₃) u₂))
    (f₃ : t₃ ≡ scratch 9 8 (take k₃ (drop 3807 b)) t) (f₂ : t₂ ≡ scratch 17 16 (take k₂ (drop 3007 (put_part 3807 k₃ b u₃))) t₃) (f₁ : t₁ ≡ scratch 33 31 (put_part 3007 k₂ (put_part 3807 k₃ b u₃) u₂) t₂) where
  -- the buffer after the first two
  is_inner : put_part 3007 k₂ (put_part 3807 k₃ b u₃) u₂ ≡ inner b
  unfolding inner
  is_inner = at_end 17 16 3007 k₂ (put_part 3807 k₃ b u₃) u₂ n₂ e₂ ∙ ap (block_at 3007 17 16) (at_end 9 8 3807 k₃ b u₃ n₃ e₃)

  -- what `decode` leaves in both
  pub three_blocks : (b₁ ≡ inverse b) × (t₁ ≡ scratched b t)
  unfolding inverse scratched block_at
  three_blocks =
      let B : List ℤ = put_part 3807 k₃ b u₃ in
      let m₃ : length (take k₃ (drop 3807 b)) ≡ k₃ = part_length b k₃ 3807 (omega arith) in
      let m₂ : length (take k₂ (drop 3007 B)) ≡ k₂ = part_length B k₂ 3007 (omega arith) in
      let r₃ : drop 289 t₃ ≡ drop 289 t = ap (drop 289) f₃ ∙ scratch_rest 9 8 (makes_lines tt) (take k₃ (drop 3807 b)) (omega arith) t in
      let r₂ : drop 1089 t₂ ≡ drop 1089 t₃ = ap (drop 1089) f₂ ∙ scratch_rest 17 16 (makes_lines tt) (take k₂ (drop 3007 B)) (omega arith) t₃ in
      let rest : drop 4096 t₂ ≡ drop 4096 t = drop_more t₂ t₃ 1089 4096 (omega arith) r₂ ∙ drop_more t₃ t 289 4096 (omega arith) r₃ in
      (e₁ ∙ ap (block 33 31) is_inner, f₁ ∙ scratch_same (put_part 3007 k₂ B u₂) t t₂ rest ∙ ap (λ (z : List ℤ). scratch 33 31 z t) is_inner)
