-- How long the buffer stays: as long as it was. Assumes nothing.
use mathlib.Core.Path.{◌≡◌, ◌∙◌}
use mathlib.Core.List.{List}
use Prim.Native.Nat.{ℕ, ◌+◌, ◌*◌, ◌≤◌}
use native.Mathlib.Omega.{arith}
use lib.IntN.{ℤ}
use lib.ListN.{length, take, drop, length-append, length-drop}
use lib.Seq.{length-take-le}
use Rattle.dwt_extrapolate.specs.Block.{lows, highs, block, block_at}
use Rattle.dwt_extrapolate.specs.Transform.{inner, inverse}
use Rattle.dwt_columns.proofs.Columns.{down_flat}

-- after a block that begins it
block_length : (p q : ℕ) (b : List ℤ) → (p + q) * (p + q) ≤ length b → length (block p q b) ≡ length b
unfolding block
block_length p q b n = rw (length-append, down_flat (p + q) (lows p q b) (highs p q b), length-drop) (omega arith)

-- after a block that begins at place i
pub block_at_length : (i p q : ℕ) (b : List ℤ) → i + (p + q) * (p + q) ≤ length b → length (block_at i p q b) ≡ length b
unfolding block_at
block_at_length i p q b n =
    let m : length (take i b) ≡ i = length-take-le i b (omega arith) in
    rw (length-append, m, block_length p q (drop i b) (simp length-drop (omega arith)), length-drop) (omega arith)

-- after the first two blocks
pub inner_length : (b : List ℤ) → 4096 ≤ length b → length (inner b) ≡ length b
unfolding inner
inner_length b n =
    let e : length (block_at 3807 9 8 b) ≡ length b = block_at_length 3807 9 8 b (omega arith) in
    block_at_length 3007 17 16 (block_at 3807 9 8 b) (omega arith) ∙ e

-- after all three
pub inverse_length : (b : List ℤ) → 4096 ≤ length b → length (inverse b) ≡ length b
unfolding inverse
inverse_length b n =
    let e : length (inner b) ≡ length b = inner_length b n in
    block_at_length 0 33 31 (inner b) (omega arith) ∙ e
