-- Laws of the classes of a band's places: eight of them, and what a class says of its place. Assumes nothing.
use mathlib.Core.Path.{◌≡◌, refl, ap, sym, ◌∙◌}
use mathlib.Core.Bool.{Bool, true, false}
use mathlib.Core.List.{List}
use Prim.Native.Nat.{ℕ, zero, suc, ◌+◌, ◌≤◌, ◌<◌}
use native.Mathlib.Nat.{add-zero}
use native.Mathlib.Omega.{arith}
use lib.Bits.{bit_or, or_add_and, and_le_r, or_comm}
use lib.Dec.{ltb}
use lib.ListN.{length, get_or, set}
use lib.Seq.{get_or-set_same, get_or-set_other}
use borrow.Author.Tests.{ltb-true, ltb-false}
use Rattle.progressive_encoder.specs.Inner.{sum_from}

-- ════ eight at once ════

-- neither of two numbers is above both together
or_left : (a b : ℕ) → a ≤ bit_or a b
or_left a b = omega (arith, or_add_and a b, and_le_r a b)

or_right : (a b : ℕ) → b ≤ bit_or a b
or_right a b = rw (or_comm a b) (or_left b a)

-- none of four
or_four : (a b c d : ℕ) → (a ≤ bit_or (bit_or (bit_or a b) c) d) × (b ≤ bit_or (bit_or (bit_or a b) c) d) × (c ≤ bit_or (bit_or (bit_or a b) c) d) × (d ≤ bit_or (bit_or (bit_or a b) c) d)
or_four a b c d =
    let x = bit_or a b in
    let y = bit_or x c in (
      omega (arith, or_left a b, or_left x c, or_left y d),
      omega (arith, or_right a b, or_left x c, or_left y d),
      omega (arith, or_right x c, or_left y d),
      or_right y d,
    )

-- what none of eight is above
eight_below : (l : List ℕ) (i r : ℕ) → get_or l i 0 ≤ r → get_or l (i + 1) 0 ≤ r → get_or l (i + 2) 0 ≤ r → get_or l (i + 3) 0 ≤ r → get_or l (i + 4) 0 ≤ r → get_or l (i + 5) 0 ≤ r → get_or l (i + 6) 0 ≤ r → get_or l (i + 7) 0 ≤ r
    → (k : ℕ) → k < 8 → get_or l (i + k) 0 ≤ r
eight_below l i r a b c d e f g h zero n = rw (add-zero i) a
eight_below l i r a b c d e f g h (suc zero) n = b
eight_below l i r a b c d e f g h (suc (suc zero)) n = c
eight_below l i r a b c d e f g h (suc (suc (suc zero))) n = d
eight_below l i r a b c d e f g h (suc (suc (suc (suc zero)))) n = e
eight_below l i r a b c d e f g h (suc (suc (suc (suc (suc zero))))) n = f
eight_below l i r a b c d e f g h (suc (suc (suc (suc (suc (suc zero)))))) n = g
eight_below l i r a b c d e f g h (suc (suc (suc (suc (suc (suc (suc zero))))))) n = h
eight_below l i r a b c d e f g h (suc (suc (suc (suc (suc (suc (suc (suc k)))))))) n = absurd (omega arith)

-- eight together are such
pub eight_or : (l : List ℕ) (i k : ℕ) → k < 8
    → get_or l (i + k) 0 ≤ bit_or (bit_or (bit_or (bit_or (get_or l i 0) (get_or l (i + 1) 0)) (get_or l (i + 2) 0)) (get_or l (i + 3) 0)) (bit_or (bit_or (bit_or (get_or l (i + 4) 0) (get_or l (i + 5) 0)) (get_or l (i + 6) 0)) (get_or l (i + 7) 0))
eight_or l i =
    let x = bit_or (bit_or (bit_or (get_or l i 0) (get_or l (i + 1) 0)) (get_or l (i + 2) 0)) (get_or l (i + 3) 0) in
    let y = bit_or (bit_or (bit_or (get_or l (i + 4) 0) (get_or l (i + 5) 0)) (get_or l (i + 6) 0)) (get_or l (i + 7) 0) in
    let a = or_four (get_or l i 0) (get_or l (i + 1) 0) (get_or l (i + 2) 0) (get_or l (i + 3) 0) in
    let b = or_four (get_or l (i + 4) 0) (get_or l (i + 5) 0) (get_or l (i + 6) 0) (get_or l (i + 7) 0) in
    eight_below l i (bit_or x y)
    (omega (arith, a.0, or_left x y)) (omega (arith, a.1, or_left x y)) (omega (arith, a.2, or_left x y)) (omega (arith, a.3, or_left x y))
    (omega (arith, b.0, or_right x y)) (omega (arith, b.1, or_right x y)) (omega (arith, b.2, or_right x y)) (omega (arith, b.3, or_right x y))

-- their sum
pub sum_eight : (l : List ℕ) (i : ℕ) → get_or l i 0 + get_or l (i + 1) 0 + get_or l (i + 2) 0 + get_or l (i + 3) 0 + (get_or l (i + 4) 0 + get_or l (i + 5) 0 + get_or l (i + 6) 0 + get_or l (i + 7) 0) ≡ sum_from l i 8
unfolding sum_from
sum_eight l i =
    let at : ℕ → ℕ = λ j. get_or l j 0 in
    omega (
      arith,
      ap at {x = i + 1} {y = suc i} (omega arith),
      ap at {x = i + 2} {y = suc (suc i)} (omega arith),
      ap at {x = i + 3} {y = suc (suc (suc i))} (omega arith),
      ap at {x = i + 4} {y = suc (suc (suc (suc i)))} (omega arith),
      ap at {x = i + 5} {y = suc (suc (suc (suc (suc i))))} (omega arith),
      ap at {x = i + 6} {y = suc (suc (suc (suc (suc (suc i)))))} (omega arith),
      ap at {x = i + 7} {y = suc (suc (suc (suc (suc (suc (suc i))))))} (omega arith),
    )

-- where none is above 1 it is at most 8
pub sum_few : (l : List ℕ) (i : ℕ) → ((k : ℕ) → k < 8 → get_or l (i + k) 0 ≤ 1) → sum_from l i 8 ≤ 8
sum_few l i h =
    let first : get_or l i 0 ≤ 1 = rw (sym (add-zero i)) (h 0 (omega arith)) in
    omega (arith, sum_eight l i, first, h 1 (omega arith), h 2 (omega arith), h 3 (omega arith), h 4 (omega arith), h 5 (omega arith), h 6 (omega arith), h 7 (omega arith))

-- ════ a list that a loop fills ════

-- its first places have what a function says, and so has one place more
pub fills_next : (f : ℕ → ℕ) (l : List ℕ) (i v : ℕ) → i < length l → v ≡ f i → ((k : ℕ) → k < i → get_or l k 0 ≡ f k) → (k : ℕ) → k < i + 1 → get_or (set l i v) k 0 ≡ f k
fills_next f l i v h e s k below = pick (ltb k i) refl
  where
    pick : (t : Bool) → ltb k i ≡ t → get_or (set l i v) k 0 ≡ f k
    pick true t = get_or-set_other l i k v 0 (λ same. omega (arith, ltb-true k i t)) ∙ s k (ltb-true k i t)
    pick false t = let same : k ≡ i = omega (arith, ltb-false k i t) in rw same (get_or-set_same l i v 0 h ∙ e)
