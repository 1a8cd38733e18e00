-- Bits that stand in a stream, one after another: what is read of them, and that bytes hold the bits that they were made of.
use mathlib.Core.Path.{◌≡◌, refl, sym, ap, ◌∙◌, subst}
use mathlib.Core.Bool.{Bool, true, false, cond}
use mathlib.Core.List.{List, [], ◌∷◌, ◌++◌}
use Prim.Native.Nat.{ℕ, zero, suc, ◌+◌, ◌-◌, ◌*◌, ◌/◌, ◌%◌, ◌^◌, ◌≤◌, ◌<◌}
use native.Mathlib.Nat.{add-zero, pow-suc}
use native.Mathlib.Numerals.{add-one}
use native.Mathlib.Omega.{arith}
use borrow.Author.Tests.{eqb-true, eqb-false, ne_eqb}
use lib.Dec.{eqb}
use lib.ListN.{length, get_or, drop, replicate}
use lib.Pow.{shl-shr, shr-shr}
use lib.Seq.{drop-drop, get_or-drop}
use Rattle.bits.specs.Bits.{is_odd, bit_of, bit_at, num, zeros}
use Rattle.bits.specs.Written.{bits_of, pack}
use Rattle.bits.proofs.Numbers.{bit_le, odd_bit, num_split, num_none}
use Rattle.bits.proofs.Ones.{zeros_step}
use Rattle.bits.proofs.Puts.{length_bits_of}

-- the stream has these bits from bit n on
abbrev pub Holds : List ℕ → ℕ → List Bool → Type 0
Holds s n [] = Unit {0}
Holds s n (b ∷ bs) = (bit_at s n ≡ b) × Holds s (suc n) bs

-- two lists of bits stand in a stream one after another where both together do
pub holds_append : (s : List ℕ) (n : ℕ) (a b : List Bool) → Holds s n (a ++ b) → Holds s n a × Holds s (n + length a) b
holds_append s n [] b h = (tt, subst (λ (i : ℕ). Holds s i b) (sym (add-zero n)) h)
holds_append s n (x ∷ a) b h =
    let r = holds_append s (suc n) a b h.1 in
    let e : suc n + length a ≡ n + suc (length a) = omega arith in
    ((h.0, r.0), subst (λ (i : ℕ). Holds s i b) e r.1)

-- ════ what is read of them ════

-- zeros and a 1
pub zeros_one : (s : List ℕ) (n m l : ℕ) → m < l → Holds s n (replicate m false ++ (true ∷ [])) → zeros s n l ≡ m
unfolding zeros
zeros_one s n m zero k h = absurd (omega arith)
zeros_one s n zero (suc l) k h = zeros_step s n l true h.0
zeros_one s n (suc m) (suc l) k h = zeros_step s n l false h.0 ∙ ap suc (zeros_one s (suc n) m l (omega arith) h.1)

-- nothing but zeros
pub zeros_all : (s : List ℕ) (n l : ℕ) → Holds s n (replicate l false) → zeros s n l ≡ l
unfolding zeros
zeros_all s n zero h = refl
zeros_all s n (suc l) h = zeros_step s n l false h.0 ∙ ap suc (zeros_all s (suc n) l h.1)

num_last : (s : List ℕ) (n k : ℕ) → num s n (suc k) ≡ num s n k * 2 + bit_of (bit_at s (n + k))
unfolding num
num_last s n k = ap (num s n) (sym (add-one k)) ∙ num_split s n k 1 ∙ omega arith

-- the bits of a number
pub num_holds : (s : List ℕ) (n k x : ℕ) → x < 2 ^ k → Holds s n (bits_of k x) → num s n k ≡ x
num_holds s n zero x j h = num_none s n ∙ omega arith
num_holds s n (suc k) x j h =
    let r = holds_append s n (bits_of k (x / 2)) (is_odd x ∷ []) h in
    let v = num_holds s n k (x / 2) (omega (arith, rw (pow-suc 2 k) at j)) r.0 in
    let b : bit_at s (n + k) ≡ is_odd x = subst (λ (i : ℕ). bit_at s (n + i) ≡ is_odd x) (length_bits_of k (x / 2)) r.1.0 in
    num_last s n k ∙ rw (v, b, odd_bit x) (omega arith)

-- ════ bytes ════

-- the high bits of the first byte: those that are there already, and the next
top_full : (x n : ℕ) → n ≡ 7 → x / 2 ^ (7 - n) ≡ x
top_full x n e = rw e (omega arith)

top : (bs : List Bool) (cur n : ℕ) (b : Bool) (tail : List ℕ) → n ≤ 7 → get_or (pack cur n (b ∷ bs) ++ tail) 0 0 / 2 ^ (7 - n) ≡ cur * 2 + bit_of b
top [] cur n b tail h = by (eqb n 7) refl
  where
    by : (e : Bool) → eqb n 7 ≡ e → get_or (cond e ((cur * 2 + bit_of b) ∷ []) (pack (cur * 2 + bit_of b) (n + 1) []) ++ tail) 0 0 / 2 ^ (7 - n) ≡ cur * 2 + bit_of b
    by true e = top_full (cur * 2 + bit_of b) n (eqb-true _ _ e)
    by false e =
        let k : 8 - (n + 1) ≡ 7 - n = omega arith in
        simp (ne_eqb (n + 1) 0 (λ q. omega arith)) (rw k (shl-shr (cur * 2 + bit_of b) (7 - n)))
top (c ∷ bs) cur n b tail h = by (eqb n 7) refl (top bs (cur * 2 + bit_of b) (n + 1) c tail)
  where
    by : (e : Bool) → eqb n 7 ≡ e
        → (n + 1 ≤ 7 → get_or (pack (cur * 2 + bit_of b) (n + 1) (c ∷ bs) ++ tail) 0 0 / 2 ^ (7 - (n + 1)) ≡ (cur * 2 + bit_of b) * 2 + bit_of c)
        → get_or (cond e ((cur * 2 + bit_of b) ∷ pack 0 0 (c ∷ bs)) (pack (cur * 2 + bit_of b) (n + 1) (c ∷ bs)) ++ tail) 0 0 / 2 ^ (7 - n) ≡ cur * 2 + bit_of b
    by true e ih = top_full (cur * 2 + bit_of b) n (eqb-true _ _ e)
    by false e ih =
        let ne : (n ≡ 7 → ⊥) = eqb-false _ _ e in
        let k : 7 - n ≡ 7 - (n + 1) + 1 = omega arith in
        let g = get_or (pack (cur * 2 + bit_of b) (n + 1) (c ∷ bs) ++ tail) 0 0 in
        ap (λ (x : ℕ). g / 2 ^ x) k ∙ sym (shr-shr g (7 - (n + 1)) 1) ∙ ap (λ (x : ℕ). x / 2) (ih (omega arith)) ∙ omega (arith, bit_le c)

bit_odd : (b : Bool) (x : ℕ) → is_odd (x * 2 + bit_of b) ≡ b
bit_odd true x = ap (λ (m : ℕ). eqb m 1) {x = (x * 2 + 1) % 2} {y = 1} (omega arith)
bit_odd false x = ap (λ (m : ℕ). eqb m 1) {x = (x * 2 + 0) % 2} {y = 0} (omega arith)

-- the bits that were packed stand in the stream, whatever follows them
pub pack_holds : (bs : List Bool) (s : List ℕ) (j cur n : ℕ) (tail : List ℕ) → n ≤ 7 → drop j s ≡ pack cur n bs ++ tail → Holds s (8 * j + n) bs
pack_holds [] s j cur n tail h e = tt
pack_holds (b ∷ bs) s j cur n tail h e = (bit, by (eqb n 7) refl e (pack_holds bs s))
  where
    byte : get_or s j 0 ≡ get_or (pack cur n (b ∷ bs) ++ tail) 0 0
    byte = ap (λ (x : ℕ). get_or s x 0) (sym (add-zero j)) ∙ sym (get_or-drop j s 0 0) ∙ ap (λ (l : List ℕ). get_or l 0 0) e

    bit : bit_at s (8 * j + n) ≡ b
    bit =
        let q : (8 * j + n) / 8 ≡ j = omega arith in
        let r : (8 * j + n) % 8 ≡ n = omega arith in
        rw (q, r, byte, top bs cur n b tail h) (bit_odd b cur)

    by : (f : Bool) → eqb n 7 ≡ f
        → drop j s ≡ cond f ((cur * 2 + bit_of b) ∷ pack 0 0 bs) (pack (cur * 2 + bit_of b) (n + 1) bs) ++ tail
        → ((j cur n : ℕ) (tail : List ℕ) → n ≤ 7 → drop j s ≡ pack cur n bs ++ tail → Holds s (8 * j + n) bs)
        → Holds s (suc (8 * j + n)) bs
    by true q d ih =
        let l : n ≡ 7 = eqb-true _ _ q in
        let m : 8 * (j + 1) + 0 ≡ suc (8 * j + n) = omega arith in
        subst (λ (i : ℕ). Holds s i bs) m (ih (j + 1) 0 0 tail (omega arith) (sym (drop-drop 1 j s) ∙ ap (drop 1) d))
    by false q d ih =
        let ne : (n ≡ 7 → ⊥) = eqb-false _ _ q in
        let m : 8 * j + (n + 1) ≡ suc (8 * j + n) = omega arith in
        subst (λ (i : ℕ). Holds s i bs) m (ih j (cur * 2 + bit_of b) (n + 1) tail (omega arith) d)
