-- Zeros before a 1: how many there are, counted in parts, and past the end of the stream.
use mathlib.Core.Path.{◌≡◌, refl, sym, ap, ap₂, ◌∙◌}
use mathlib.Core.Bool.{Bool, true, false, cond}
use mathlib.Core.List.{List}
use Prim.Native.Nat.{ℕ, zero, suc, ◌+◌, ◌-◌, ◌*◌, ◌≤◌, ◌<◌, min}
use native.Mathlib.Nat.{zero-add, add-zero, suc-add}
use native.Mathlib.Decide.{dec_lt}
use native.Mathlib.Omega.{arith}
use lib.ListN.{length}
use borrow.Author.Tests.{lt-ltb, le-ltb}
use Rattle.bits.specs.Bits.{bit_at, zeros, zeros_length}
use Rattle.bits.proofs.Numbers.{bit_past}

-- there are at most as many zeros as are looked at
pub zeros_le : (s : List ℕ) (n l : ℕ) → zeros s n l ≤ l
unfolding zeros
zeros_le s n zero = omega arith
zeros_le s n (suc l) = by (bit_at s n) (zeros_le s (suc n) l)
  where
    by : (b : Bool) {z : ℕ} → z ≤ l → cond b 0 (suc z) ≤ suc l
    by true h = omega arith
    by false h = omega arith

-- by the first bit: a 1, or a zero and those behind it
pub zeros_step : (s : List ℕ) (n l : ℕ) (b : Bool) → bit_at s n ≡ b → zeros s n (suc l) ≡ cond b 0 (suc (zeros s (suc n) l))
unfolding zeros
zeros_step s n l b e = ap (λ (b : Bool). cond b 0 (suc (zeros s (suc n) l))) e

-- past the end all that is asked for are zeros
pub zeros_past : (s : List ℕ) (n l : ℕ) → 8 * length s ≤ n → zeros s n l ≡ l
unfolding zeros
zeros_past s n zero h = refl
zeros_past s n (suc l) h = rw (bit_past s n h, zeros_past s (suc n) l (omega arith)) refl

-- fewer asked for
pub zeros_min : (s : List ℕ) (n l m : ℕ) → l ≤ m → zeros s n l ≡ min l (zeros s n m)
unfolding zeros
zeros_min s n zero m h = omega arith
zeros_min s n (suc l) zero h = absurd (omega arith)
zeros_min s n (suc l) (suc m) h = by (bit_at s n) (zeros s (suc n) l) (zeros s (suc n) m) (zeros_min s (suc n) l m (omega arith))
  where
    by : (b : Bool) (x y : ℕ) → x ≡ min l y → cond b 0 (suc x) ≡ min (suc l) (cond b 0 (suc y))
    by true x y e = omega arith
    by false x y e = omega arith

-- a 1 among the first m
pub zeros_part : (s : List ℕ) (n m k : ℕ) → zeros s n m < m → zeros s n (m + k) ≡ zeros s n m
zeros_part s n m k h = omega (arith, zeros_min s n m (m + k) (omega arith))

-- none among them
pub zeros_on : (s : List ℕ) (n m k : ℕ) → zeros s n m ≡ m → zeros s n (m + k) ≡ m + zeros s (n + m) k
unfolding zeros
zeros_on s n zero k e = ap₂ (λ (i j : ℕ). zeros s i j) (sym (add-zero n)) (zero-add k) ∙ sym (zero-add (zeros s (n + 0) k))
zeros_on s n (suc m) k e = by (bit_at s n) refl e (zeros_on s (suc n) m k)
  where
    by : (b : Bool) → bit_at s n ≡ b → cond b 0 (suc (zeros s (suc n) m)) ≡ suc m → (zeros s (suc n) m ≡ m → zeros s (suc n) (m + k) ≡ m + zeros s (suc n + m) k)
        → zeros s n (suc m + k) ≡ suc m + zeros s (n + suc m) k
    by true q f ih = absurd (omega arith)
    by false q f ih =
        ap (zeros s n) (suc-add m k)
        ∙ zeros_step s n (m + k) false q
        ∙ ap suc (ih (omega arith))
        ∙ ap (λ (i : ℕ). suc (m + zeros s i k)) {x = suc n + m} {y = n + suc m} (omega arith)
        ∙ sym (suc-add m (zeros s (n + suc m) k))

-- z zeros up to the end of the stream, and so all that are asked for
pub zeros_end : (s : List ℕ) (n z limit : ℕ) → zeros s n z ≡ z → z ≤ limit → 8 * length s ≤ n + z → zeros s n limit ≡ limit
zeros_end s n z limit e h g =
    let q : limit ≡ z + (limit - z) = omega arith in
    ap (zeros s n) q ∙ zeros_on s n z (limit - z) e ∙ ap (λ (k : ℕ). z + k) (zeros_past s (n + z) (limit - z) g) ∙ sym q

-- a 1 among the next bits ends the zeros counted so far
pub zeros_stop : (s : List ℕ) (n z part limit : ℕ) → zeros s n z ≡ z → z + part ≤ limit → zeros s (n + z) part < part → z + zeros s (n + z) part ≡ zeros s n limit
zeros_stop s n z part limit e h l =
    let q : limit ≡ z + (part + (limit - (z + part))) = omega arith in
    sym (ap (zeros s n) q ∙ zeros_on s n z (part + (limit - (z + part))) e ∙ ap (λ (k : ℕ). z + k) (zeros_part s (n + z) part (limit - (z + part)) l))

-- next bits without a 1 are zeros more
pub zeros_go : (s : List ℕ) (n z part : ℕ) → zeros s n z ≡ z → part ≤ zeros s (n + z) part → zeros s n (z + part) ≡ z + part
zeros_go s n z part e l = zeros_on s n z part e ∙ omega (arith, zeros_le s (n + z) part)

-- ---- how many bits they take

-- zeros that the limit ends: as many
pub length_all : (s : List ℕ) (n l : ℕ) → zeros s n l ≡ l → zeros_length s n l ≡ l
length_all s n l e = simp (le-ltb (zeros s n l) l (omega (arith, e)))

-- zeros that a 1 ends: with it
pub length_some : (s : List ℕ) (n l : ℕ) → zeros s n l < l → zeros_length s n l ≡ zeros s n l + 1
length_some s n l h = simp (lt-ltb (zeros s n l) l h)

-- a 1 at once
pub length_one : (s : List ℕ) (n l : ℕ) → bit_at s n ≡ true → zeros_length s n (suc l) ≡ 1
length_one s n l e = let z = zeros_step s n l true e in omega (arith, length_some s n (suc l) (omega (arith, z)), z)

-- a zero, and those behind it
pub length_go : (s : List ℕ) (n l : ℕ) → bit_at s n ≡ false → zeros_length s n (suc l) ≡ suc (zeros_length s (suc n) l)
length_go s n l e = by (dec_lt (zeros s (suc n) l) l)
  where
    z : zeros s n (suc l) ≡ suc (zeros s (suc n) l)
    z = zeros_step s n l false e

    by : Dec (zeros s (suc n) l < l) → zeros_length s n (suc l) ≡ suc (zeros_length s (suc n) l)
    by (yes p) = omega (arith, z, length_some s n (suc l) (omega (arith, z)), length_some s (suc n) l p)
    by (no p) =
        let all : zeros s (suc n) l ≡ l = omega (arith, zeros_le s (suc n) l) in
        omega (arith, length_all s n (suc l) (omega (arith, z, all)), length_all s (suc n) l all)
