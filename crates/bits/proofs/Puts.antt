-- Laws of writing bits: bits in a row, the bits of a number, zeros. Assumes nothing.
use mathlib.Core.Path.{◌≡◌, refl, ap, sym, ◌∙◌}
use mathlib.Core.Bool.{Bool, true, false, cond}
use mathlib.Core.List.{List, [], ◌∷◌, ◌++◌, append_assoc, append-nil}
use Prim.Native.Nat.{ℕ, zero, suc, ◌+◌, ◌*◌, ◌/◌, ◌%◌, ◌^◌, ◌≤◌, ◌<◌}
use native.Mathlib.Nat.{pow-suc, add-suc, add-zero, mul_assoc, mod-eq_of_lt}
use native.Mathlib.Numerals.{add-one}
use native.Mathlib.Omega.{arith}
use lib.Dec.{eqb}
use lib.ListN.{length, set, replicate, length-append, replicate-append-replicate}
use lib.Pow.{shr-shr, mod-pow-add, high, split}
use borrow.Author.Tests.{eqb-false, ne_eqb}
use Rattle.bits.specs.Bits.{is_odd, bit_of}
use Rattle.bits.specs.Written.{bits_of, writer, after_bit, after}
use Rattle.bits.specs.Inner.{Sound, put_bit, write, Wrote}
use Rattle.bits.specs.declared.writer.BitWriter.{BitWriter}
use Rattle.bits.proofs.Numbers.{bit_le, odd_bit}

-- ════ what a writer keeps ════

-- a byte holds the bits that wait and one more
pub byte_fits : (k : BitWriter) (b : Bool) → Sound k → k.current * 2 + bit_of b < 2 ^ (k.bit_count + 1)
byte_fits k b h = rw (add-one k.bit_count, pow-suc 2 k.bit_count) (omega (arith, bit_le b))

-- `after_bit`, by what its test says
abbrev step_by : BitWriter → Bool → Bool → BitWriter
step_by k b e = cond e (writer (k.at + 1) 0 0) (writer k.at (k.current * 2 + bit_of b) (k.bit_count + 1))

-- a bit more leaves fewer than 8 bits waiting, as a number
pub step_sound : (k : BitWriter) (b : Bool) → Sound k → Sound (after_bit k b)
step_sound k b h = by (eqb k.bit_count 7) refl
  where
    by : (e : Bool) → eqb k.bit_count 7 ≡ e → Sound (step_by k b e)
    by true q = (omega arith, omega arith)
    by false q = let n : (k.bit_count ≡ 7 → ⊥) = eqb-false _ _ q in (omega arith, byte_fits k b h)

-- some bits leave fewer than 8 bits waiting, as a number
pub after_sound : (k : BitWriter) (bs : List Bool) → Sound k → Sound (after k bs)
after_sound k [] h = h
after_sound k (b ∷ bs) h = after_sound (after_bit k b) bs (step_sound k b h)

-- ════ bits in a row ════

-- the writer after bits in a row
pub after_append : (k : BitWriter) (a b : List Bool) → after k (a ++ b) ≡ after (after k a) b
after_append k [] b = refl
after_append k (x ∷ a) b = after_append (after_bit k x) a b

-- the output after bits in a row
pub write_append : (out : List ℕ) (k : BitWriter) (a b : List Bool) → write out k (a ++ b) ≡ write (write out k a) (after k a) b
write_append out k [] b = refl
write_append out k (x ∷ a) b = write_append (put_bit out k x) (after_bit k x) a b

-- two writes in a row are one write of both
pub then : (out : List ℕ) (k : BitWriter) (a b : List Bool) {x y : BitWriter} {o p : List ℕ} → Wrote out k a x o → Wrote o x b y p → Wrote out k (a ++ b) y p
then out k a b {x = x} {o = o} d e = (
  e.0 ∙ ap (λ z. after z b) d.0 ∙ sym (after_append k a b),
  e.1 ∙ ap (λ z. write z x b) d.1 ∙ ap (λ z. write (write out k a) z b) d.0 ∙ sym (write_append out k a b),
)

-- the same bits by another name
pub renamed : (out : List ℕ) (k : BitWriter) {a b : List Bool} {x : BitWriter} {o : List ℕ} → a ≡ b → Wrote out k a x o → Wrote out k b x o
renamed out k q d = (d.0 ∙ ap (after k) q, d.1 ∙ ap (write out k) q)

-- ════ the bits of a number ════

-- the low k bits of a number are k bits
pub length_bits_of : (k z : ℕ) → length (bits_of k z) ≡ k
length_bits_of zero z = refl
length_bits_of (suc k) z = simp (length-append, length_bits_of k (z / 2)) (omega arith)

-- the highest of them come first
pub bits_append : (i m x : ℕ) → bits_of (i + m) x ≡ bits_of i (x / 2 ^ m) ++ bits_of m x
bits_append i zero x =
    let v : x ≡ x / 1 = omega arith in
    ap (λ j. bits_of j x) (add-zero i) ∙ ap (bits_of i) v ∙ sym (append-nil (bits_of i (x / 1)))
bits_append i (suc m) x =
    let e : 1 + m ≡ suc m = omega arith in
    ap (λ j. bits_of j x) (add-suc i m)
    ∙ ap (λ l. l ++ (is_odd x ∷ [])) (bits_append i m (x / 2))
    ∙ append_assoc (bits_of i (x / 2 / 2 ^ m)) (bits_of m (x / 2)) (is_odd x ∷ [])
    ∙ ap (λ y. bits_of i y ++ bits_of (suc m) x) (shr-shr x 1 m ∙ ap (λ j. x / 2 ^ j) e)

-- what stands above them does not matter
pub bits_low : (m hi lo : ℕ) → bits_of m (hi * 2 ^ m + lo) ≡ bits_of m lo
bits_low zero hi lo = refl
bits_low (suc m) hi lo =
    let p : hi * 2 ^ suc m ≡ hi * 2 ^ m * 2 = ap (λ y. hi * y) (pow-suc 2 m) ∙ sym (mul_assoc hi (2 ^ m) 2) in
    let half : (hi * 2 ^ suc m + lo) / 2 ≡ hi * 2 ^ m + lo / 2 = omega (arith, p) in
    let bit : (hi * 2 ^ suc m + lo) % 2 ≡ lo % 2 = omega (arith, p) in
    ap (λ y. bits_of m y ++ (is_odd (hi * 2 ^ suc m + lo) ∷ [])) half
    ∙ ap (λ l. l ++ (is_odd (hi * 2 ^ suc m + lo) ∷ [])) (bits_low m hi (lo / 2))
    ∙ ap (λ y. bits_of m (lo / 2) ++ (eqb y 1 ∷ [])) bit

-- two numbers side by side
pub bits_join : (i m hi lo : ℕ) → lo < 2 ^ m → bits_of (i + m) (hi * 2 ^ m + lo) ≡ bits_of i hi ++ bits_of m lo
bits_join i m hi lo h =
    bits_append i m (hi * 2 ^ m + lo)
    ∙ ap (λ y. bits_of i y ++ bits_of m (hi * 2 ^ m + lo)) (high hi m h)
    ∙ ap (λ l. bits_of i hi ++ l) (bits_low m hi lo)

-- the low bits of a number are those of its remainder
pub bits_mod : (m x : ℕ) → bits_of m (x % 2 ^ m) ≡ bits_of m x
bits_mod m x = sym (ap (bits_of m) (sym (split x m)) ∙ bits_low m (x / 2 ^ m) (x % 2 ^ m))

-- the bits of 0 are zeros
pub bits_zero : (n : ℕ) → bits_of n 0 ≡ replicate n false
bits_zero zero = refl
bits_zero (suc n) = ap (λ l. l ++ (false ∷ [])) (bits_zero n) ∙ replicate-append-replicate n 1 false ∙ ap (λ m. replicate m false) (add-one n)

-- ════ the bits of a number, from the start of a byte ════

-- fewer than 8 wait
pub waits : (out : List ℕ) (at n x : ℕ) → n ≤ 7 → Wrote out (writer at 0 0) (bits_of n x) (writer at (x % 2 ^ n) n) out
waits out at zero x h = let z : x % 1 ≡ 0 = omega arith in (ap (λ c. writer at c 0) z, refl)
waits out at (suc n) x h = then out (writer at 0 0) (bits_of n (x / 2)) (is_odd x ∷ []) (waits out at n (x / 2) (omega arith)) last
  where
    more : eqb n 7 ≡ false
    more = ne_eqb n 7 (λ e. omega arith)

    grown : x % 2 ^ suc n ≡ x / 2 % 2 ^ n * 2 + bit_of (is_odd x)
    grown =
        let e : suc n ≡ n + 1 = omega arith in
        ap (λ j. x % 2 ^ j) e ∙ mod-pow-add x n 1 ∙ ap (λ b. x / 2 % 2 ^ n * 2 + b) (sym (odd_bit x))

    last : Wrote out (writer at (x / 2 % 2 ^ n) n) (is_odd x ∷ []) (writer at (x % 2 ^ suc n) (suc n)) out
    last = (
      ap (λ c. writer at c (suc n)) grown ∙ ap (writer at (x / 2 % 2 ^ n * 2 + bit_of (is_odd x))) (sym (add-one n))
          ∙ ap (λ e. cond e (writer (at + 1) 0 0) (writer at (x / 2 % 2 ^ n * 2 + bit_of (is_odd x)) (n + 1))) (sym more),
      ap (λ e. cond e (set out at (x / 2 % 2 ^ n * 2 + bit_of (is_odd x))) out) (sym more),
    )

-- 8 make a byte
pub byte : (out : List ℕ) (at x : ℕ) → Wrote out (writer at 0 0) (bits_of 8 x) (writer (at + 1) 0 0) (set out at (x % 256))
byte out at x =
    let e : x % 256 ≡ x / 2 % 128 * 2 + bit_of (is_odd x) = omega (arith, odd_bit x) in
    then out (writer at 0 0) (bits_of 7 (x / 2)) (is_odd x ∷ []) (waits out at 7 (x / 2) (omega arith)) (refl, ap (set out at) e)

-- a writer is what its waiting bits make
pub fresh : (out : List ℕ) (k : BitWriter) → Sound k → Wrote out (writer k.at 0 0) (bits_of k.bit_count k.current) k out
fresh out k h =
    let w = waits out k.at k.bit_count k.current h.0 in
    (ap (λ c. writer k.at c k.bit_count) (sym (mod-eq_of_lt h.1)) ∙ w.0, w.1)

-- 8 and some more
pub byte_then : (out : List ℕ) (at n left x : ℕ) {r : BitWriter} {o : List ℕ} → n ≡ 8 + left
    → Wrote (set out at (x / 2 ^ left % 256)) (writer (at + 1) 0 0) (bits_of left x) r o → Wrote out (writer at 0 0) (bits_of n x) r o
byte_then out at n left x e d =
    renamed out (writer at 0 0) (sym (ap (λ j. bits_of j x) e ∙ bits_append 8 left x))
    (then out (writer at 0 0) (bits_of 8 (x / 2 ^ left)) (bits_of left x) (byte out at (x / 2 ^ left)) d)

-- ════ zeros ════

-- zeros are those of two parts in a row
pub zeros_two : (n i j : ℕ) → n ≡ i + j → replicate n false ≡ replicate i false ++ replicate j false
zeros_two n i j e = ap (λ m. replicate m false) e ∙ sym (replicate-append-replicate i j false)
