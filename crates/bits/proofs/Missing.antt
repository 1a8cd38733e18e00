-- The bits that are read stand one after another: how many of them are missing, in closed form, and the same bits past the end.
use mathlib.Core.Path.{◌≡◌, refl, sym, ap, ap₂, ◌∙◌}
use mathlib.Core.Bool.{Bool, true, false, cond}
use mathlib.Core.List.{List, [], ◌∷◌, ◌++◌, map}
use Prim.Native.Nat.{ℕ, zero, suc, ◌+◌, ◌-◌, ◌*◌, ◌≤◌, ◌<◌}
use native.Mathlib.Nat.{add-zero, zero-add, suc-add}
use native.Mathlib.Numerals.{add-one}
use native.Mathlib.Decide.{dec_lt}
use native.Mathlib.Omega.{arith}
use borrow.Author.Tests.{leb-true, leb-false, le-leb}
use lib.Dec.{leb}
use lib.ListN.{length}
use Rattle.bits.specs.Bits.{bit_of, bit_at, zeros, zeros_length}
use Rattle.bits.specs.Missing.{BitRead, read_bit, read_num, read_numbers, read_zeros, missing_in, InStream}
use Rattle.bits.proofs.Ones.{length_one, length_go}
use Rattle.bits.proofs.Past.{Alike, same, past, alike_on, bit_alike}

-- ════ known streams, by `refl` ════

-- a number of some bits, from a bit of a stream on
record Sample : Type 0 where
  stream : List ℕ
  from : ℕ
  width : ℕ
  missing : ℕ

-- the last bit of the last byte, which is there, and the one behind it; a byte and two bits; no bit; a stream of no bytes; a place past the end
abbrev samples : List Sample
samples =
    record { stream = 1 ∷ []; from = 7; width = 1; missing = 0 }
    ∷ record { stream = 1 ∷ []; from = 7; width = 2; missing = 1 }
    ∷ record { stream = 255 ∷ 255 ∷ []; from = 8; width = 10; missing = 2 }
    ∷ record { stream = 1 ∷ []; from = 8; width = 0; missing = 0 }
    ∷ record { stream = []; from = 0; width = 15; missing = 15 }
    ∷ record { stream = 255 ∷ 255 ∷ []; from = 75; width = 4; missing = 4 }
    ∷ []

samples_hold : map (λ s. missing_in (read_num s.stream s.from s.width)) samples ≡ map (λ s. s.missing) samples
unfolding missing_in read_num
samples_hold = refl

-- numbers of 5, 0 and 9 bits of one byte
numbers_hold : missing_in (read_numbers (170 ∷ []) (5 ∷ 0 ∷ 9 ∷ []) 0) ≡ 6
unfolding missing_in read_numbers read_num
numbers_hold = refl

-- zeros before a 1: the 1 is read too; and up to a limit past the end
zeros_hold : map (λ l. missing_in (read_zeros (1 ∷ []) 4 l)) (3 ∷ 9 ∷ []) ≡ 0 ∷ 0 ∷ []
unfolding missing_in read_zeros
zeros_hold = refl

zeros_past_end : map (λ l. missing_in (read_zeros (2 ∷ []) 7 l)) (1 ∷ 9 ∷ []) ≡ 0 ∷ 8 ∷ []
unfolding missing_in read_zeros
zeros_past_end = refl

-- ════ counted ════

-- of two lists
pub missing_append : (a b : List BitRead) → missing_in (a ++ b) ≡ missing_in a + missing_in b
unfolding missing_in
missing_append [] b = sym (zero-add (missing_in b))
missing_append (x ∷ a) b = omega (arith, missing_append a b)

-- of the w bits from bit n on: those read, less those that were there
pub missing_num : (s : List ℕ) (n w : ℕ) → missing_in (read_num s n w) ≡ w - (8 * length s - n)
unfolding missing_in read_num
missing_num s n zero = omega arith
missing_num s n (suc w) = by (read_bit s n).missing refl (missing_num s (suc n) w)
  where
    by : (b : Bool) → (read_bit s n).missing ≡ b → {m : ℕ} → m ≡ w - (8 * length s - suc n) → bit_of b + m ≡ suc w - (8 * length s - n)
    by true e h = omega (arith, leb-true (8 * length s) n e)
    by false e h = omega (arith, leb-false (8 * length s) n e)

-- of the bits from bit n on up to bit m none is missing if and only if every one of them lies in the stream
pub none_missing : (s : List ℕ) (n m : ℕ) {k : ℕ} → n ≤ m → k ≡ missing_in (read_num s n (m - n)) → (k ≡ 0 → InStream s n m) × (InStream s n m → k ≡ 0)
none_missing s n m {k} h e = ((λ z i a b. omega (arith, z, e, missing_num s n (m - n))), λ f. by f (dec_lt n m))
  where
    by : InStream s n m → Dec (n < m) → k ≡ 0
    by f (yes p) = omega (arith, e, missing_num s n (m - n), f (m - 1) (omega arith) (omega arith))
    by f (no p) = omega (arith, e, missing_num s n (m - n))

-- ════ one after another ════

-- a + b bits are a bits and then b bits
pub num_append : (s : List ℕ) (n a b : ℕ) → read_num s n a ++ read_num s (n + a) b ≡ read_num s n (a + b)
unfolding read_num
num_append s n zero b = ap₂ (λ (i j : ℕ). read_num s i j) (add-zero n) (sym (zero-add b))
num_append s n (suc a) b =
    let e : n + suc a ≡ suc n + a = omega arith in
    ap (λ (l : List BitRead). read_bit s n ∷ l) (ap (λ (i : ℕ). read_num s (suc n) a ++ read_num s i b) e ∙ num_append s (suc n) a b)
    ∙ ap (read_num s n) (sym (suc-add a b))

-- the same by where they begin and end
pub num_join : (s : List ℕ) (n m k : ℕ) → n ≤ m → m ≤ k → read_num s n (m - n) ++ read_num s m (k - m) ≡ read_num s n (k - n)
num_join s n m k h g =
    let e : n + (m - n) ≡ m = omega arith in
    let f : m - n + (k - m) ≡ k - n = omega arith in
    ap (λ (i : ℕ). read_num s n (m - n) ++ read_num s i (k - m)) (sym e) ∙ num_append s n (m - n) (k - m) ∙ ap (read_num s n) f

-- zeros before a 1 are as many bits as they take
pub zeros_read : (s : List ℕ) (n l : ℕ) → read_zeros s n l ≡ read_num s n (zeros_length s n l)
unfolding read_zeros read_num zeros
zeros_read s n zero = refl
zeros_read s n (suc l) = by (bit_at s n) refl (zeros_read s (suc n) l)
  where
    by : (b : Bool) → bit_at s n ≡ b → read_zeros s (suc n) l ≡ read_num s (suc n) (zeros_length s (suc n) l)
        → (read_bit s n ∷ cond b [] (read_zeros s (suc n) l)) ≡ read_num s n (zeros_length s n (suc l))
    by true e ih = ap (read_num s n) (sym (length_one s n l e))
    by false e ih = ap (λ (r : List BitRead). read_bit s n ∷ r) ih ∙ ap (read_num s n) (sym (length_go s n l e))

-- how many of them are missing
pub missing_zeros : (s : List ℕ) (n l : ℕ) → missing_in (read_zeros s n l) ≡ zeros_length s n l - (8 * length s - n)
missing_zeros s n l = ap missing_in (zeros_read s n l) ∙ missing_num s n (zeros_length s n l)

-- ════ past the end ════

-- at alike counts the same is read
pub read_alike : (s : List ℕ) {m n : ℕ} → Alike s m n → read_bit s m ≡ read_bit s n
read_alike s (same e) = ap (read_bit s) e
read_alike s {m} {n} (past g h) =
    let a : Alike s m n = past g h in
    let e : leb (8 * length s) m ≡ leb (8 * length s) n = le-leb (8 * length s) m g ∙ sym (le-leb (8 * length s) n h) in
    λ i. record { bit = bit_alike s a i; missing = e i }

-- a number's bits
pub num_read_alike : (s : List ℕ) {m n : ℕ} (w : ℕ) → Alike s m n → read_num s m w ≡ read_num s n w
unfolding read_num
num_read_alike s {m = m} {n = n} zero a = refl
num_read_alike s {m = m} {n = n} (suc w) a =
    ap₂ (λ (b : BitRead) (l : List BitRead). b ∷ l) (read_alike s a)
    (ap (λ (i : ℕ). read_num s i w) (sym (add-one m)) ∙ num_read_alike s {m = m + 1} {n = n + 1} w (alike_on s 1 a) ∙ ap (λ (i : ℕ). read_num s i w) (add-one n))

-- the bits of zeros before a 1
pub zeros_read_alike : (s : List ℕ) {m n : ℕ} (l : ℕ) → Alike s m n → read_zeros s m l ≡ read_zeros s n l
unfolding read_zeros
zeros_read_alike s {m = m} {n = n} zero a = refl
zeros_read_alike s {m = m} {n = n} (suc l) a =
    ap₂ (λ (b : BitRead) (r : List BitRead). b ∷ cond b.bit [] r) (read_alike s a)
    (ap (λ (i : ℕ). read_zeros s i l) (sym (add-one m)) ∙ zeros_read_alike s {m = m + 1} {n = n + 1} l (alike_on s 1 a) ∙ ap (λ (i : ℕ). read_zeros s i l) (add-one n))
