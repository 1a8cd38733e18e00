-- Laws of the bytes that bits make: whole bytes, padded bytes, and how many there are. Assumes nothing.
use mathlib.Core.Path.{◌≡◌, refl, ap, sym, ◌∙◌}
use mathlib.Core.Bool.{Bool, true, false, cond}
use mathlib.Core.List.{List, [], ◌∷◌, ◌++◌, append-nil}
use Prim.Native.Nat.{ℕ, zero, suc, ◌+◌, ◌-◌, ◌*◌, ◌/◌, ◌%◌, ◌^◌, ◌≤◌, ◌<◌}
use native.Mathlib.Nat.{add-zero, zero-add, mul-lt-mul_of_pos_right}
use native.Mathlib.Numerals.{add-one}
use native.Mathlib.Omega.{arith}
use lib.Dec.{eqb}
use lib.ListN.{length, set, drop, length-append}
use lib.Pow.{pow_pos, pow-add}
use lib.Seq.{sets, sets-eq}
use borrow.Author.Tests.{eqb-true, eqb-false}
use Rattle.bits.specs.Bits.{bit_of}
use Rattle.bits.proofs.Numbers.{Bytes, bit_le}
use Rattle.bits.specs.Written.{whole, pack, writer, after}
use Rattle.bits.specs.Inner.{write, pad_count, pad_out, writer_count, counted}
use Rattle.bits.specs.declared.writer.BitWriter.{BitWriter}
use Rattle.bits.specs.declared.writer.BitCount.{BitCount}

-- ════ whole bytes ════

-- bits are written as their whole bytes in a row
pub write_whole : (bs : List Bool) (out : List ℕ) (j cur n : ℕ) → write out (writer j cur n) bs ≡ sets out j (whole cur n bs)
write_whole [] out j cur n = refl
write_whole (b ∷ bs) out j cur n = by (eqb n 7) (write_whole bs)
  where
    by : (e : Bool) → ((out : List ℕ) (j cur n : ℕ) → write out (writer j cur n) bs ≡ sets out j (whole cur n bs))
        → write (cond e (set out j (cur * 2 + bit_of b)) out) (cond e (writer (j + 1) 0 0) (writer j (cur * 2 + bit_of b) (n + 1))) bs
        ≡ sets out j (cond e ((cur * 2 + bit_of b) ∷ whole 0 0 bs) (whole (cur * 2 + bit_of b) (n + 1) bs))
    by true ih =
        ih (set out j (cur * 2 + bit_of b)) (j + 1) 0 0 ∙ ap (λ i. sets (set out j (cur * 2 + bit_of b)) i (whole 0 0 bs)) (add-one j)
    by false ih = ih out j (cur * 2 + bit_of b) (n + 1)

-- a writer counts the whole bytes that the bits make
pub after_whole_lem : (bs : List Bool) (j cur n : ℕ) → (after (writer j cur n) bs).at ≡ j + length (whole cur n bs)
after_whole_lem [] j cur n = sym (add-zero j)
after_whole_lem (b ∷ bs) j cur n = by (eqb n 7) (after_whole_lem bs)
  where
    by : (e : Bool) → ((j cur n : ℕ) → (after (writer j cur n) bs).at ≡ j + length (whole cur n bs))
        → (after (cond e (writer (j + 1) 0 0) (writer j (cur * 2 + bit_of b) (n + 1))) bs).at
        ≡ j + length (cond e ((cur * 2 + bit_of b) ∷ whole 0 0 bs) (whole (cur * 2 + bit_of b) (n + 1) bs))
    by true ih = ih (j + 1) 0 0 ∙ omega arith
    by false ih = ih j (cur * 2 + bit_of b) (n + 1)

-- bits are packed as their whole bytes, and then what follows them
pub pack_append : (a b : List Bool) (j cur n : ℕ) → pack cur n (a ++ b) ≡ whole cur n a ++ pack (after (writer j cur n) a).current (after (writer j cur n) a).bit_count b
pack_append [] b j cur n = refl
pack_append (x ∷ a) b j cur n = by (eqb n 7) (pack_append a b)
  where
    by : (e : Bool) → ((j cur n : ℕ) → pack cur n (a ++ b) ≡ whole cur n a ++ pack (after (writer j cur n) a).current (after (writer j cur n) a).bit_count b)
        → cond e ((cur * 2 + bit_of x) ∷ pack 0 0 (a ++ b)) (pack (cur * 2 + bit_of x) (n + 1) (a ++ b))
        ≡ cond e ((cur * 2 + bit_of x) ∷ whole 0 0 a) (whole (cur * 2 + bit_of x) (n + 1) a)
        ++ pack (after (cond e (writer (j + 1) 0 0) (writer j (cur * 2 + bit_of x) (n + 1))) a).current (after (cond e (writer (j + 1) 0 0) (writer j (cur * 2 + bit_of x) (n + 1))) a).bit_count b
    by true ih = ap (λ l. (cur * 2 + bit_of x) ∷ l) (ih (j + 1) 0 0)
    by false ih = ih j (cur * 2 + bit_of x) (n + 1)

-- bytes in a row
pub sets_append : (a b : List ℕ) (l : List ℕ) (i : ℕ) → sets l i (a ++ b) ≡ sets (sets l i a) (i + length a) b
sets_append [] b l i = ap (λ n. sets l n b) (sym (add-zero i))
sets_append (x ∷ a) b l i = sets_append a b (set l i x) (suc i) ∙ ap (λ n. sets (sets (set l i x) (suc i) a) n b) (omega arith)

-- bits and the padding are written as `pack` has them
module _ (f : List Bool) (out : List ℕ) (j cur n : ℕ) where
  k : BitWriter
  k = after (writer j cur n) f

  all : pack cur n f ≡ whole cur n f ++ pack k.current k.bit_count []
  unfolding k
  all = ap (pack cur n) (sym (append-nil f)) ∙ pack_append f [] j cur n

  -- with the padding a writer counts all bytes of `pack`
  pub pad_count_lem : pad_count (after (writer j cur n) f) ≡ j + length (pack cur n f)
  unfolding k
  pad_count_lem = by (eqb k.bit_count 0) ∙ ap (λ l. j + length l) (sym all)
    where
      by : (e : Bool) → cond e k.at (k.at + 1) ≡ j + length (whole cur n f ++ cond e [] ((k.current * 2 ^ (8 - k.bit_count)) ∷ []))
      by true = omega (arith, after_whole_lem f j cur n, length-append (whole cur n f) [])
      by false = omega (arith, after_whole_lem f j cur n, length-append (whole cur n f) ((k.current * 2 ^ (8 - k.bit_count)) ∷ []))

  -- with the padding the output holds all bytes of `pack`
  pub pad_out_lem : pad_out (write out (writer j cur n) f) (after (writer j cur n) f) ≡ sets out j (pack cur n f)
  unfolding k
  pad_out_lem = by (eqb k.bit_count 0) ∙ ap (sets out j) (sym all)
    where
      x : ℕ
      x = k.current * 2 ^ (8 - k.bit_count)

      by : (e : Bool) → cond e (write out (writer j cur n) f) (set (write out (writer j cur n) f) k.at x) ≡ sets out j (whole cur n f ++ cond e [] (x ∷ []))
      by true = write_whole f out j cur n ∙ ap (sets out j) (sym (append-nil (whole cur n f)))
      by false =
          ap (λ o. set o k.at x) (write_whole f out j cur n)
          ∙ ap (λ i. set (sets out j (whole cur n f)) i x) (after_whole_lem f j cur n)
          ∙ sym (sets_append (whole cur n f) (x ∷ []) out j)

-- from the start: k and q are the writer and the output after the bits, n and p what the padding gives
pub padded : (f : List Bool) (out : List ℕ) {k : BitWriter} {q p : List ℕ} {n : ℕ} → k ≡ after (writer 0 0 0) f → q ≡ write out (writer 0 0 0) f
    → n ≡ pad_count k → p ≡ pad_out q k → (n ≡ length (pack 0 0 f)) × (p ≡ sets out 0 (pack 0 0 f))
padded f out {k = k} a b c d = (
  c ∙ ap pad_count a ∙ pad_count_lem f out 0 0 0 ∙ zero-add (length (pack 0 0 f)),
  d ∙ ap (λ x. pad_out x k) b ∙ ap (pad_out (write out (writer 0 0 0) f)) a ∙ pad_out_lem f out 0 0 0,
)

-- the padding makes at most one byte more
pub pad_le : (k : BitWriter) → pad_count k ≤ k.at + 1
pad_le k = by (eqb k.bit_count 0)
  where
    by : (e : Bool) → cond e k.at (k.at + 1) ≤ k.at + 1
    by true = omega arith
    by false = omega arith

-- from the start, where they fit: the rest of the list stays
pub sets_start : (vs l : List ℕ) → length vs ≤ length l → sets l 0 vs ≡ vs ++ drop (length vs) l
sets_start vs l h = sets-eq vs l 0 (omega arith) ∙ ap (λ n. vs ++ drop n l) (zero-add (length vs))

-- ════ measuring ════

-- the place after some bits is known by their number
pub count_after_lem : (k : BitWriter) (bs : List Bool) → k.bit_count ≤ 7 → writer_count (after k bs) ≡ counted (writer_count k) (length bs)
count_after_lem k [] h =
    let a : k.at ≡ k.at + (k.bit_count + 0) / 8 = omega arith in
    let n : k.bit_count ≡ (k.bit_count + 0) % 8 = omega arith in
    λ i. record { at = a i; bit_count = n i }
count_after_lem k (b ∷ bs) h = by (eqb k.bit_count 7) refl (λ x. count_after_lem x bs)
  where
    by : (e : Bool) → eqb k.bit_count 7 ≡ e → ((x : BitWriter) → x.bit_count ≤ 7 → writer_count (after x bs) ≡ counted (writer_count x) (length bs))
        → writer_count (after (cond e (writer (k.at + 1) 0 0) (writer k.at (k.current * 2 + bit_of b) (k.bit_count + 1))) bs)
        ≡ counted (writer_count k) (suc (length bs))
    by true q ih =
        let s : k.bit_count ≡ 7 = eqb-true _ _ q in
        let a : k.at + 1 + (0 + length bs) / 8 ≡ k.at + (k.bit_count + suc (length bs)) / 8 = omega arith in
        let n : (0 + length bs) % 8 ≡ (k.bit_count + suc (length bs)) % 8 = omega arith in
        ih (writer (k.at + 1) 0 0) (omega arith) ∙ (λ i. record { at = a i; bit_count = n i })
    by false q ih =
        let s : (k.bit_count ≡ 7 → ⊥) = eqb-false _ _ q in
        let a : k.at + (k.bit_count + 1 + length bs) / 8 ≡ k.at + (k.bit_count + suc (length bs)) / 8 = omega arith in
        let n : (k.bit_count + 1 + length bs) % 8 ≡ (k.bit_count + suc (length bs)) % 8 = omega arith in
        ih (writer k.at (k.current * 2 + bit_of b) (k.bit_count + 1)) (omega arith) ∙ (λ i. record { at = a i; bit_count = n i })

-- how many bytes some bits are, with the padding
pub length_pack : (bs : List Bool) (cur n : ℕ) → n ≤ 7 → length (pack cur n bs) ≡ (n + length bs + 7) / 8
length_pack [] cur n h = by (eqb n 0) refl
  where
    by : (e : Bool) → eqb n 0 ≡ e → length (cond e [] ((cur * 2 ^ (8 - n)) ∷ [])) ≡ (n + 0 + 7) / 8
    by true q = let s : n ≡ 0 = eqb-true _ _ q in omega arith
    by false q = let s : (n ≡ 0 → ⊥) = eqb-false _ _ q in omega arith
length_pack (b ∷ bs) cur n h = by (eqb n 7) refl (length_pack bs)
  where
    by : (e : Bool) → eqb n 7 ≡ e → ((cur n : ℕ) → n ≤ 7 → length (pack cur n bs) ≡ (n + length bs + 7) / 8)
        → length (cond e ((cur * 2 + bit_of b) ∷ pack 0 0 bs) (pack (cur * 2 + bit_of b) (n + 1) bs)) ≡ (n + suc (length bs) + 7) / 8
    by true q ih = let s : n ≡ 7 = eqb-true _ _ q in omega (arith, ih 0 0 (omega arith))
    by false q ih = let s : (n ≡ 7 → ⊥) = eqb-false _ _ q in omega (arith, ih (cur * 2 + bit_of b) (n + 1) (omega arith))

-- bits counted in two parts
pub counted_two : (p : BitCount) (m n : ℕ) → counted (counted p m) n ≡ counted p (m + n)
counted_two p m n =
    let a : p.at + (p.bit_count + m) / 8 + ((p.bit_count + m) % 8 + n) / 8 ≡ p.at + (p.bit_count + (m + n)) / 8 = omega arith in
    let b : ((p.bit_count + m) % 8 + n) % 8 ≡ (p.bit_count + (m + n)) % 8 = omega arith in
    λ i. record { at = a i; bit_count = b i }

-- no bits leave a count as it is
pub counted_none : (p : BitCount) → p.bit_count ≤ 7 → p ≡ counted p 0
counted_none p h =
    let a : p.at ≡ p.at + (p.bit_count + 0) / 8 = omega arith in
    let b : p.bit_count ≡ (p.bit_count + 0) % 8 = omega arith in
    λ i. record { at = a i; bit_count = b i }

-- ════ every element is a byte ════

-- a byte in front of bytes, and bytes one after another
pub bytes_cons : (b : ℕ) (s : List ℕ) → b < 256 → Bytes s → Bytes (b ∷ s)
bytes_cons b s h k zero = h
bytes_cons b s h k (suc i) = k i

-- the empty list is one of bytes
pub bytes_none : Bytes []
bytes_none i = omega arith

-- two lists of bytes, one behind the other, are bytes
pub bytes_append : (a b : List ℕ) → Bytes a → Bytes b → Bytes (a ++ b)
bytes_append [] b h k = k
bytes_append (x ∷ a) b h k = bytes_cons x (a ++ b) (h 0) (bytes_append a b (λ i. h (suc i)) k)

-- packed bits are bytes
pub pack_bytes : (bs : List Bool) (cur n : ℕ) → n ≤ 7 → cur < 2 ^ n → Bytes (pack cur n bs)
pack_bytes [] cur n h l = by (eqb n 0)
  where
    sum : n + (8 - n) ≡ 8
    sum = omega arith

    last : cur * 2 ^ (8 - n) < 256
    last = omega (arith, mul-lt-mul_of_pos_right l (pow_pos (8 - n)), pow-add 2 n (8 - n), ap (λ (k : ℕ). 2 ^ k) sum)

    by : (e : Bool) → Bytes (cond e [] ((cur * 2 ^ (8 - n)) ∷ []))
    by true = bytes_none
    by false = bytes_cons (cur * 2 ^ (8 - n)) [] last bytes_none
pack_bytes (b ∷ bs) cur n h l = by (eqb n 7) refl (pack_bytes bs)
  where
    by : (e : Bool) → eqb n 7 ≡ e → ((cur n : ℕ) → n ≤ 7 → cur < 2 ^ n → Bytes (pack cur n bs))
        → Bytes (cond e ((cur * 2 + bit_of b) ∷ pack 0 0 bs) (pack (cur * 2 + bit_of b) (n + 1) bs))
    by true q ih =
        let s : n ≡ 7 = eqb-true _ _ q in
        bytes_cons (cur * 2 + bit_of b) (pack 0 0 bs) (omega (arith, bit_le b, rw s at l)) (ih 0 0 (omega arith) (omega arith))
    by false q ih =
        let s : (n ≡ 7 → ⊥) = eqb-false _ _ q in
        ih (cur * 2 + bit_of b) (n + 1) (omega arith) (omega (arith, bit_le b, pow-add 2 n 1))
