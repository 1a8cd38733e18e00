-- Laws of a writer by words: bits behind those that wait, four bytes at once, bits in a row. Assumes nothing.
use mathlib.Core.Path.{◌≡◌, refl, ap, sym, ◌∙◌, subst}
use mathlib.Core.Bool.{Bool}
use mathlib.Core.List.{List, [], ◌++◌}
use Prim.Native.Nat.{ℕ, zero, suc, ◌+◌, ◌*◌, ◌/◌, ◌%◌, ◌^◌, ◌≤◌}
use native.Mathlib.Nat.{add-zero}
use native.Mathlib.Omega.{arith}
use lib.ListN.{length, set, length-append}
use Rattle.bits.specs.Written.{bits_of, writer, after}
use Rattle.bits.specs.Inner.{Sound, write, Wrote, byte_start, waiting, settled, settled_out, SoundWord, WroteWords, word_stored, word_of}
use Rattle.bits.specs.declared.writer.BitWriter.{BitWriter}
use Rattle.bits.specs.declared.writer.WordWriter.{WordWriter}
use Rattle.bits.proofs.Puts.{after_sound, after_append, write_append, then, renamed, bits_append, bits_mod, waits, byte, byte_then, fresh}

-- ════ four bytes ════

-- 32 bits at the start of a byte are stored as four bytes
pub word_stored_lem : (out : List ℕ) (at x : ℕ) → Wrote out (writer at 0 0) (bits_of 32 x) (writer (at + 4) 0 0) (word_stored out at x)
word_stored_lem out at x =
    let two : at + 1 + 1 ≡ at + 2 = omega arith in
    let three : at + 2 + 1 ≡ at + 3 = omega arith in
    let four : at + 3 + 1 ≡ at + 4 = omega arith in
    let last = byte c (at + 3) x in
    byte_then out at 32 24 x (omega arith)
    (byte_then a (at + 1) 24 16 x (omega arith)
    (subst (λ i. Wrote b (writer i 0 0) (bits_of 16 x) (writer (at + 4) 0 0) (word_stored out at x)) (sym two)
    (byte_then b (at + 2) 16 8 x (omega arith)
    (subst (λ i. Wrote c (writer i 0 0) (bits_of 8 x) (writer (at + 4) 0 0) (word_stored out at x)) (sym three)
    (ap (λ i. writer i 0 0) (sym four) ∙ last.0, last.1)))))
  where
    a : List ℕ
    a = set out at (x / 2 ^ 24 % 256)

    b : List ℕ
    b = set a (at + 1) (x / 2 ^ 16 % 256)

    c : List ℕ
    c = set b (at + 2) (x / 2 ^ 8 % 256)

-- 32 bits, and some that wait behind them: o is the output after the 32
pub word_then : (out : List ℕ) (at n left x : ℕ) (y : WordWriter) → n ≡ 32 + left → y.at ≡ at + 4 → y.held ≡ left → y.word ≡ x % 2 ^ left
    → {o : List ℕ} → o ≡ write out (writer at 0 0) (bits_of 32 (x / 2 ^ left)) → Wrote out (writer at 0 0) (bits_of n x) (settled y) (settled_out o y)
word_then out at n left x y e a h w {o = o} s =
    let top = word_stored_lem out at (x / 2 ^ left) in
    let place : byte_start y ≡ writer (at + 4) 0 0 = ap (λ i. writer i 0 0) a in
    let rest : waiting y ≡ bits_of left x = ap (λ i. bits_of i y.word) h ∙ ap (bits_of left) w ∙ bits_mod left x in
    renamed out (writer at 0 0) (sym (ap (λ j. bits_of j x) e ∙ bits_append 32 left x))
    (then out (writer at 0 0) (bits_of 32 (x / 2 ^ left)) (bits_of left x) {x = writer (at + 4) 0 0} {o = o} (top.0, s) (
      ap (λ z. after z (waiting y)) place ∙ ap (after (writer (at + 4) 0 0)) rest,
      ap (λ z. write o z (waiting y)) place ∙ ap (write o (writer (at + 4) 0 0)) rest,
    ))

-- whole bytes of bits, and fewer than 8 that wait behind them
bytes_then : (q r x at : ℕ) → r ≤ 7 → after (writer at 0 0) (bits_of (8 * q + r) x) ≡ writer (at + q) (x % 2 ^ r) r
bytes_then zero r x at h =
    let e : 8 * 0 + r ≡ r = omega arith in
    ap (λ j. after (writer at 0 0) (bits_of j x)) e ∙ sym (waits [] at r x h).0 ∙ ap (λ j. writer j (x % 2 ^ r) r) (sym (add-zero at))
bytes_then (suc q) r x at h =
    let e : at + 1 + q ≡ at + suc q = omega arith in
    sym (byte_then [] at (8 * suc q + r) (8 * q + r) x (omega arith) (refl, refl)).0 ∙ bytes_then q r x (at + 1) h ∙ ap (λ j. writer j (x % 2 ^ r) r) e

-- ════ bits behind those that wait ════

-- what waits and the bits behind it, written from the start of the byte
pub words_wrote : (o : List ℕ) (k : WordWriter) (bs cs : List Bool) {x : WordWriter} {p : List ℕ} → cs ≡ waiting k ++ bs
    → Wrote o (byte_start k) cs (settled x) (settled_out p x) → SoundWord x → 8 * x.at + x.held ≡ 8 * k.at + k.held + length bs → WroteWords o k bs x p
words_wrote o k bs cs q d s n = record {
  writer = d.0 ∙ ap (after (byte_start k)) q ∙ after_append (byte_start k) (waiting k) bs;
  out = d.1 ∙ ap (write o (byte_start k)) q ∙ write_append o (byte_start k) (waiting k) bs;
  sound = s;
  near = n;
}

-- no bits
pub words_none : (o : List ℕ) (k : WordWriter) → SoundWord k → WroteWords o k [] k o
words_none o k s = record { writer = refl; out = refl; sound = s; near = omega arith }

-- two writes in a row are one write of both
pub words_then : (o : List ℕ) (k : WordWriter) (a b : List Bool) {x y : WordWriter} {p q : List ℕ} → WroteWords o k a x p → WroteWords p x b y q → WroteWords o k (a ++ b) y q
words_then o k a b {x = x} d e = record {
  writer = e.writer ∙ ap (λ z. after z b) d.writer ∙ sym (after_append (settled k) a b);
  out = e.out ∙ ap (λ z. write z (settled x) b) d.out ∙ ap (λ z. write (write (settled_out o k) (settled k) a) z b) d.writer
      ∙ sym (write_append (settled_out o k) (settled k) a b);
  sound = e.sound;
  near = omega (arith, d.near, e.near, length-append a b);
}

-- the same bits by another name
pub words_renamed : (o : List ℕ) (k : WordWriter) {a b : List Bool} {x : WordWriter} {p : List ℕ} → a ≡ b → WroteWords o k a x p → WroteWords o k b x p
words_renamed o k {x = x} {p = p} q d = subst (λ l. WroteWords o k l x p) q d

-- ════ where a writer is ════

-- the whole bytes that wait, and what is left of them
pub settled_is : (k : WordWriter) → settled k ≡ writer (k.at + k.held / 8) (k.word % 2 ^ (k.held % 8)) (k.held % 8)
settled_is k =
    let e : k.held ≡ 8 * (k.held / 8) + k.held % 8 = omega arith in
    ap (λ j. after (byte_start k) (bits_of j k.word)) e ∙ bytes_then (k.held / 8) (k.held % 8) k.word k.at (omega arith)

-- the whole bytes, with those that wait
pub settled_at : (k : WordWriter) → (settled k).at ≡ k.at + k.held / 8
settled_at k = ap (λ x. x.at) (settled_is k)

-- fewer than 8 bits wait then, as a number
pub settled_sound : (k : WordWriter) → Sound (settled k)
settled_sound k = after_sound (byte_start k) (waiting k) (omega arith, omega arith)

-- one that begins with the bits that a writer keeps stands for that writer
pub word_of_lem : (out : List ℕ) (k : BitWriter) → Sound k → (settled (word_of k) ≡ k) × (settled_out out (word_of k) ≡ out)
word_of_lem out k h = let f = fresh out k h in (sym f.0, sym f.1)

-- what it keeps is a number of fewer than 32 bits
pub word_of_sound : (k : BitWriter) → Sound k → SoundWord (word_of k)
word_of_sound k h = (omega (arith, h.0), h.1)
