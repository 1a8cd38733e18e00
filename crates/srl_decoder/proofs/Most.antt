-- How far past the end of the stream a reader can come: past it every code word is a single bit 0, and a nonzero value can be read there only once.
use mathlib.Core.Path.{◌≡◌, refl, sym, ap, ap₂, ◌∙◌, subst}
use mathlib.Core.Bool.{Bool, true, false, ◌&&◌, true≢false}
use mathlib.Core.List.{List, [], ◌∷◌}
use Prim.Native.Nat.{ℕ, zero, suc, ◌+◌, ◌-◌, ◌*◌, ◌/◌, ◌%◌, ◌^◌, ◌≤◌, ◌<◌, min}
use native.Mathlib.Decide.{dec_lt}
use native.Mathlib.Omega.{arith}
use borrow.Author.Tests.{leb-true}
use lib.Dec.{leb}
use lib.ListN.{length, replicate}
use lib.Pow.{suc_ones, pow_pos, pow_mono}
use Rattle.bits.specs.Bits.{bit_at, num}
use Rattle.bits.proofs.Numbers.{bit_past}
use Rattle.srl_decoder.specs.Srl.{Reader, reader, most_zeros, behind, reader_after}
use Rattle.srl_decoder.specs.Missing.{values_missing, Narrow, none, narrow}
use Rattle.srl_decoder.specs.Inner.{below}
use Rattle.srl_rules.proofs.Widths.{both}
use Rattle.srl_decoder.proofs.Codes.{code_zero, code_one, ready_pending, length_le}
use Rattle.srl_decoder.proofs.Chains.{below_next}
use Rattle.srl_decoder.proofs.Due.{after_from}
use Rattle.srl_decoder.proofs.Missing.{values_missing_lem}

-- widths that are all the same
pub narrow_replicate : (n w : ℕ) → w ≤ 15 → Narrow (replicate n w)
narrow_replicate zero w h = none
narrow_replicate (suc n) w h = narrow h (narrow_replicate n w h)

-- a nonzero value takes at most 32,767 bits
behind_most : (s : List ℕ) (n w : ℕ) → w ≤ 15 → behind s n w ≤ n + 32767
behind_most s n w h = omega (arith, length_le s (n + 1) (most_zeros w), pow_mono {i = w} {j = 15} h)

-- a code word 0 and one of its zeros
zero_after : (s ws : List ℕ) (w n kp : ℕ) → bit_at s n ≡ false → (reader_after s (w ∷ ws) (reader n kp 0 false)).read ≡ (reader_after s ws (reader (n + 1) (min (kp + 4) 80) (2 ^ (kp / 8) - 1) false)).read
unfolding reader_after
zero_after s ws w n kp e =
    ap (λ (r : Reader). (after_from s w ws r).read) (code_zero s n kp e)
    ∙ ap (λ (z : ℕ). (after_from s w ws (reader (n + 1) (min (kp + 4) 80) z false)).read) (sym (suc_ones (kp / 8)))

-- a code word 1, and what is read behind it
one_after : (s ws : List ℕ) (w n kp : ℕ) → bit_at s n ≡ true
    → (reader_after s (w ∷ ws) (reader n kp 0 false)).read ≡ (reader_after s (w ∷ ws) (reader (n + 1 + kp / 8) (kp - 6) (num s (n + 1) (kp / 8)) true)).read
unfolding reader_after
one_after s ws w n kp e =
    ap (λ (r : Reader). (after_from s w ws r).read) (code_one s n kp e ∙ sym (ready_pending s (n + 1 + kp / 8) (kp - 6) (num s (n + 1) (kp / 8))))

-- ════ by a bound on code words ════

-- Z kp m bounds how many code words 0 bring m zeros from kp on: for a code word more it is at least one more
abbrev Covers : (ℕ → ℕ → ℕ) → Type 0
Covers Z = (kp m : ℕ) → kp ≤ 80 → suc (Z (min (kp + 4) 80) (suc m - 2 ^ (kp / 8))) ≤ Z kp (suc m)

module _ (s : List ℕ) (Z : ℕ → ℕ → ℕ) (covers : Covers Z) where
  -- past the end, with no nonzero value pending: a bit for each code word
  zeros_most : (ws : List ℕ) (n kp run m : ℕ) → length ws - run ≡ m → 8 * length s ≤ n → kp ≤ 80 → (reader_after s ws (reader n kp run false)).read ≤ n + Z kp m
  unfolding reader_after
  zeros_most [] n kp run m e h k = omega arith
  zeros_most (w ∷ ws) n kp (suc run) m e h k = zeros_most ws n kp run m (omega arith) h k
  zeros_most (w ∷ ws) n kp zero m e h k =
      let j = min (kp + 4) 80 in
      let o = 2 ^ (kp / 8) - 1 in
      let l = suc (length ws) - 2 ^ (kp / 8) in
      let g : suc (length ws) ≡ m = omega arith in
      omega (arith, zero_after s ws w n kp (bit_past s n h), ap (Z kp) g, zeros_most ws (n + 1) j o l (omega (arith, suc_ones (kp / 8))) (omega arith) (omega arith), covers kp (length ws) k)

  -- past the end, with a nonzero value pending: its bits too
  pending_most : (ws : List ℕ) (n kp run m : ℕ) → length ws - suc run ≡ m → Narrow ws → 8 * length s ≤ n → kp ≤ 80 → (reader_after s ws (reader n kp run true)).read ≤ n + 32767 + Z kp m
  unfolding reader_after
  pending_most [] n kp run m e a h k = omega arith
  pending_most (w ∷ ws) n kp (suc run) m e (narrow g a) h k = pending_most ws n kp run m (omega arith) a h k
  pending_most (w ∷ ws) n kp zero m e (narrow g a) h k = omega (arith, zeros_most ws (behind s n w) kp 0 m (omega arith) (omega arith) k, behind_most s n w g)

  -- with values still to come at most L, and M at or past the end, as far as the readers come that are not past M: where the bits of a code word 1 go past it,
  -- at most kp / 8 do, and then a nonzero value and code words 0; where a nonzero value goes past it, then code words 0
  module _ (L z : ℕ) (first : (kp m : ℕ) → kp ≤ 80 → m ≤ L → Z kp m ≤ z) (low : (kp m : ℕ) → kp ≤ 80 → m < L → kp / 8 + Z (kp - 6) m ≤ z) (M : ℕ) (end : 8 * length s ≤ M) where
    abbrev Near : List ℕ → Reader → Type 0
    Near ws r = (reader_after s ws r).read ≤ M + 32767 + z

    -- what is known of the values behind the first one
    abbrev Next : List ℕ → Type 0
    Next ws = (r : Reader) → r.kp ≤ 80 → r.read ≤ M → Near ws r

    -- a value of a run, or the nonzero value behind it
    value_most : (w : ℕ) (ws : List ℕ) → w ≤ 15 → length ws < L → Next ws → (n kp run : ℕ) → kp ≤ 80 → n ≤ M → Near (w ∷ ws) (reader n kp run true)
    unfolding reader_after
    value_most w ws g l next n kp (suc run) k h = next (reader n kp run true) k h
    value_most w ws g l next n kp zero k h = by (dec_lt M (behind s n w))
      where
        by : Dec (M < behind s n w) → Near ws (reader (behind s n w) kp 0 false)
        by (yes p) = omega (arith, zeros_most ws (behind s n w) kp 0 (length ws) (omega arith) (omega arith) k, behind_most s n w g, first kp (length ws) k (omega arith))
        by (no p) = next (reader (behind s n w) kp 0 false) k (omega arith)

    -- a code word, and a value behind it
    code_most : (w : ℕ) (ws : List ℕ) → Narrow (w ∷ ws) → length ws < L → Next ws → (n kp : ℕ) → kp ≤ 80 → n ≤ M → Near (w ∷ ws) (reader n kp 0 false)
    code_most w ws (narrow g a) l next n kp k h = by (bit_at s n) refl
      where
        with_one : bit_at s n ≡ true → (c x : ℕ) → n + 1 + kp / 8 ≡ c → Dec (M < c) → Near (w ∷ ws) (reader c (kp - 6) x true)
        with_one e c x f (yes p) =
            let m : ℕ = length ws - x in
            let t : 8 * length s ≤ n → ⊥ = λ q. true≢false (sym e ∙ bit_past s n q) in
            omega (arith, t, pending_most (w ∷ ws) c (kp - 6) x m (omega arith) (narrow g a) (omega arith) (omega arith), low kp m k (omega arith))
        with_one e c x f (no p) = value_most w ws g l next c (kp - 6) x (omega arith) (omega arith)

        with_zero : bit_at s n ≡ false → Dec (M < n + 1) → Near (w ∷ ws) (reader n kp 0 false)
        with_zero e (yes p) = omega (arith, zeros_most (w ∷ ws) n kp 0 (suc (length ws)) (omega arith) (omega arith) k, first kp (suc (length ws)) k (omega arith))
        with_zero e (no p) = omega (arith, zero_after s ws w n kp e, next (reader (n + 1) (min (kp + 4) 80) (2 ^ (kp / 8) - 1) false) (omega arith) (omega arith))

        by : (b : Bool) → bit_at s n ≡ b → Near (w ∷ ws) (reader n kp 0 false)
        by true e = let c : ℕ = n + 1 + kp / 8 in omega (arith, one_after s ws w n kp e, with_one e c (num s (n + 1) (kp / 8)) refl (dec_lt M c))
        by false e = with_zero e (dec_lt M (n + 1))

    -- some values
    most : (ws : List ℕ) (r : Reader) → Narrow ws → length ws ≤ L → r.kp ≤ 80 → r.read ≤ M → Near ws r
    unfolding reader_after
    most [] r a l k h = omega arith
    most (w ∷ ws) r (narrow g a) l k h = by r.run r.pending (λ q. most ws q a (omega arith))
      where
        by : (run : ℕ) (pending : Bool) → Next ws → Near (w ∷ ws) (reader r.read r.kp run pending)
        by (suc run) pending next = next (reader r.read r.kp run pending) k h
        by zero true next = value_most w ws g (omega arith) next r.read r.kp 0 k h
        by zero false next = code_most w ws (narrow g a) (omega arith) next r.read r.kp k h

-- ════ any count of values ════

-- each value may be a code word
pub most_from : (s ws : List ℕ) (r : Reader) (M : ℕ) → Narrow ws → r.kp ≤ 80 → r.read ≤ M → 8 * length s ≤ M → (reader_after s ws r).read ≤ M + length ws + 32777
most_from s ws r M a k h end =
    omega (arith, most s (λ (kp m : ℕ). m) (λ kp m h. omega (arith, pow_pos (kp / 8))) (length ws) (length ws + 10) (λ kp m h g. omega arith) (λ kp m h g. omega arith) M end ws r a (omega arith) k h)

-- from a place in the stream a reader comes at most 32,777 bits past the end, and one for each value
pub most_read : (s ws : List ℕ) (r : Reader) → Narrow ws → r.kp ≤ 80 → r.read ≤ 8 * length s → (reader_after s ws r).read ≤ 8 * length s + length ws + 32777
most_read s ws r a k h = most_from s ws r (8 * length s) a k h (omega arith)

-- from any place at most so many are missing
pub missing_most : (s ws : List ℕ) (r : Reader) → Narrow ws → r.kp ≤ 80 → values_missing s ws r ≤ length ws + 32777
missing_most s ws r a k =
    let M : ℕ = r.read + (8 * length s - r.read) in
    omega (arith, values_missing_lem s ws r, most_from s ws r M a k (omega arith) (omega arith))

-- ════ at most 4,032 values, those of a pass ════

-- code words 0 that bring m zeros: those until kp is 80, and one for each 1,024 zeros that are left then
abbrev coded : ℕ → ℕ → ℕ
coded kp m = (83 - kp) / 4 + (m + below kp - 2048 + 1023) / 1024

-- every number below n passes a test
abbrev all_below : (ℕ → Bool) → ℕ → Bool
all_below f zero = true
all_below f (suc n) = f n && all_below f n

below_passes : (f : ℕ → Bool) (n k : ℕ) → all_below f n ≡ true → k < n → f k ≡ true
below_passes f zero k e h = absurd (omega arith)
below_passes f (suc n) k e h = let b = both (f n) (all_below f n) e in by b.0 (below_passes f n k b.1) (dec_lt k n)
  where
    by : f n ≡ true → (k < n → f k ≡ true) → Dec (k < n) → f k ≡ true
    by last before (yes p) = before p
    by last before (no p) = let q : n ≡ k = omega arith in ap f (sym q) ∙ last

-- what is computed for each kp: no zeros are left at 80, and 4,032 values take few code words
abbrev fine : ℕ → Bool
fine kp = leb (below kp) 2048 && (leb (coded kp 4032) 23 && leb (kp / 8 + coded (kp - 6) 4031) 23)

all_fine : all_below fine 81 ≡ true
all_fine = refl

fine_at : (kp : ℕ) → kp ≤ 80 → (below kp ≤ 2048) × (coded kp 4032 ≤ 23) × (kp / 8 + coded (kp - 6) 4031 ≤ 23)
fine_at kp h =
    let a = both (leb (below kp) 2048) _ (below_passes fine 81 kp all_fine (omega arith)) in
    let b = both (leb (coded kp 4032) 23) _ a.1 in
    (leb-true _ _ a.0, leb-true _ _ b.0, leb-true _ _ b.1)

-- a code word below 80 counts towards 80, one at 80 brings 1,024 zeros
coded_covers : Covers coded
coded_covers kp m h = by (dec_lt kp 80)
  where
    j : ℕ
    j = min (kp + 4) 80

    -- kp rises, and so do the zeros that are left out
    rises : (o b c : ℕ) → kp < 80 → c ≡ o + b → c ≤ 2048 → suc ((83 - j) / 4 + (suc m - o + c - 2048 + 1023) / 1024) ≤ (83 - kp) / 4 + (suc m + b - 2048 + 1023) / 1024
    rises o b c p e g = omega arith

    by : Dec (kp < 80) → suc (coded j (suc m - 2 ^ (kp / 8))) ≤ coded kp (suc m)
    by (yes p) =
        let e : j / 4 % 2 ≡ (kp + 4) / 4 % 2 = omega arith in
        let f : j / 8 ≡ (kp + 4) / 8 = omega arith in
        rises (2 ^ (kp / 8)) (below kp) (below j) p (ap₂ (λ (x y : ℕ). (2 + x) * 2 ^ y) e f ∙ below_next kp) (fine_at j (omega arith)).0
    by (no p) = let e : 80 ≡ kp = omega arith in subst (λ (x : ℕ). suc (coded (min (x + 4) 80) (suc m - 2 ^ (x / 8))) ≤ coded x (suc m)) e (omega arith)

-- a reader of at most 4,032 values comes at most 32,790 bits past the end
pub most_pass : (s ws : List ℕ) (r : Reader) → Narrow ws → r.kp ≤ 80 → r.read ≤ 8 * length s → length ws ≤ 4032 → (reader_after s ws r).read ≤ 8 * length s + 32790
most_pass s ws r a k h l =
    omega (arith, most s coded coded_covers 4032 23 (λ kp m h g. omega (arith, (fine_at kp h).1)) (λ kp m h g. omega (arith, (fine_at kp h).2)) (8 * length s) (omega arith) ws r a l k h)
