-- Code words one after another: those up to a nonzero value give what one run of all their zeros, and that value, would give.
use mathlib.Core.Path.{◌≡◌, refl, sym, ap, ap₂, ◌∙◌, subst}
use mathlib.Core.Bool.{Bool, true, false, cond, true≢false}
use mathlib.Core.List.{List}
use Prim.Native.Nat.{ℕ, zero, suc, ◌+◌, ◌-◌, ◌*◌, ◌/◌, ◌%◌, ◌^◌, ◌≤◌, ◌<◌, min}
use native.Mathlib.Nat.{two-pow-succ}
use native.Mathlib.Omega.{arith}
use lib.Pow.{pow_pos, pow_mono}
use Rattle.bits.specs.Bits.{bit_at, num, zeros}
use Rattle.srl_decoder.specs.Srl.{Reader, reader, code_word, value, past, readied, next_reader}
use Rattle.srl_decoder.specs.Inner.{Same, below, read_behind, Brought}
use Rattle.srl_decoder.specs.declared.decoder.CodesRead.{CodesRead}
use Rattle.srl_decoder.proofs.Codes.{code_ready, code_zero, code_one, code_near, code_run}

-- ════ how many zeros code words 0 bring ════

-- c of them, from kp on
abbrev pub brought : ℕ → ℕ → ℕ
brought kp zero = 0
brought kp (suc c) = 2 ^ (kp / 8) + brought (kp + 4) c

-- `below` at the next multiple of 4
pub below_next : (x : ℕ) → below (x + 4) ≡ 2 ^ (x / 8) + below x
below_next x = by (x / 4 % 2) refl
  where
    by : (b : ℕ) → x / 4 % 2 ≡ b → below (x + 4) ≡ 2 ^ (x / 8) + below x
    by zero e =
        let f : (x + 4) / 4 % 2 ≡ 1 = omega arith in
        let g : (x + 4) / 8 ≡ x / 8 = omega arith in
        rw (e, f, g) (omega arith)
    by (suc b) e =
        let e' : x / 4 % 2 ≡ 1 = omega arith in
        let f : (x + 4) / 4 % 2 ≡ 0 = omega arith in
        let g : (x + 4) / 8 ≡ suc (x / 8) = omega arith in
        rw (e', f, g) (omega (arith, two-pow-succ (x / 8)))

-- `below` is at most 3,072 for a kp that a decoder can have
pub below_small : (x : ℕ) → x ≤ 80 → below x ≤ 3072
below_small x h = by (x / 4 % 2) refl
  where
    k : 2 ^ (x / 8) ≤ 1024
    k = pow_mono {i = x / 8} {j = 10} (omega arith)

    by : (b : ℕ) → x / 4 % 2 ≡ b → below x ≤ 3072
    by zero e = rw e (omega (arith, k))
    by (suc b) e = let e' : x / 4 % 2 ≡ 1 = omega arith in rw e' (omega (arith, k))

-- the zeros that c code words 0 bring, in closed form
pub brought_is : (c kp : ℕ) → brought kp c + below kp ≡ below (kp + 4 * c)
brought_is zero kp = let e : kp + 4 * 0 ≡ kp = omega arith in ap (λ (x : ℕ). 0 + below x) (sym e) ∙ omega arith
brought_is (suc c) kp =
    let e : kp + 4 + 4 * c ≡ kp + 4 * suc c = omega arith in
    omega (arith, below_next kp, brought_is c (kp + 4)) ∙ ap below e

-- ════ readers that give the same ════

module _ (s : List ℕ) where
  -- a reader gives the same values as itself
  pub same_refl : (k : ℕ) (r : Reader) → Same s k r r
  same_refl zero r = refl
  same_refl (suc k) r = λ w. (refl, same_refl k (next_reader s w r))

  -- readers that give the same values as a third give the same
  pub same_trans : (k : ℕ) (p q r : Reader) → Same s k p q → Same s k q r → Same s k p r
  same_trans zero p q r a b = a ∙ b
  same_trans (suc k) p q r a b = λ w. ((a w).0 ∙ (b w).0, same_trans k (next_reader s w p) (next_reader s w q) (next_reader s w r) (a w).1 (b w).1)

  -- alike once ready
  same_ready : (k : ℕ) (r q : Reader) → readied s r ≡ readied s q → Same s (suc k) r q
  same_ready k r q e =
      λ w. (ap (λ (p : Reader). value s w p.read p.run) e, subst (Same s k (next_reader s w r)) (ap (λ (p : Reader). past s w p.read p.kp p.run p.pending) e) (same_refl k (next_reader s w r)))

  -- a reader with nothing at hand gives what it gives behind its code word
  pub same_code : (left n kp : ℕ) → 1 ≤ left → Same s left (reader n kp 0 false) (code_word s n kp)
  same_code zero n kp h = absurd (omega arith)
  same_code (suc k) n kp h = same_ready k (reader n kp 0 false) (code_word s n kp) (sym (code_ready s n kp))

  -- a run, and what follows it
  same_run : (left m k z y a b c d : ℕ) → left ≡ m + k → y ≡ m + z → Same s k (reader a b 0 false) (reader c d z true) → Same s left (reader a b m false) (reader c d y true)
  same_run left zero k z y a b c d e f x =
      let e' : k ≡ left = omega arith in
      let f' : z ≡ y = omega arith in
      subst (λ (l : ℕ). Same s l (reader a b 0 false) (reader c d y true)) e' (subst (λ (u : ℕ). Same s k (reader a b 0 false) (reader c d u true)) f' x)
  same_run zero (suc m) k z y a b c d e f x = absurd (omega arith)
  same_run (suc left) (suc m) k z zero a b c d e f x = absurd (omega arith)
  same_run (suc left) (suc m) k z (suc y) a b c d e f x = λ w. (refl, same_run left m k z y a b c d (omega arith) (omega arith) x)

  first_of : (n c : ℕ) → zeros s n (suc c) ≡ suc c → (bit_at s n ≡ false) × (zeros s (n + 1) c ≡ c)
  unfolding zeros
  first_of n c e = by (bit_at s n) refl e
    where
      by : (b : Bool) → bit_at s n ≡ b → cond b 0 (suc (zeros s (suc n) c)) ≡ suc c → (bit_at s n ≡ false) × (zeros s (n + 1) c ≡ c)
      by true q f = absurd (omega arith)
      by false q f = (q, let m : n + 1 ≡ suc n = omega arith in ap (λ (i : ℕ). zeros s i c) m ∙ omega arith)

  -- c code words 0, and a code word 1
  pub same_chain : (c n kp left z : ℕ) → zeros s n c ≡ c → bit_at s (n + c) ≡ true → kp + 4 * c ≤ 80 → z ≡ brought kp c + num s (n + c + 1) ((kp + 4 * c) / 8) → z < left
      → Same s left (reader n kp 0 false) (reader (n + c + 1 + (kp + 4 * c) / 8) (kp + 4 * c - 6) z true)
  same_chain zero n kp left z e b h q l =
      let m : n + 0 ≡ n = omega arith in
      let k : kp + 4 * 0 ≡ kp = omega arith in
      let b' : bit_at s n ≡ true = ap (bit_at s) (sym m) ∙ b in
      let q' : num s (n + 1) (kp / 8) ≡ z = ap₂ (λ (i j : ℕ). num s (i + 1) (j / 8)) (sym m) (sym k) ∙ omega arith in
      subst (Same s left (reader n kp 0 false)) (code_one s n kp b' ∙ (λ i. reader (sym m i + 1 + sym k i / 8) (sym k i - 6) (q' i) true)) (same_code left n kp (omega arith))
  same_chain (suc c) n kp left z e b h q l =
      let f = first_of n c e in
      let m : n + 1 + c ≡ n + suc c = omega arith in
      let k : kp + 4 + 4 * c ≡ kp + 4 * suc c = omega arith in
      let t = 2 ^ (kp / 8) in
      let x : num s (n + 1 + c + 1) ((kp + 4 + 4 * c) / 8) ≡ num s (n + suc c + 1) ((kp + 4 * suc c) / 8) = ap₂ (λ (i j : ℕ). num s (i + 1) (j / 8)) m k in
      let low : min (kp + 4) 80 ≡ kp + 4 = omega arith in
      let step : code_word s n kp ≡ reader (n + 1) (kp + 4) t false = code_zero s n kp f.0 ∙ ap (λ (j : ℕ). reader (n + 1) j t false) low in
      let last = same_chain c (n + 1) (kp + 4) (left - t) (z - t) f.1 (ap (bit_at s) m ∙ b) (omega arith) (omega (arith, x)) (omega (arith, x)) in
      same_trans left (reader n kp 0 false) (code_word s n kp) (reader (n + suc c + 1 + (kp + 4 * suc c) / 8) (kp + 4 * suc c - 6) z true) (same_code left n kp (omega arith))
      (subst (λ (r : Reader). Same s left r (reader (n + suc c + 1 + (kp + 4 * suc c) / 8) (kp + 4 * suc c - 6) z true)) (sym step)
      (same_run left t (left - t) (z - t) z (n + 1) (kp + 4) (n + suc c + 1 + (kp + 4 * suc c) / 8) (kp + 4 * suc c - 6) (omega arith) (omega arith)
      (subst (Same s (left - t) (reader (n + 1) (kp + 4) 0 false)) (λ i. reader (m i + 1 + k i / 8) (k i - 6) (z - t) true) last)))

-- ════ one code word ════

code_left : (s : List ℕ) (n kp : ℕ) → (code_word s n kp).pending ≡ false → (1 ≤ (code_word s n kp).run) × ((code_word s n kp).read ≤ n + 1)
code_left s n kp = by (bit_at s n)
  where
    by : (b : Bool) → (cond b (reader (n + 1 + kp / 8) (kp - 6) (num s (n + 1) (kp / 8)) true) (reader (n + 1) (min (kp + 4) 80) (2 ^ (kp / 8)) false)).pending ≡ false
        → (1 ≤ (cond b (reader (n + 1 + kp / 8) (kp - 6) (num s (n + 1) (kp / 8)) true) (reader (n + 1) (min (kp + 4) 80) (2 ^ (kp / 8)) false)).run)
        × ((cond b (reader (n + 1 + kp / 8) (kp - 6) (num s (n + 1) (kp / 8)) true) (reader (n + 1) (min (kp + 4) 80) (2 ^ (kp / 8)) false)).read ≤ n + 1)
    by true e = absurd (true≢false e)
    by false e = (omega (arith, pow_pos (kp / 8)), omega arith)

-- one code word brings what code words may bring
pub one_code : (s : List ℕ) (n kp left : ℕ) (r : CodesRead) → kp ≤ 80 → 1 ≤ left → read_behind n r ≡ code_word s n kp → Brought s n kp false left r
one_code s n kp left r h l e =
    let near = code_near s n kp h in
    let read = ap (λ (q : Reader). q.read) e in
    let run = ap (λ (q : Reader). q.run) e in
    record {
      same = subst (Same s left (reader n kp 0 false)) (sym e) (same_code s left n kp l);
      kp_low = omega (arith, ap (λ (q : Reader). q.kp) e, near.kp_low);
      run_low = omega (arith, run, code_run s n kp h);
      near = omega (arith, read, near.read_near);
      moves = λ f. let m = code_left s n kp (sym (ap (λ (q : Reader). q.pending) e) ∙ f) in (omega (arith, run, m.0), omega (arith, read, m.1));
    }

-- ════ no value due ════

-- where no value is due among the first m places from j on, code words bring zeros: they end before a value, or it lies further on
pub zeros_brought : (s : List ℕ) (n kp : ℕ) (p : Bool) (left m j : ℕ) (r : CodesRead) → Brought s n kp p left r → j < m → (r.pending ≡ true → m ≤ j + r.run) → 1 ≤ r.run
zeros_brought s n kp p left m j r b h d = by r.pending refl
  where
    by : (t : Bool) → r.pending ≡ t → 1 ≤ r.run
    by true f = omega (arith, d f)
    by false f = (b.moves f).0
