-- Where no nonzero value is due the width does not matter; and past the end every value is 0.
use mathlib.Core.Path.{◌≡◌, refl, sym, ap, ◌∙◌}
use mathlib.Core.Bool.{true, false, cond, true≢false}
use mathlib.Core.List.{List, [], ◌∷◌}
use Prim.Native.Nat.{ℕ, zero, suc, ◌+◌, ◌-◌, ◌*◌, ◌/◌, ◌^◌, ◌≤◌, min}
use native.Mathlib.Omega.{arith}
use lib.IntN.{ℤ, pos}
use lib.ListN.{length, replicate}
use lib.Pow.{suc_ones}
use Rattle.bits.proofs.Numbers.{bit_past}
use Rattle.srl_decoder.specs.Srl.{Reader, reader, value, past, readied, values, reader_after}
use Rattle.srl_decoder.specs.Decode.{due, due_among}
use Rattle.srl_decoder.proofs.Codes.{code_zero}

-- the values from a ready reader
abbrev pub from : List ℕ → ℕ → List ℕ → Reader → List ℤ
from s w ws r = value s w r.read r.run ∷ values s ws (past s w r.read r.kp r.run r.pending)

-- the reader after them
abbrev pub after_from : List ℕ → ℕ → List ℕ → Reader → Reader
after_from s w ws r = reader_after s ws (past s w r.read r.kp r.run r.pending)

-- ---- where no nonzero value is due the width does not matter

-- where no nonzero value is due, the values and the reader after them are the same at every width
pub width_free : (s : List ℕ) (v w : ℕ) (r : Reader) (n : ℕ) → due_among s r n ≡ false
    → (values s (replicate n v) r ≡ values s (replicate n w) r) × (reader_after s (replicate n v) r ≡ reader_after s (replicate n w) r)
unfolding values reader_after
width_free s v w r zero h = (refl, refl)
width_free s v w r (suc n) h = by (readied s r).run h (λ t k. width_free s v w t n k)
  where
    q : Reader
    q = readied s r

    by : (run : ℕ) → cond (due run) true (due_among s (past s 0 q.read q.kp run q.pending) n) ≡ false
        → ((t : Reader) → due_among s t n ≡ false → (values s (replicate n v) t ≡ values s (replicate n w) t) × (reader_after s (replicate n v) t ≡ reader_after s (replicate n w) t))
        → (◌≡◌ {A = List ℤ} (value s v q.read run ∷ values s (replicate n v) (past s v q.read q.kp run q.pending)) (value s w q.read run ∷ values s (replicate n w) (past s w q.read q.kp run q.pending)))
        × (reader_after s (replicate n v) (past s v q.read q.kp run q.pending) ≡ reader_after s (replicate n w) (past s w q.read q.kp run q.pending))
    by zero k ih = absurd (true≢false k)
    by (suc z) k ih = let i = ih (reader q.read q.kp z q.pending) k in (ap (λ (l : List ℤ). pos 0 ∷ l) i.0, i.1)

-- ---- past the end every value is 0, unless a nonzero one was pending

-- past the end of the stream every value is 0
pub values_past : (s : List ℕ) (p kp run : ℕ) (ws : List ℕ) → 8 * length s ≤ p → values s ws (reader p kp run false) ≡ replicate (length ws) (pos 0)
unfolding values
values_past s p kp run [] h = refl
values_past s p kp (suc run) (w ∷ ws) h = ap (λ (l : List ℤ). pos 0 ∷ l) (values_past s p kp run ws h)
values_past s p kp zero (w ∷ ws) h =
    ap (from s w ws) (code_zero s p kp (bit_past s p h))
    ∙ ap (λ (z : ℕ). from s w ws (reader (p + 1) (min (kp + 4) 80) z false)) (sym (suc_ones (kp / 8)))
    ∙ ap (λ (l : List ℤ). pos 0 ∷ l) (values_past s (p + 1) (min (kp + 4) 80) (2 ^ (kp / 8) - 1) ws (omega arith))
