-- Laws of the encoder's runs: what a run's bits are, and how a plan writes them. Assumes nothing.
use mathlib.Core.Path.{◌≡◌, refl, ap, sym, ◌∙◌}
use mathlib.Core.Bool.{Bool, true, false, cond}
use mathlib.Core.List.{List, [], ◌∷◌, ◌++◌, append_assoc}
use Prim.Native.Nat.{ℕ, zero, suc, ◌+◌, ◌-◌, ◌/◌, ◌^◌, ◌≤◌, ◌<◌, min}
use native.Mathlib.Nat.{one-mul, pow-suc, div-eq_of_lt}
use native.Mathlib.Numerals.{add-one}
use native.Mathlib.Omega.{arith}
use lib.Dec.{ltb}
use lib.ListN.{length, replicate, length-append, length-replicate, replicate-append-replicate}
use lib.Pow.{pow_pos}
use borrow.Author.Tests.{lt-ltb, le-ltb, ltb-false}
use Rattle.bits.specs.Written.{bits_of}
use Rattle.bits.proofs.Puts.{length_bits_of, bits_append, bits_join, bits_zero}
use Rattle.srl_encoder.specs.Encode.{run_bits, run_kp}
use Rattle.srl_encoder.specs.Finish.{flush}
use Rattle.srl_encoder.specs.Inner.{plan_bits, GoodPlan}
use Rattle.srl_encoder.specs.declared.encoder.RunPlan.{RunPlan}

-- the bound on the steps of a run does not matter once it is above the zeros
pub run_fuel : (f g kp z : ℕ) → z < f → z < g → (run_bits f kp z ≡ run_bits g kp z) × (run_kp f kp z ≡ run_kp g kp z)
run_fuel zero g kp z h k = absurd (omega arith)
run_fuel (suc f) zero kp z h k = absurd (omega arith)
run_fuel (suc f) (suc g) kp z h k = by (ltb z (2 ^ (kp / 8))) refl (run_fuel f g (min (kp + 4) 80) (z - 2 ^ (kp / 8)))
  where
    by : (b : Bool) → ltb z (2 ^ (kp / 8)) ≡ b
        → (z - 2 ^ (kp / 8) < f → z - 2 ^ (kp / 8) < g → (run_bits f (min (kp + 4) 80) (z - 2 ^ (kp / 8)) ≡ run_bits g (min (kp + 4) 80) (z - 2 ^ (kp / 8))) × (run_kp f (min (kp + 4) 80) (z - 2 ^ (kp / 8)) ≡ run_kp g (min (kp + 4) 80) (z - 2 ^ (kp / 8))))
        → (cond b (true ∷ bits_of (kp / 8) z) (false ∷ run_bits f (min (kp + 4) 80) (z - 2 ^ (kp / 8))) ≡ cond b (true ∷ bits_of (kp / 8) z) (false ∷ run_bits g (min (kp + 4) 80) (z - 2 ^ (kp / 8))))
        × (cond b (kp - 6) (run_kp f (min (kp + 4) 80) (z - 2 ^ (kp / 8))) ≡ cond b (kp - 6) (run_kp g (min (kp + 4) 80) (z - 2 ^ (kp / 8))))
    by true e ih = (refl, refl)
    by false e ih =
        let j : 2 ^ (kp / 8) ≤ z = ltb-false _ _ e in
        let o : 0 < 2 ^ (kp / 8) = pow_pos (kp / 8) in
        let r = ih (omega arith) (omega arith) in
        (ap (λ l. false ∷ l) r.0, r.1)

-- a run with a whole 2^k zeros in it, and one without
pub run_more : (kp z : ℕ) → 2 ^ (kp / 8) ≤ z
    → (run_bits (suc z) kp z ≡ false ∷ run_bits (suc (z - 2 ^ (kp / 8))) (min (kp + 4) 80) (z - 2 ^ (kp / 8)))
    × (run_kp (suc z) kp z ≡ run_kp (suc (z - 2 ^ (kp / 8))) (min (kp + 4) 80) (z - 2 ^ (kp / 8)))
run_more kp z h =
    let o : 0 < 2 ^ (kp / 8) = pow_pos (kp / 8) in
    let r = run_fuel z (suc (z - 2 ^ (kp / 8))) (min (kp + 4) 80) (z - 2 ^ (kp / 8)) (omega arith) (omega arith) in
    (simp (le-ltb _ _ h) (ap (λ l. false ∷ l) r.0), simp (le-ltb _ _ h) r.1)

-- a run that is shorter than a code word 0 stands for
pub run_last : (kp z : ℕ) → z < 2 ^ (kp / 8) → (run_bits (suc z) kp z ≡ true ∷ bits_of (kp / 8) z) × (run_kp (suc z) kp z ≡ kp - 6)
run_last kp z h = (simp (lt-ltb _ _ h), simp (lt-ltb _ _ h))

-- a run's bits are not many more than its zeros, and kp stays in its range
pub length_run : (f kp z : ℕ) → kp ≤ 80 → length (run_bits f kp z) ≤ z + 11
length_run zero kp z h = omega arith
length_run (suc f) kp z h = by (ltb z (2 ^ (kp / 8))) refl (length_run f (min (kp + 4) 80) (z - 2 ^ (kp / 8)) (omega arith))
  where
    by : (b : Bool) → ltb z (2 ^ (kp / 8)) ≡ b → length (run_bits f (min (kp + 4) 80) (z - 2 ^ (kp / 8))) ≤ z - 2 ^ (kp / 8) + 11
        → length (cond b (true ∷ bits_of (kp / 8) z) (false ∷ run_bits f (min (kp + 4) 80) (z - 2 ^ (kp / 8)))) ≤ z + 11
    by true e i = omega (arith, length_bits_of (kp / 8) z)
    by false e i =
        let j : 2 ^ (kp / 8) ≤ z = ltb-false _ _ e in omega (arith, pow_pos (kp / 8))

-- a run leaves kp at most 80
pub run_kp_le : (f kp z : ℕ) → kp ≤ 80 → run_kp f kp z ≤ 80
run_kp_le zero kp z h = h
run_kp_le (suc f) kp z h = by (ltb z (2 ^ (kp / 8))) (run_kp_le f (min (kp + 4) 80) (z - 2 ^ (kp / 8)) (omega arith))
  where
    by : (b : Bool) {n : ℕ} → n ≤ 80 → cond b (kp - 6) n ≤ 80
    by true i = omega arith
    by false i = i

-- ════ plans ════

-- one step more of a plan
pub plan_step : (n : ℕ) (bs : List Bool) → replicate n false ++ (false ∷ bs) ≡ replicate (n + 1) false ++ bs
plan_step n bs = sym (append_assoc (replicate n false) (false ∷ []) bs) ∙ ap (λ l. l ++ bs) (replicate-append-replicate n 1 false)

-- how many bits a planned run has
pub length_plan : (r : RunPlan) → length (plan_bits r) ≡ r.steps + 1 + r.kp / 8
length_plan r = length-append (replicate r.steps false) (true ∷ bits_of (r.kp / 8) r.rest) ∙ omega (arith, length-replicate r.steps false, length_bits_of (r.kp / 8) r.rest)

-- the bit 1 and the rest as one number, and the zeros before it too
pub plan_end : (k rest : ℕ) → rest < 2 ^ k → bits_of (k + 1) (2 ^ k + rest) ≡ true ∷ bits_of k rest
plan_end k rest h =
    let e : k + 1 ≡ 1 + k = omega arith in
    ap (λ n. bits_of n (2 ^ k + rest)) e ∙ ap (λ x. bits_of (1 + k) (x + rest)) (sym (one-mul (2 ^ k))) ∙ bits_join 1 k 1 rest h

-- the number of the bit 1 and the rest has k + 1 bits
pub plan_small : (r : RunPlan) → GoodPlan r → 2 ^ (r.kp / 8) + r.rest < 2 ^ (r.kp / 8 + 1)
plan_small r h = rw (add-one (r.kp / 8), pow-suc 2 (r.kp / 8)) (omega (arith, h.1))

-- the zeros, the bit 1 and the rest of a plan are the bits of one number
pub plan_word : (r : RunPlan) → GoodPlan r → bits_of (r.steps + (r.kp / 8 + 1)) (2 ^ (r.kp / 8) + r.rest) ≡ plan_bits r
plan_word r h =
    let k = r.kp / 8 in
    let word = 2 ^ k + r.rest in
    bits_append r.steps (k + 1) word
    ∙ ap (λ x. bits_of r.steps x ++ bits_of (k + 1) word) (div-eq_of_lt (plan_small r h))
    ∙ ap (λ l. l ++ bits_of (k + 1) word) (bits_zero r.steps)
    ∙ ap (λ l. replicate r.steps false ++ l) (plan_end k r.rest h.1)

-- ════ the end of a stream ════

-- pending zeros are written as a run
pub flush_some : (kp z : ℕ) → (z ≡ 0 → ⊥) → flush kp z ≡ run_bits (suc z) kp z
flush_some kp zero h = absurd (h refl)
flush_some kp (suc z) h = refl

-- pending zeros take at most 11 bits more than they are
pub length_flush : (kp z : ℕ) → kp ≤ 80 → length (flush kp z) ≤ z + 11
length_flush kp zero h = omega arith
length_flush kp (suc z) h = length_run (suc (suc z)) kp (suc z) h
