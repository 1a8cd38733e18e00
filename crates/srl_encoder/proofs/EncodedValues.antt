-- Laws of a value that the encoder is given: its bits, what it leaves, its refusal. Assumes nothing.
use mathlib.Core.Path.{◌≡◌, refl, ap, sym, ◌∙◌}
use mathlib.Core.Bool.{true, false}
use mathlib.Core.List.{◌++◌}
use Prim.Native.Nat.{ℕ, zero, suc, ◌+◌, ◌-◌, ◌^◌, ◌≤◌, ◌<◌}
use native.Mathlib.Omega.{arith}
use lib.Dec.{ltb}
use lib.IntN.{ℤ, pos, negsuc, nat_abs}
use lib.ListN.{length, length-append}
use borrow.Author.Tests.{lt-ltb, le-ltb}
use Rattle.bits.specs.Inner.{counted}
use Rattle.fixed.specs.Fixed.{is_negative}
use Rattle.srl_encoder.specs.Encode.{run_bits, run_kp, nonzero_bits, value_bits, value_kp, value_zeros, value_fault}
use Rattle.srl_encoder.specs.Inner.{value_measure}
use Rattle.srl_encoder.specs.declared.encoder.Measured.{Measured}
use Rattle.std.specs.Prelude.{None}
use Rattle.answer.specs.declared.Refusal.TheVariants.{MagnitudeOutOfRange, ZeroRunTooLong}
use Rattle.answer.specs.Answers.{unless}
use Rattle.srl_encoder.proofs.Runs.{run_kp_le}

-- a value of magnitude 0 is 0
pub zero_value : (v : ℤ) → nat_abs v ≡ 0 → v ≡ pos 0
zero_value (pos n) e = ap pos e
zero_value (negsuc n) e = absurd (omega arith)

-- a value that is not 0 writes the pending run and itself, and leaves no zeros
pub nonzero_value : (v : ℤ) (w kp z m : ℕ) → m ≡ nat_abs v → (m ≡ 0 → ⊥)
    → (value_bits w kp z v ≡ run_bits (suc z) kp z ++ nonzero_bits w (is_negative v) (m - 1)) × (value_kp kp z v ≡ run_kp (suc z) kp z) × (value_zeros z v ≡ 0)
nonzero_value (pos zero) w kp z m e n = absurd (n e)
nonzero_value (pos (suc j)) w kp z m e n =
    let q : j ≡ m - 1 = omega arith in (
      ap (λ b. run_bits (suc z) kp z ++ nonzero_bits w b j) (sym (le-ltb (suc j) 0 (omega arith)))
          ∙ ap (λ x. run_bits (suc z) kp z ++ nonzero_bits w (ltb (suc j) 0) x) q,
      refl,
      refl,
    )
nonzero_value (negsuc j) w kp z m e n =
    let q : j ≡ m - 1 = omega arith in (ap (λ x. run_bits (suc z) kp z ++ nonzero_bits w true x) q, refl, refl)

-- a value leaves kp at most 80
pub value_kp_lem : (kp z : ℕ) (v : ℤ) → kp ≤ 80 → value_kp kp z v ≤ 80
value_kp_lem kp z (pos zero) h = h
value_kp_lem kp z (pos (suc m)) h = run_kp_le (suc z) kp z h
value_kp_lem kp z (negsuc m) h = run_kp_le (suc z) kp z h

-- a value adds at most one pending zero
pub value_zeros_lem : (z : ℕ) (v : ℤ) → value_zeros z v ≤ z + 1
value_zeros_lem z (pos zero) = omega arith
value_zeros_lem z (pos (suc m)) = omega arith
value_zeros_lem z (negsuc m) = omega arith

-- the refusal that a nonzero value causes, by its magnitude
pub fault_nonzero : (v : ℤ) (w z m : ℕ) → m ≡ nat_abs v → (m ≡ 0 → ⊥) → value_fault w z v ≡ unless (ltb (m - 1) (2 ^ w - 1)) MagnitudeOutOfRange
fault_nonzero (pos zero) w z m e n = absurd (n e)
fault_nonzero (pos (suc j)) w z m e n = let q : j ≡ m - 1 = omega arith in ap (λ x. unless (ltb x (2 ^ w - 1)) MagnitudeOutOfRange) q
fault_nonzero (negsuc j) w z m e n = let q : j ≡ m - 1 = omega arith in ap (λ x. unless (ltb x (2 ^ w - 1)) MagnitudeOutOfRange) q

-- a magnitude that its width admits, and not too many zeros, cause no refusal
pub fault_none : (v : ℤ) (w z m : ℕ) → m ≡ nat_abs v → m ≤ 2 ^ w - 1 → (m ≡ 0 → z < 4096) → value_fault w z v ≡ None
fault_none (pos zero) w z m e l h = ap (λ b. unless b ZeroRunTooLong) (lt-ltb z 4096 (h e))
fault_none (pos (suc j)) w z m e l h = ap (λ b. unless b MagnitudeOutOfRange) (lt-ltb j (2 ^ w - 1) (omega arith))
fault_none (negsuc j) w z m e l h = ap (λ b. unless b MagnitudeOutOfRange) (lt-ltb j (2 ^ w - 1) (omega arith))

-- ════ by its magnitude ════

-- what a value leaves and its refusal do not depend on its sign
pub unsigned : (w z : ℕ) (v : ℤ) → (value_fault w z v ≡ value_fault w z (pos (nat_abs v))) × (value_zeros z v ≡ value_zeros z (pos (nat_abs v)))
unsigned w z (pos m) = (refl, refl)
unsigned w z (negsuc m) = (refl, refl)

-- nor do its length and kp
unsigned_bits : (w kp z : ℕ) (v : ℤ) → (length (value_bits w kp z v) ≡ length (value_bits w kp z (pos (nat_abs v)))) × (value_kp kp z v ≡ value_kp kp z (pos (nat_abs v)))
unsigned_bits w kp z (pos m) = (refl, refl)
unsigned_bits w kp z (negsuc m) =
    let run = run_bits (suc z) kp z in
    (length-append run (nonzero_bits w true m) ∙ sym (length-append run (nonzero_bits w false m)), refl)

-- so it is measured by its magnitude
pub measure_unsigned : (w : ℕ) (p : Measured) (v : ℤ) → value_measure w p v ≡ value_measure w p (pos (nat_abs v))
measure_unsigned w p v =
    let b = unsigned_bits w p.kp p.zeros v in
    λ i. record { place = counted p.place (b.0 i); kp = b.1 i; zeros = (unsigned w p.zeros v).1 i }
