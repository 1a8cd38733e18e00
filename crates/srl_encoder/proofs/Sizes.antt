-- How large the values of a call are, and how many bits they take at most: for each value 2^w + 11, and a bit for each zero that was pending.
use mathlib.Core.Path.{◌≡◌, refl, sym, ap, ◌∙◌}
use mathlib.Core.Bool.{Bool, true, false}
use mathlib.Core.List.{List, [], ◌∷◌, ◌++◌}
use Prim.Native.Nat.{ℕ, zero, suc, ◌+◌, ◌-◌, ◌*◌, ◌^◌, ◌≤◌, ◌<◌}
use native.Mathlib.Nat.{mul-le-mul_left}
use native.Mathlib.Omega.{arith}
use borrow.Author.Tests.{lt-ltb}
use lib.Dec.{ltb}
use lib.IntN.{ℤ, pos, negsuc, nat_abs}
use lib.ListN.{length, get_or, length-append}
use Rattle.srl_rules.specs.Inner.{Width}
use Rattle.srl_encoder.specs.Encode.{nonzero_bits, run_bits, value_bits, value_kp, value_zeros, call_bits, call_bytes, value_fault, fault}
use Rattle.std.specs.Prelude.{Option, None, Some, MatchOption}
use Rattle.std.specs.Option.{unwrap_or}
use Rattle.std.proofs.lemmas.List.Recursion.{max_bounds, max_least}
use Rattle.answer.specs.declared.Refusal.{Refusal}
use Rattle.answer.specs.declared.Refusal.TheVariants.{MagnitudeOutOfRange, ZeroRunTooLong}
use Rattle.answer.specs.Answers.{unless, first_of}
use Rattle.answer.proofs.Refusing.{first_none, passes}
use Rattle.srl_encoder.specs.Inner.{largest, GoodWriter}
use Rattle.srl_encoder.specs.declared.SrlWriter.{SrlWriter}
use Rattle.srl_encoder.proofs.EncodedCalls.{call_count_lem}
use Rattle.srl_encoder.proofs.EncodedValues.{value_kp_lem}
use Rattle.srl_encoder.proofs.Nonzeros.{nonzero_le}
use Rattle.srl_encoder.proofs.Runs.{length_run}
use Rattle.srl_rules.proofs.Widths.{pow_high}

-- a value takes at most its magnitude and 12 bits, and a bit for each zero that was pending, whatever its width
nonzero_length_lem : (w kp z m : ℕ) (b : Bool) → kp ≤ 80 → length (run_bits (suc z) kp z ++ nonzero_bits w b m) ≤ z + m + 13
nonzero_length_lem w kp z m b h =
    let n : m + 1 - 1 ≡ m = omega arith in
    omega (arith, length-append (run_bits (suc z) kp z) (nonzero_bits w b m), length_run (suc z) kp z h, rw n at (nonzero_le w (m + 1) b (omega arith)))

-- the bits that a value writes, with the zeros that it leaves pending
pub value_length : (w kp z : ℕ) (v : ℤ) → kp ≤ 80 → length (value_bits w kp z v) + value_zeros z v ≤ z + nat_abs v + 12
value_length w kp z (pos zero) h = omega arith
value_length w kp z (pos (suc m)) h = omega (arith, nonzero_length_lem w kp z m false h)
value_length w kp z (negsuc m) h = omega (arith, nonzero_length_lem w kp z m true h)

-- at a width that admits it
value_small : (w kp z : ℕ) (v : ℤ) → kp ≤ 80 → value_fault w z v ≡ None → length (value_bits w kp z v) + value_zeros z v ≤ z + (2 ^ w + 11)
value_small w kp z (pos zero) h e = omega arith
value_small w kp z (pos (suc m)) h e = omega (arith, value_length w kp z (pos (suc m)) h, passes m (2 ^ w - 1) MagnitudeOutOfRange e)
value_small w kp z (negsuc m) h e = omega (arith, value_length w kp z (negsuc m) h, passes m (2 ^ w - 1) MagnitudeOutOfRange e)

call_small : (w kp z : ℕ) (vs : List ℤ) → kp ≤ 80 → fault w z vs ≡ None → length (call_bits w kp z vs) ≤ z + length vs * (2 ^ w + 11)
call_small w kp z [] h e = omega arith
call_small w kp z (v ∷ vs) h e =
    let f = first_none (value_fault w z v) (fault w (value_zeros z v) vs) e in
    omega (
      arith,
      length-append (value_bits w kp z v) (call_bits w (value_kp kp z v) (value_zeros z v) vs),
      value_small w kp z v h f.0,
      call_small w (value_kp kp z v) (value_zeros z v) vs (value_kp_lem kp z v h) f.1,
    )

-- where the room is more than that, the bytes fit
pub surely : (w : ℕ) (st : SrlWriter) (vs : List ℤ) (room : ℕ) → GoodWriter st → fault w st.pending_zeros vs ≡ None
    → length vs * (2 ^ w + 11) + 4112 ≤ 8 * room → length (call_bytes w st vs) ≤ room
surely w st vs room g e h =
    omega (arith, sym (call_count_lem w st vs g.0.0), call_small w st.kp st.pending_zeros vs g.1 e, g.0.0, g.2)

-- fewer than 2^40 values at any width are far from what a count can hold
pub most_fits : (n w : ℕ) → Width w → n < 2 ^ 40 → n * (2 ^ w + 11) < 2 ^ 60
most_fits n w h l =
    let p : 2 ^ w + 11 ≤ 65536 = omega (arith, pow_high w h) in
    omega (arith, mul-le-mul_left n p)

-- ════ the largest magnitude ════

-- m is the largest magnitude of some values
abbrev pub IsLargest : List ℤ → ℕ → Type 0
IsLargest vs m = ((k : ℕ) × (k < length vs) × (nat_abs (get_or vs k (pos 0)) ≡ m)) × ((k : ℕ) → k < length vs → nat_abs (get_or vs k (pos 0)) ≤ m)

pub largest_lem : (vs : List ℤ) (o : Option ℕ) → MatchOption o (length vs ≡ 0) (IsLargest vs) → unwrap_or o 0 ≡ largest vs
largest_lem [] None e = refl
largest_lem (v ∷ vs) None e = absurd (omega arith)
largest_lem vs (Some m) ((k, l, e), b) =
    omega (arith, e, max_bounds largest nat_abs refl (λ x xs. refl) vs k (pos 0) l, max_least largest nat_abs refl (λ x xs. refl) vs (pos 0) m b)

-- ════ values that none is refused of ════

small_nonzero : (w m : ℕ) → m < 2 ^ w - 1 → unless (ltb m (2 ^ w - 1)) MagnitudeOutOfRange ≡ None
small_nonzero w m h = simp (lt-ltb m (2 ^ w - 1) h)

-- too few for a run that is too long, and none too large
pub no_fault : (w z : ℕ) (vs : List ℤ) → z + length vs ≤ 4096 → largest vs ≤ 2 ^ w - 1 → fault w z vs ≡ None
no_fault w z [] h l = refl
no_fault w z (pos zero ∷ vs) h l =
    ap (λ (f : Option Refusal). first_of f (fault w (z + 1) vs)) {x = unless (ltb z 4096) ZeroRunTooLong} {y = None} (simp (lt-ltb z 4096 (omega arith))) ∙ no_fault w (z + 1) vs (omega arith) (omega arith)
no_fault w z (pos (suc m) ∷ vs) h l = ap (λ (f : Option Refusal). first_of f (fault w 0 vs)) (small_nonzero w m (omega arith)) ∙ no_fault w 0 vs (omega arith) (omega arith)
no_fault w z (negsuc m ∷ vs) h l = ap (λ (f : Option Refusal). first_of f (fault w 0 vs)) (small_nonzero w m (omega arith)) ∙ no_fault w 0 vs (omega arith) (omega arith)
