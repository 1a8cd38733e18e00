-- Bounds as the machine's arithmetic asks them, from the outside of an expression inwards: `Under N z` is -N ≤ z < N.
-- A sum is under N where both summands are under N / 2, a product by k where the other factor is under (N - 1) / k; at literals all of that computes.
-- The bounds are generous: where 32 bits leave little room, prove the bound by hand (`Scaled.antt`), or compute in 64.
-- Assumes nothing.
use Prim.Native.Nat.{ℕ, ◌-◌, ◌/◌, ◌<◌}
use native.Mathlib.Nat.{lt_of_lt_of_le, lt_of_le_of_lt}
use lib.Dec.{T, ltb, leb, ltb→lt, leb→le}
use lib.IntN.{ℤ, pos, negsuc, ◌+ℤ◌, ◌-ℤ◌, ◌*ℤ◌, *ℤ_comm}
use lib.Signed.{mag, quot_z, shr_z, mag_shr}
use Rattle.fixed.proofs.Sizes.{add_mag, sub_mag, times_mag, quot_mag}

-- -N ≤ z < N
pub record Under (N : ℕ) (z : ℤ) : Type 0 where
  pub under : mag z < N

-- what is under a bound is under a larger one
pub under_more : {M N : ℕ} {z : ℤ} → Under M z → T (leb M N) → Under N z
under_more {M} {N} u t = record { under = lt_of_lt_of_le u.under (leb→le M N t) }

-- a literal that is not negative
pub under_pos : {N : ℕ} (k : ℕ) → T (ltb k N) → Under N (pos k)
under_pos {N} k t = record { under = ltb→lt k N t }

-- a negative literal
pub under_neg : {N : ℕ} (k : ℕ) → T (ltb k N) → Under N (negsuc k)
under_neg {N} k t = record { under = ltb→lt k N t }

-- a sum
pub under_add : {N : ℕ} {x y : ℤ} → Under (N / 2) x → Under (N / 2) y → Under N (x +ℤ y)
under_add {N} {x} {y} p q = record { under = add_mag x y N p.under q.under }

-- a difference
pub under_sub : {N : ℕ} {x y : ℤ} → Under (N / 2) x → Under (N / 2) y → Under N (x -ℤ y)
under_sub {N} {x} {y} p q = record { under = sub_mag x y N p.under q.under }

-- by a literal, on either side
pub under_times : {N : ℕ} {x : ℤ} (k : ℕ) → Under ((N - 1) / k) x → Under N (x *ℤ pos k)
under_times {N} {x} k p = record { under = times_mag x k N p.under }

-- the literal on the left
pub under_lit_times : {N : ℕ} {x : ℤ} (k : ℕ) → Under ((N - 1) / k) x → Under N (pos k *ℤ x)
under_lit_times k p = rw *ℤ_comm (under_times k p)

-- a quotient, rounded towards zero
pub under_quot : {N : ℕ} {x : ℤ} (k : ℕ) → Under N x → Under N (quot_z x (pos k))
under_quot {N} {x} k p = record { under = lt_of_le_of_lt (quot_mag x k) p.under }

-- a shift right
pub under_shr : {N : ℕ} {x : ℤ} (m : ℕ) → Under N x → Under N (shr_z x m)
under_shr {N} {x} m p = record { under = lt_of_le_of_lt (mag_shr x m) p.under }
