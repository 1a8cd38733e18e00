-- Laws of what a place gives by either rule: a value by its magnitude and its side, values that are 0, numbers that are not below 0. Assumes nothing.
use mathlib.Core.Path.{◌≡◌, refl, ap, sym, ◌∙◌}
use mathlib.Core.Bool.{Bool, true, false, true≢false}
use Prim.Native.Nat.{ℕ, zero, suc}
use native.Mathlib.Omega.{arith}
use borrow.Author.Tests.{eqb-true, eqb-false}
use lib.Dec.{eqb}
use lib.IntN.{ℤ, pos, negsuc, nat_abs, ◌+ℤ◌, ◌-ℤ◌, +ℤ_idl, +ℤ_invr, -ℤ-+ℤ_cancel}
use Rattle.fixed.specs.Fixed.{clamp_i16, floor_shift, is_zero, with_sign}
use Rattle.fixed.proofs.Sign.{abs_minus}
use Rattle.progressive_encoder.specs.Encode.{srl_difference}

-- ════ a magnitude with a sign ════

-- its magnitude
pub abs_signed : (b : Bool) (n : ℕ) → nat_abs (with_sign b n) ≡ n
abs_signed true n = abs_minus n
abs_signed false n = refl

-- ════ values that are 0 ════

-- by the magnitude
pub abs_none : (v : ℤ) → nat_abs v ≡ 0 → is_zero v ≡ true
unfolding is_zero
abs_none (pos zero) e = refl
abs_none (pos (suc n)) e = absurd (omega (arith, e))
abs_none (negsuc n) e = absurd (omega (arith, e))

pub abs_some : (v : ℤ) → (nat_abs v ≡ 0 → ⊥) → is_zero v ≡ false
unfolding is_zero
abs_some (pos zero) h = absurd (h refl)
abs_some (pos (suc n)) h = refl
abs_some (negsuc n) h = refl

-- by a test of it
pub by_magnitude : (v : ℤ) (n : ℕ) → n ≡ nat_abs v → (b : Bool) → eqb n 0 ≡ b → b ≡ is_zero v
by_magnitude v n e true h = sym (abs_none v (sym e ∙ eqb-true n 0 h))
by_magnitude v n e false h = sym (abs_some v (λ z. eqb-false n 0 h (e ∙ z)))

-- and back: what is not 0 has a magnitude
pub some_abs : (v : ℤ) → is_zero v ≡ false → nat_abs v ≡ 0 → ⊥
unfolding is_zero
some_abs (pos zero) e h = true≢false e
some_abs (pos (suc n)) e h = omega (arith, h)
some_abs (negsuc n) e h = omega (arith, h)

-- the clamp leaves 0, and makes nothing else 0
clamp_zero : (z : ℤ) → nat_abs (clamp_i16 z) ≡ 0 → z ≡ pos 0
unfolding clamp_i16
clamp_zero (pos zero) e = refl
clamp_zero (pos (suc n)) e = absurd (omega (arith, e))
clamp_zero (negsuc n) e = absurd (omega (arith, e))

-- coefficients with the same floor have no difference
pub same_floor : (q : ℕ) (c p : ℤ) → floor_shift c q ≡ floor_shift p q → is_zero (srl_difference q c p) ≡ true
unfolding clamp_i16 is_zero
same_floor q c p e = ap (λ (z : ℤ). is_zero (clamp_i16 (z -ℤ floor_shift p q))) e ∙ ap (λ (z : ℤ). is_zero (clamp_i16 z)) (+ℤ_invr (floor_shift p q))

-- and others have one
pub other_floor : (q : ℕ) (c p : ℤ) → (floor_shift c q ≡ floor_shift p q → ⊥) → is_zero (srl_difference q c p) ≡ false
other_floor q c p h =
    let a = floor_shift c q in
    let b = floor_shift p q in
    abs_some (srl_difference q c p) (λ e. h (sym (-ℤ-+ℤ_cancel a b) ∙ ap (λ (z : ℤ). z +ℤ b) (clamp_zero (a -ℤ b) e) ∙ +ℤ_idl b))
