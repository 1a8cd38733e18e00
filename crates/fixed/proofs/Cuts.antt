-- Cutting at a position: what is left of a whole number and what is taken off it; then a coefficient, in both roundings. Assumes nothing.
use mathlib.Core.Path.{◌≡◌, refl, sym, ap, ◌∙◌}
use mathlib.Core.Bool.{Bool}
use Prim.Native.Nat.{ℕ, zero, suc, ◌+◌, ◌-◌, ◌*◌, ◌/◌, ◌%◌, ◌^◌, ◌≤◌, ◌<◌}
use native.Mathlib.Nat.{div-add-mod', mod-lt, mul_assoc, mul_comm, add-mul, suc-mul, mul-add-div_right}
use native.Mathlib.Omega.{arith}
use borrow.Author.Tests.{le-ltb}
use lib.IntN.{ℤ, pos, negsuc, neg_ℤ, nat_abs, ◌+ℤ◌, -ℤ-+ℤ_cancel, neg_ℤ-+ℤ}
use lib.Pow.{pow_pos, pow-add, shr-shr, shl-shr}
use lib.Signed.{mag}
use Rattle.fixed.specs.Fixed.{clamp_i16, is_negative, with_sign}
use Rattle.fixed.specs.Cut.{cut_level, toward_zero, downward}
use Rattle.fixed.proofs.Clamp.{clamp_same}
use Rattle.fixed.proofs.Sign.{abs_minus}

-- ════ a whole number ════

-- a number is its cut and the rest of its division by 2^q
pub cut_rest : (q n : ℕ) → n ≡ cut_level q n + n % 2 ^ q
cut_rest q n = sym (div-add-mod' n (2 ^ q))

-- which is less than 2^q
pub rest_small : (q n : ℕ) → n % 2 ^ q < 2 ^ q
rest_small q n = mod-lt n (pow_pos q)

-- so its cut is the number without that rest
pub cut_less : (q n : ℕ) → cut_level q n ≡ n - n % 2 ^ q
cut_less q n = omega (arith, cut_rest q n)

-- a cut makes no number larger
pub cut_below : (q n : ℕ) → cut_level q n ≤ n
cut_below q n = omega (arith, cut_rest q n)

-- 0 stays
pub cut_zero : (q : ℕ) → cut_level q 0 ≡ 0
cut_zero q = omega (arith, cut_below q 0)

-- ════ a whole number, cut at 2^(q + w) and at 2^q ════

-- the higher cut is one at 2^w, in steps of 2^q
pub cut_split : (q w n : ℕ) → cut_level (q + w) n ≡ cut_level w (n / 2 ^ q) * 2 ^ q
cut_split q w n =
    let k = n / 2 ^ (q + w) in
    ap (λ (m : ℕ). k * m) (pow-add 2 q w ∙ mul_comm (2 ^ q) (2 ^ w))
    ∙ sym (mul_assoc k (2 ^ w) (2 ^ q))
    ∙ ap (λ (m : ℕ). m * 2 ^ w * 2 ^ q) (sym (shr-shr n q w))

-- so many of them
pub cut_steps : (q w n : ℕ) → cut_level (q + w) n / 2 ^ q ≡ cut_level w (n / 2 ^ q)
cut_steps q w n = ap (λ (m : ℕ). m / 2 ^ q) (cut_split q w n) ∙ shl-shr (cut_level w (n / 2 ^ q)) q

-- with nothing left to cut at 2^q
pub cut_clean : (q w n : ℕ) → cut_level q (cut_level (q + w) n) ≡ cut_level (q + w) n
cut_clean q w n = ap (λ (m : ℕ). m * 2 ^ q) (cut_steps q w n) ∙ sym (cut_split q w n)

-- the number's steps are those of the higher cut and those of its rest
pub steps_rest : (q w n : ℕ) → n / 2 ^ q ≡ cut_level w (n / 2 ^ q) + n % 2 ^ (q + w) / 2 ^ q
steps_rest q w n =
    let whole : n ≡ cut_level w (n / 2 ^ q) * 2 ^ q + n % 2 ^ (q + w) = cut_rest (q + w) n ∙ ap (λ (m : ℕ). m + n % 2 ^ (q + w)) (cut_split q w n) in
    ap (λ (m : ℕ). m / 2 ^ q) whole ∙ mul-add-div_right (pow_pos q) (cut_level w (n / 2 ^ q)) (n % 2 ^ (q + w))

-- so the lower cut has these more
pub cut_gain : (q w n : ℕ) → cut_level q n ≡ cut_level (q + w) n + n % 2 ^ (q + w) / 2 ^ q * 2 ^ q
cut_gain q w n =
    let k = n % 2 ^ (q + w) / 2 ^ q in
    ap (λ (m : ℕ). m * 2 ^ q) (steps_rest q w n)
    ∙ add-mul (cut_level w (n / 2 ^ q)) k (2 ^ q)
    ∙ ap (λ (m : ℕ). m + k * 2 ^ q) (sym (cut_split q w n))

-- fewer than 2^w
pub gain_small : (q w n : ℕ) → n % 2 ^ (q + w) / 2 ^ q < 2 ^ w
gain_small q w n = omega (arith, steps_rest q w n, cut_rest w (n / 2 ^ q), rest_small w (n / 2 ^ q))

-- and the rest of the lower cut is no greater
pub rest_falls : (q w n : ℕ) → n % 2 ^ q ≤ n % 2 ^ (q + w)
rest_falls q w n = omega (arith, cut_rest q n, cut_rest (q + w) n, cut_gain q w n)

-- ════ a coefficient ════

-- towards zero, of a number that is not negative
pub toward_pos : (q n : ℕ) → toward_zero q (pos n) ≡ pos (cut_level q n)
toward_pos q n = ap (λ (b : Bool). with_sign b (cut_level q n)) (le-ltb n 0 (omega arith))

-- and of the negative of one
pub toward_neg : (q n : ℕ) → toward_zero q (neg_ℤ (pos n)) ≡ neg_ℤ (pos (cut_level q n))
toward_neg q zero = ap pos (cut_zero q) ∙ sym (ap (λ (n : ℕ). neg_ℤ (pos n)) (cut_zero q))
toward_neg q (suc n) = refl

-- the magnitude is cut
pub abs_toward : (q : ℕ) (c : ℤ) → nat_abs (toward_zero q c) ≡ cut_level q (nat_abs c)
abs_toward q (pos n) = ap nat_abs (toward_pos q n)
abs_toward q (negsuc n) = abs_minus (cut_level q (suc n))

-- a negative number and what it is less by
neg_add : (m k : ℕ) → neg_ℤ (pos (m + k)) +ℤ pos k ≡ neg_ℤ (pos m)
neg_add m k = ap (λ (z : ℤ). z +ℤ pos k) (neg_ℤ-+ℤ (pos m) (pos k)) ∙ -ℤ-+ℤ_cancel (neg_ℤ (pos m)) (pos k)

-- rounded down, a number lies less than 2^q above its cut
pub record Above (q : ℕ) (c : ℤ) : Type 0 where
  pub rest : ℕ
  pub less : rest < 2 ^ q
  pub is : c ≡ downward q c +ℤ pos rest

pub down_rest : (q : ℕ) (c : ℤ) → Above q c
down_rest q (pos n) = record { rest = n % 2 ^ q; less = rest_small q n; is = ap pos (cut_rest q n) }
down_rest q (negsuc n) =
    let r = 2 ^ q - 1 - n % 2 ^ q in
    let e : suc (n / 2 ^ q) * 2 ^ q ≡ suc n + r = omega (arith, suc-mul (n / 2 ^ q) (2 ^ q), cut_rest q n, rest_small q n) in
    record {
      rest = r;
      less = omega (arith, pow_pos q);
      is = sym (ap (λ (m : ℕ). neg_ℤ (pos m) +ℤ pos r) e ∙ neg_add (suc n) r);
    }

-- towards zero sixteen bits stay sixteen bits
pub toward_range : (q : ℕ) (c : ℤ) → mag c < 32768 → mag (toward_zero q c) < 32768
toward_range q (pos n) h = rw (toward_pos q n) (omega (arith, cut_below q n))
toward_range q (negsuc n) h = under (cut_level q (suc n)) (omega (arith, cut_below q (suc n)))
  where
    under : (m : ℕ) → m ≤ 32768 → mag (neg_ℤ (pos m)) < 32768
    under zero l = omega arith
    under (suc m) l = omega arith

-- so the magnitude without its rest, with the sign and clamped, is the coefficient cut towards zero
pub toward_clamped : (q : ℕ) (c : ℤ) → mag c < 32768 → clamp_i16 (with_sign (is_negative c) (nat_abs c - nat_abs c % 2 ^ q)) ≡ toward_zero q c
toward_clamped q c h =
    ap (λ (m : ℕ). clamp_i16 (with_sign (is_negative c) m)) (sym (cut_less q (nat_abs c))) ∙ sym (clamp_same (toward_zero q c) (toward_range q c h))
