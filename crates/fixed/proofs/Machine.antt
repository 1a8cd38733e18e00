-- Between the bits of a signed local and its value, and the two sets of laws that proofs over signed code cite:
--     search signed depth 20      a need that a sum, a product, a cast .. fits
--     search exact depth 20       an equation between what the code computes and what the contract says, operator by operator
-- A parameter x of the width w is `of_z w x`, and each operation reads its operands by `to_z w` and writes its result by `of_z w`, so a goal is a nest of
-- `to_z w (of_z w ..)`. `omega` does not read ℤ. The laws go through the nest one operation at a time; at the leaves stands what the need's record has:
-- `SFits w x` of a parameter, `mag r < ..` of a call's result or of an element.
--     under_fits, fits_under, mag_under     between `Under` and the record's facts
--     read_arg, read_local, read_nat        the bound of a local: a parameter, the result of an operation, an unsigned number that was cast
--     read_eq, add_eq .. shl_eq, shl_nat    an equation, one operation at a time: the left side is the machine's
--     fits_eq, known                        a value that is known and bounded by hand: that it fits, and what is read back
--     got                                   a call's result that is returned
--     same_bits, to_unsigned                a test `x == y`; a cast to an unsigned type
-- Assumes nothing.
use mathlib.Core.Path.{◌≡◌, refl, sym, ap, ◌∙◌}
use Prim.Native.Nat.{ℕ, zero, suc, ◌+◌, ◌*◌, ◌-◌, ◌%◌, ◌^◌, ◌<◌, ◌≤◌}
use native.Mathlib.Omega.{arith}
use native.Mathlib.Nat.{lt_of_lt_of_le, mod-eq_of_lt}
use lib.Arith.{digits_mod}
use lib.Dec.{T, lit<, leb, leb→le}
use lib.IntN.{ℤ, pos, negsuc, neg_ℤ, nat_abs, ◌+ℤ◌, ◌-ℤ◌, ◌*ℤ◌}
use lib.Pow.{pow_pos}
use lib.Signed.{mag, non_neg, quot_z, shr_z}
use mir.Facts.{to_z-of_z, to_z_pos}
use mir.Syntax.{Width}
use mir.Val.{SFits, Fits, bits, hbits, to_z, of_z}
use mir.ValLaws.{half_full}
use Rattle.fixed.proofs.Bounds.{Under, under_pos, under_neg, under_add, under_sub, under_times, under_lit_times, under_quot, under_shr}

-- ---- between `Under` and the facts that a need's record has
-- a number under half of the width's range fits the width
pub under_fits : {w : Width} {z : ℤ} → Under (2 ^ hbits w) z → SFits w z
under_fits u = record { sfits = u.under }

-- what fits a width is under every bound from half of its range on
pub fits_under : (w : Width) {N : ℕ} {z : ℤ} → SFits w z → T (leb (2 ^ hbits w) N) → Under N z
fits_under w {N} s t = record { under = lt_of_lt_of_le s.sfits (leb→le (2 ^ hbits w) N t) }

-- so is what is known by its `mag`
pub mag_under : (M : ℕ) {N : ℕ} {z : ℤ} → mag z < M → T (leb M N) → Under N z
mag_under M {N} p t = record { under = lt_of_lt_of_le p (leb→le M N t) }

-- ---- the bound of a local, which holds bits
-- a parameter
pub read_arg : {N : ℕ} (w : Width) (z : ℤ) → SFits w z → T (leb (2 ^ hbits w) N) → Under N (to_z w (of_z w z))
read_arg w z f t = rw (to_z-of_z f) (fits_under w f t)

-- the result of an operation
pub read_local : {N : ℕ} (w : Width) (z : ℤ) → T (leb N (2 ^ hbits w)) → Under N z → Under N (to_z w (of_z w z))
read_local {N} w z t u = rw (to_z-of_z (record { sfits = lt_of_lt_of_le u.under (leb→le N (2 ^ hbits w) t) })) u

-- an unsigned number that was cast to a wider signed type
pub read_nat : {N : ℕ} (w : Width) (n M : ℕ) → n < M → T (leb M N) → T (leb M (2 ^ hbits w)) → Under N (to_z w n)
read_nat {N} w n M h s t =
    rw (to_z_pos w (lt_of_lt_of_le h (leb→le M (2 ^ hbits w) t))) (record { under = lt_of_lt_of_le h (leb→le M N s) })

-- ---- a shift up, `x << k`: the product by P = 2 ^ k, where that fits
wrap_mul : (M a s P : ℕ) → a + s ≡ M → 0 < P → s * P ≤ M → 0 < s * P → a * P % M ≡ M - s * P
wrap_mul M a s P e h k l = rw same (digits_mod (P - 1) (omega arith))
  where
    parts : a * P + s * P ≡ P * M
    parts = omega (arith, ap (λ (n : ℕ). n * P) e)

    less : (P - 1) * M + M ≡ P * M
    less = omega (arith, ap (λ (n : ℕ). n * M) (suc_pred P h))
      where
        suc_pred : (P : ℕ) → 0 < P → (P - 1) + 1 ≡ P
        suc_pred P h = omega arith

    same : a * P ≡ (P - 1) * M + (M - s * P)
    same = omega (arith, parts, less)

shl_bits : (w : Width) (z : ℤ) (P : ℕ) → 0 < P → SFits w z → SFits w (z *ℤ pos P) → of_z w z * P % 2 ^ bits w ≡ of_z w (z *ℤ pos P)
shl_bits w (pos n) P h f g = mod-eq_of_lt (half_full w g.sfits)
shl_bits w (negsuc n) P h f g = go (suc n * P) refl g
  where
    go : (q : ℕ) → suc n * P ≡ q → SFits w (neg_ℤ (pos q)) → (2 ^ bits w - suc n) * P % 2 ^ bits w ≡ of_z w (neg_ℤ (pos q))
    go zero e k = absurd (omega (arith, e, h))
    go (suc q) e k =
        wrap_mul (2 ^ bits w) (2 ^ bits w - suc n) (suc n) P (omega (arith, half_full w f.sfits)) h (omega (arith, half_full w k.sfits, e)) (omega (arith, e))
        ∙ ap (λ (m : ℕ). 2 ^ bits w - m) e

factor_fits : (w : Width) (z : ℤ) (P : ℕ) → 0 < P → SFits w (z *ℤ pos P) → SFits w z
factor_fits w (pos n) (suc p) h g = record { sfits = omega (arith, g.sfits) }
factor_fits w (negsuc n) (suc p) h g = go (suc n * suc p) refl g
  where
    go : (q : ℕ) → suc n * suc p ≡ q → SFits w (neg_ℤ (pos q)) → SFits w (negsuc n)
    go zero e k = absurd (omega (arith, e))
    go (suc q) e k = record { sfits = omega (arith, e, k.sfits) }
factor_fits w z zero h g = absurd (omega arith)

-- as a signed local is shifted up
pub shl_eq : (w : Width) (y z : ℤ) (P : ℕ) → y ≡ z → 0 < P → Under (2 ^ hbits w) (y *ℤ pos P) → to_z w (of_z w y * P % 2 ^ bits w) ≡ z *ℤ pos P
shl_eq w y z P e h u =
    ap (to_z w) (shl_bits w y P h (factor_fits w y P h (under_fits u)) (under_fits u)) ∙ to_z-of_z (under_fits u) ∙ ap (λ (x : ℤ). x *ℤ pos P) e

-- and how large that is
pub under_shl : {N : ℕ} (w : Width) (y : ℤ) (P : ℕ) → T (leb N (2 ^ hbits w)) → 0 < P → Under N (y *ℤ pos P) → Under N (to_z w (of_z w y * P % 2 ^ bits w))
under_shl {N} w y P t h u =
    rw (shl_eq w y y P refl h (record { under = lt_of_lt_of_le u.under (leb→le N (2 ^ hbits w) t) })) u

-- the same of an unsigned number that was cast, or of a literal
pub shl_nat : (w : Width) (n P : ℕ) → n * P < 2 ^ hbits w → to_z w (n * P % 2 ^ bits w) ≡ pos (n * P)
shl_nat w n P h = ap (to_z w) (mod-eq_of_lt (half_full w h)) ∙ to_z_pos w h

-- ---- what a nest of operations computes, one operation at a time: the left sides are the machine's, the right sides the contract's
-- a local that was written is read back
pub read_eq : (w : Width) (y z : ℤ) → y ≡ z → Under (2 ^ hbits w) y → to_z w (of_z w y) ≡ z
read_eq w y z e u = to_z-of_z (record { sfits = u.under }) ∙ e

-- an unsigned number that was cast is itself
pub nat_eq : (w : Width) (n M : ℕ) → n < M → T (leb M (2 ^ hbits w)) → to_z w n ≡ pos n
nat_eq w n M h t = to_z_pos w (lt_of_lt_of_le h (leb→le M (2 ^ hbits w) t))

-- a sum
pub add_eq : (a b x y : ℤ) → a ≡ x → b ≡ y → a +ℤ b ≡ x +ℤ y
add_eq a b x y p q = cc

-- a difference
pub sub_eq : (a b x y : ℤ) → a ≡ x → b ≡ y → a -ℤ b ≡ x -ℤ y
sub_eq a b x y p q = cc

-- a product
pub mul_eq : (a b x y : ℤ) → a ≡ x → b ≡ y → a *ℤ b ≡ x *ℤ y
mul_eq a b x y p q = cc

-- a quotient, rounded towards zero
pub quot_eq : (a b x y : ℤ) → a ≡ x → b ≡ y → quot_z a b ≡ quot_z x y
quot_eq a b x y p q = cc

-- a shift right
pub shr_eq : (a x : ℤ) (m : ℕ) → a ≡ x → shr_z a m ≡ shr_z x m
shr_eq a x m p = cc

-- ---- a value that is known, and bounded by hand: the need that it fits, and reading it back
-- it fits
pub fits_eq : (w : Width) {y z : ℤ} → y ≡ z → Under (2 ^ hbits w) z → SFits w y
fits_eq w e u = rw e (under_fits u)

-- and it is what is read back
pub known : (w : Width) (y z : ℤ) → y ≡ z → Under (2 ^ hbits w) z → to_z w (of_z w y) ≡ z
known w y z e u = to_z-of_z (fits_eq w e u) ∙ e

-- ---- a call's result r that is returned, from `c.f.ok` and an equation that starts with `c.f.ensures`
-- what is returned is what the call's contract says
pub got : (w : Width) {r z : ℤ} → mag r < 2 ^ hbits w → r ≡ z → to_z w (of_z w r) ≡ z
got w h e = to_z-of_z (record { sfits = h }) ∙ e

-- ---- a test `x == y`, whose fact is one of the bits: `of_z w x ≡ of_z w y`. At a literal y, `of_z w y` is the literal
-- the same bits are the same number
pub same_bits : (w : Width) (x y : ℤ) → SFits w x → SFits w y → of_z w x ≡ of_z w y → x ≡ y
same_bits w x y f g e = sym (to_z-of_z f) ∙ ap (to_z w) e ∙ to_z-of_z g

-- ---- a cast to an unsigned type, of a value y that is pos n
-- the cast is that number
pub to_unsigned : (w : Width) {y : ℤ} {n : ℕ} → y ≡ pos n → n < 2 ^ bits w → T (non_neg y) × Fits w (nat_abs y)
to_unsigned w e h = rw e (tt, record { fits = h })

pub ruleset signed = (tt, lit<, to_z-of_z, under_fits, fits_under, mag_under, read_arg, read_local, under_pos, under_neg, under_add, under_sub, under_quot, under_shr, under_times, under_lit_times, read_nat, under_shl, pow_pos)

pub ruleset exact = (signed, read_eq, add_eq, sub_eq, mul_eq, quot_eq, shr_eq, nat_eq, shl_eq)
