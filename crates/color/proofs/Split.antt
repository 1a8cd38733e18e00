-- Factors in two parts: what the code computes with factors that fit sixteen bits is what the definitions say with the whole ones.
--     floor_more                  of a floor: a multiple of 65536 comes out of it whole
--     added                       the same of what is rounded
--     red_whole ..                the three colours by the whole factors
--     red_is, green_is, blue_is   and by those that fit
-- Assumes nothing.
use mathlib.Core.Path.{◌≡◌, refl, sym, ap, ◌∙◌}
use mathlib.Core.Bool.{Bool, true, false, cond}
use Prim.Native.Nat.{ℕ, suc, ◌+◌, ◌-◌, ◌*◌, ◌/◌}
use native.Mathlib.Nat.{mul-add}
use native.Mathlib.Omega.{arith}
use borrow.Author.Tests.{ltb-true, ltb-false}
use lib.Dec.{ltb}
use lib.IntN.{ℤ, pos, negsuc, neg_ℤ, ◌+ℤ◌, ◌-ℤ◌, ◌*ℤ◌, neg_ℤ-+ℤ, +ℤ_assoc, +ℤ_comm, +ℤ_idl, +ℤ-neg_ℤ_cancel, -ℤ-+ℤ_cancel}
use lib.Signed.{shr_z}
use Rattle.fixed.specs.Fixed.{clamp_u8, floor_shift}
use Rattle.color.specs.Color.{rounded, red, green, blue}

-- a product by a sum
times_add : (z : ℤ) (a b : ℕ) → z *ℤ pos (a + b) ≡ z *ℤ pos a +ℤ z *ℤ pos b
times_add (pos n) a b = ap pos (mul-add n a b)
times_add (negsuc n) a b = ap (λ (m : ℕ). neg_ℤ (pos m)) (mul-add (suc n) a b) ∙ neg_ℤ-+ℤ (pos (suc n * a)) (pos (suc n * b))

-- sums in another order: three, and two of two
swap : (a b c : ℤ) → (a +ℤ b) +ℤ c ≡ (a +ℤ c) +ℤ b
swap a b c = +ℤ_assoc a b c ∙ ap (λ (z : ℤ). a +ℤ z) (+ℤ_comm b c) ∙ sym (+ℤ_assoc a c b)

pairs : (a b c d : ℤ) → (a +ℤ b) +ℤ (c +ℤ d) ≡ (a +ℤ c) +ℤ (b +ℤ d)
pairs a b c d = sym (+ℤ_assoc (a +ℤ b) c d) ∙ ap (λ (z : ℤ). z +ℤ d) (swap a b c) ∙ +ℤ_assoc (a +ℤ c) b d

-- a multiple of 65536 that is added comes out of the shift whole
floor_add : (z : ℤ) (n : ℕ) → floor_shift (z +ℤ pos (n * 65536)) 16 ≡ floor_shift z 16 +ℤ pos n
floor_add (pos a) n = ap pos (omega arith)
floor_add (negsuc a) n = pick (ltb (n * 65536) (suc a)) (ltb n (suc (a / 65536))) refl refl
  where
    pick : (s t : Bool) → ltb (n * 65536) (suc a) ≡ s → ltb n (suc (a / 65536)) ≡ t
        → shr_z (cond s (negsuc (suc a - suc (n * 65536))) (pos (n * 65536 - suc a))) 65536 ≡ cond t (negsuc (suc (a / 65536) - suc n)) (pos (n - suc (a / 65536)))
    pick true true e f = ap negsuc (omega (arith, ltb-true))
    pick true false e f = absurd (omega (arith, ltb-true, ltb-false))
    pick false true e f = absurd (omega (arith, ltb-true, ltb-false))
    pick false false e f = ap pos (omega (arith, ltb-false))

-- the same of every multiple: what is subtracted and added again is as it was
floor_more : (z k : ℤ) → floor_shift (z +ℤ k *ℤ pos 65536) 16 ≡ floor_shift z 16 +ℤ k
floor_more z (pos n) = floor_add z n
floor_more z (negsuc n) =
    let w : ℤ = z -ℤ pos (suc n * 65536) in
    let back : floor_shift z 16 ≡ floor_shift w 16 +ℤ pos (suc n)
    = ap (λ (x : ℤ). floor_shift x 16) (sym (-ℤ-+ℤ_cancel z (pos (suc n * 65536)))) ∙ floor_add w (suc n) in
    sym (ap (λ (x : ℤ). x +ℤ negsuc n) back ∙ +ℤ-neg_ℤ_cancel (floor_shift w 16) (pos (suc n)))

-- so a number that is added to what is rounded may be rounded with it
added : (z x : ℤ) → z +ℤ rounded x ≡ rounded (x +ℤ z *ℤ pos 65536)
added z x =
    +ℤ_comm z (rounded x)
    ∙ sym (floor_more (x +ℤ pos 32768) z)
    ∙ ap (λ (w : ℤ). floor_shift w 16) (swap x (pos 32768) (z *ℤ pos 65536))

-- a product by b, less one by a, with one by a + b
less_more : (x z : ℤ) (a b : ℕ) → (x -ℤ z *ℤ pos a) +ℤ z *ℤ pos (a + b) ≡ x +ℤ z *ℤ pos b
less_more x z a b =
    let p : ℤ = z *ℤ pos a in
    ap (λ (w : ℤ). (x -ℤ p) +ℤ w) (times_add z a b) ∙ sym (+ℤ_assoc (x -ℤ p) p (z *ℤ pos b)) ∙ ap (λ (w : ℤ). w +ℤ z *ℤ pos b) (-ℤ-+ℤ_cancel x p)

-- ---- the three colours by the whole factors
pub red_whole : (y cr : ℤ) → clamp_u8 (y +ℤ pos 128 +ℤ rounded (cr *ℤ pos 91881)) ≡ red y cr
unfolding red
red_whole y cr = refl

pub green_whole : (y cb cr : ℤ) → clamp_u8 (y +ℤ pos 128 -ℤ rounded (cb *ℤ pos 22554 +ℤ cr *ℤ pos 46802)) ≡ green y cb cr
unfolding green
green_whole y cb cr = refl

pub blue_whole : (y cb : ℤ) → clamp_u8 (y +ℤ pos 128 +ℤ rounded (cb *ℤ pos 116130)) ≡ blue y cb
unfolding blue
blue_whole y cb = refl

-- ---- and by those that fit
-- the sums of the code are those of the definitions
sums : (y c m : ℤ) → (y +ℤ c) +ℤ (m +ℤ pos 128) ≡ (y +ℤ pos 128) +ℤ (c +ℤ m)
sums y c m = ap (λ (w : ℤ). (y +ℤ c) +ℤ w) (+ℤ_comm m (pos 128)) ∙ pairs y c (pos 128) m

pub red_is : (y cr : ℤ) → clamp_u8 ((y +ℤ cr) +ℤ (rounded (cr *ℤ pos 26345) +ℤ pos 128)) ≡ red y cr
unfolding red
red_is y cr =
    ap clamp_u8 (sums y cr (rounded (cr *ℤ pos 26345)))
    ∙ ap (λ (w : ℤ). clamp_u8 ((y +ℤ pos 128) +ℤ w)) (added cr (cr *ℤ pos 26345) ∙ ap rounded (sym (times_add cr 26345 65536)))

pub green_is : (y cb cr : ℤ) → clamp_u8 ((y -ℤ cr) +ℤ ((pos 0 -ℤ rounded (cb *ℤ pos 22554 -ℤ cr *ℤ pos 18734)) +ℤ pos 128)) ≡ green y cb cr
unfolding green
green_is y cb cr =
    let p : ℤ = cb *ℤ pos 22554 -ℤ cr *ℤ pos 18734 in
    ap clamp_u8 (sums y (neg_ℤ cr) (pos 0 -ℤ rounded p))
    ∙ ap (λ (w : ℤ). clamp_u8 ((y +ℤ pos 128) +ℤ w))
    (ap (λ (w : ℤ). neg_ℤ cr +ℤ w) (+ℤ_idl (neg_ℤ (rounded p))) ∙ sym (neg_ℤ-+ℤ cr (rounded p))
    ∙ ap neg_ℤ (added cr p ∙ ap rounded (less_more (cb *ℤ pos 22554) cr 18734 46802)))

-- of blue, what is added to a sum of sixteen bits
pub blue_part : (cb : ℤ) → cb +ℤ rounded (pos 0 -ℤ cb *ℤ pos 14942) ≡ rounded (cb *ℤ pos 50594)
blue_part cb = added cb (pos 0 -ℤ cb *ℤ pos 14942) ∙ ap rounded (less_more (pos 0) cb 14942 50594 ∙ +ℤ_idl (cb *ℤ pos 50594))

pub blue_is : (y cb : ℤ) → clamp_u8 ((y +ℤ cb) +ℤ ((cb +ℤ rounded (pos 0 -ℤ cb *ℤ pos 14942)) +ℤ pos 128)) ≡ blue y cb
unfolding blue
blue_is y cb =
    ap clamp_u8 (sums y cb (cb +ℤ rounded (pos 0 -ℤ cb *ℤ pos 14942)))
    ∙ ap (λ (w : ℤ). clamp_u8 ((y +ℤ pos 128) +ℤ w))
    (ap (λ (w : ℤ). cb +ℤ w) (blue_part cb) ∙ added cb (cb *ℤ pos 50594) ∙ ap rounded (sym (times_add cb 50594 65536)))
