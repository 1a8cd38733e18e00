-- One place, by its level: a number that only rises. Outside the bottom the level is the magnitude, and the sign picks the family;
-- in the bottom it is the value plus 32768, and the family holds the sign. Every fact about a step is then one about numbers.
use mathlib.Core.Path.{◌≡◌, refl, sym, ap, ◌∙◌}
use mathlib.Core.Bool.{Bool, true, false, not, cond}
use Prim.Native.Nat.{ℕ, zero, suc, ◌+◌, ◌-◌, ◌^◌, ◌≤◌, ◌<◌}
use native.Mathlib.Omega.{arith}
use lib.Dec.{T, ltb, ltb→lt, nltb→le}
use lib.IntN.{ℤ, pos, negsuc, neg_ℤ, nat_abs, ◌+ℤ◌, sub_ℕ, +ℤ_assoc, +ℤ_comm}
use lib.Pow.{pow_pos}
use lib.Signed.{mag}
use Rattle.fixed.specs.Fixed.{sign_of}
use Rattle.fixed.proofs.Sign.{abs_minus}
use Rattle.fitting.specs.Place.{Place, place, Multiple, Fits, level_of}
use Rattle.fitting.proofs.Level.{multiple_down, multiple_add, multiple_diff, multiple_times}

-- ════ families and levels ════

-- a coefficient with its own sign
abbrev pub own : ℤ → Place
own z = record { coefficient = z; sign = sign_of z }

-- places that raw bits lead from one to the other: outside the bottom those that are not negative and those that are not positive, in the bottom those
-- of one sign
pub data Family : Type 0 where
  plus minus : Family
  floor : ℤ → Family

-- whether a family is of the bottom
abbrev pub bottom : Family → Bool
bottom plus = false
bottom minus = false
bottom (floor s) = true

-- the place of a family at a level
abbrev pub at_level : Family → ℕ → Place
at_level plus m = own (pos m)
at_level minus m = own (neg_ℤ (pos m))
at_level (floor s) m = record { coefficient = pos m +ℤ negsuc 32767; sign = s }

-- levels are below
abbrev pub top : Family → ℕ
top plus = 32768
top minus = 32769
top (floor s) = 65536

-- the side on which a coefficient lies outside the bottom; 0 is taken for plus
abbrev pub side_of : ℤ → Family
side_of (pos n) = plus
side_of (negsuc n) = minus

-- the family of a place
abbrev pub family_of : Bool → Place → Family
family_of true x = floor x.sign
family_of false x = side_of x.coefficient

-- ════ integers ════

-- a difference of two numbers is negative or not
pub sub_case : (P : ℤ → Type 0) (a b : ℕ) → (a < b → P (negsuc (b - suc a))) → (b ≤ a → P (pos (a - b))) → P (sub_ℕ a b)
sub_case P a b f g = go (ltb a b) (λ t. f (ltb→lt a b t)) (λ t. g (nltb→le a b t))
  where
    go : (c : Bool) → (T c → P (negsuc (b - suc a))) → (T (not c) → P (pos (a - b))) → P (cond c (negsuc (b - suc a)) (pos (a - b)))
    go true f g = f tt
    go false f g = g tt

-- the negative of a level of minus has sixteen bits
pub mag_neg : (m : ℕ) → m < 32769 → mag (neg_ℤ (pos m)) < 32768
mag_neg zero h = omega arith
mag_neg (suc m) h = omega arith

-- so has what stands at a level of the bottom
pub floor_range : (m : ℕ) → m < 65536 → mag (pos m +ℤ negsuc 32767) < 32768
floor_range m l = sub_case (λ z. mag z < 32768) m 32768 (λ b. omega arith) (λ b. omega arith)

-- a level of the bottom that is d higher is a value that is d higher
pub more_floor : (a d : ℕ) → pos (a + d) +ℤ negsuc 32767 ≡ (pos a +ℤ negsuc 32767) +ℤ pos d
more_floor a d = +ℤ_assoc (pos a) (pos d) (negsuc 32767) ∙ ap (λ (z : ℤ). pos a +ℤ z) (+ℤ_comm (pos d) (negsuc 32767)) ∙ sym (+ℤ_assoc (pos a) (negsuc 32767) (pos d))

-- ════ a level that is a multiple of 2^p is a place that fits p ════

-- 32768 is a multiple of 2^p
half_multiple : (p : ℕ) → p ≤ 15 → Multiple (2 ^ p) 32768
half_multiple p h = multiple_down 32768 h (multiple_times 32768 1)

floor_fits : (p m : ℕ) (s : ℤ) → p ≤ 15 → m < 65536 → Multiple (2 ^ p) m → Fits true p (at_level (floor s) m)
floor_fits p m s h l k = record {
  low = h;
  range = floor_range m l;
  multiple = sub_case (λ z. Multiple (2 ^ p) (nat_abs z)) m 32768
      (λ b. multiple_diff (suc (32768 - suc m)) (pow_pos p) k (half_multiple p h) (omega arith))
      (λ b. multiple_diff (m - 32768) (pow_pos p) (half_multiple p h) k (omega arith));
  own = tt;
}

-- the place at a level fits where the level does
pub level_fits : (f : Family) (p m : ℕ) → p ≤ 15 → m < top f → Multiple (2 ^ p) m → Fits (bottom f) p (at_level f m)
level_fits plus p m h l k = record { low = h; range = l; multiple = k; own = refl }
level_fits minus p m h l k = record { low = h; range = mag_neg m l; multiple = rw (abs_minus m) k; own = refl }
level_fits (floor s) p m h l k = floor_fits p m s h l k

-- ════ every place that fits is at a level ════

-- places with one coefficient and one sign are one
pub place_path : {x y : Place} → x.coefficient ≡ y.coefficient → x.sign ≡ y.sign → x ≡ y
place_path e f = λ i. record { coefficient = e i; sign = f i }

-- a place with its own sign is known by its coefficient
pub own_is : (x : Place) → x.sign ≡ sign_of x.coefficient → x ≡ own x.coefficient
own_is x e = place_path refl e

-- outside the bottom a coefficient with its own sign stands at its magnitude
pub side_is : (c : ℤ) → own c ≡ at_level (side_of c) (nat_abs c)
side_is (pos n) = refl
side_is (negsuc n) = refl

-- in the bottom a coefficient stands at its level
pub floor_is : (c : ℤ) → mag c < 32768 → c ≡ pos (level_of true c) +ℤ negsuc 32767
floor_is (pos n) h = sub_case (λ z. pos n ≡ z) (n + 32768) 32768 (λ b. absurd (omega arith)) (λ b. ap pos (omega arith))
floor_is (negsuc n) h = sub_case (λ z. negsuc n ≡ z) (32767 - n) 32768 (λ b. ap negsuc (omega arith)) (λ b. absurd (omega arith))

-- and at no other
pub floor_level : (m : ℕ) → level_of true (pos m +ℤ negsuc 32767) ≡ m
floor_level m = sub_case (λ z. level_of true z ≡ m) m 32768 (λ b. omega arith) (λ b. omega arith)

-- the family is of the bottom where the place is
pub family_kind : (b : Bool) (x : Place) → b ≡ bottom (family_of b x)
family_kind true x = refl
family_kind false x = side x.coefficient
  where
    side : (c : ℤ) → false ≡ bottom (side_of c)
    side (pos n) = refl
    side (negsuc n) = refl

-- a level is below the end of its family
pub level_below : (b : Bool) (x : Place) → mag x.coefficient < 32768 → level_of b x.coefficient < top (family_of b x)
level_below b x h = by b x.coefficient h
  where
    by : (b : Bool) (c : ℤ) → mag c < 32768 → level_of b c < top (family_of b (place c x.sign))
    by true (pos n) h = omega arith
    by true (negsuc n) h = omega arith
    by false (pos n) h = h
    by false (negsuc n) h = omega arith

-- the level of a multiple of 2^p is one
pub level_multiple : (b : Bool) (p : ℕ) (c : ℤ) → p ≤ 15 → mag c < 32768 → Multiple (2 ^ p) (nat_abs c) → Multiple (2 ^ p) (level_of b c)
level_multiple true p (pos n) h l k = multiple_add k (half_multiple p h)
level_multiple true p (negsuc n) h l k = multiple_diff (32767 - n) (pow_pos p) k (half_multiple p h) (omega arith)
level_multiple false p c h l k = k

-- what a place that fits is by its level
pub record Levelled (b : Bool) (p : ℕ) (x : Place) : Type 0 where
  pub family : Family
  pub level : ℕ
  pub kind : b ≡ bottom family
  pub is : x ≡ at_level family level
  pub low : p ≤ 15
  pub multiple : Multiple (2 ^ p) level
  pub below : level < top family

-- a place that fits stands in its family, at the level of its coefficient
pub fits_at : (b : Bool) (p : ℕ) {x : Place} → Fits b p x → x ≡ at_level (family_of b x) (level_of b x.coefficient)
fits_at true p {x} f = place_path (floor_is x.coefficient f.range) refl
fits_at false p {x} f = own_is x f.own ∙ side_is x.coefficient

-- so each that fits is levelled
pub levelled : (b : Bool) (p : ℕ) {x : Place} → Fits b p x → Levelled b p x
levelled b p {x} f = record {
  family = family_of b x;
  level = level_of b x.coefficient;
  kind = family_kind b x;
  is = fits_at b p f;
  low = f.low;
  multiple = level_multiple b p x.coefficient f.low f.range f.multiple;
  below = level_below b x f.range;
}
