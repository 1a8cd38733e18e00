-- Laws of the bits of a nonzero value, and of a run and a value together. Assumes nothing.
use mathlib.Core.Path.{◌≡◌, refl, ap, sym, ◌∙◌}
use mathlib.Core.Bool.{Bool, true, false, cond}
use mathlib.Core.List.{List, [], ◌∷◌, ◌++◌}
use Prim.Native.Nat.{ℕ, zero, suc, ◌+◌, ◌-◌, ◌*◌, ◌/◌, ◌^◌, ◌≤◌, ◌<◌}
use native.Mathlib.Nat.{div-eq_of_lt, lt_of_lt_of_le, pow-suc}
use native.Mathlib.Omega.{arith}
use lib.Dec.{ltb}
use lib.ListN.{length, replicate, length-append}
use lib.Pow.{pow_mono}
use Rattle.bits.specs.Bits.{bit_of}
use Rattle.bits.specs.Written.{bits_of}
use Rattle.bits.proofs.Powers.{joined_small}
use Rattle.bits.proofs.Puts.{length_bits_of, bits_append, bits_join, bits_zero}
use Rattle.srl_encoder.specs.Encode.{stop, nonzero_bits}
use Rattle.srl_encoder.specs.Inner.{stop_count, plan_bits, GoodPlan}
use Rattle.srl_encoder.specs.declared.encoder.RunPlan.{RunPlan}
use Rattle.srl_encoder.proofs.Runs.{length_plan, plan_small, plan_word}

-- at most one bit 1 ends a nonzero value
pub stop_le : (w m : ℕ) → stop_count w m ≤ 1
stop_le w m = by (ltb m (2 ^ w - 1))
  where
    by : (b : Bool) → cond b 1 0 ≤ 1
    by true = omega arith
    by false = omega arith

-- the end's bits as a number
stop_bits : (w m : ℕ) → stop w m ≡ bits_of (stop_count w m) (stop_count w m)
stop_bits w m = by (ltb m (2 ^ w - 1))
  where
    by : (b : Bool) → cond b (true ∷ []) [] ≡ bits_of (cond b 1 0) (cond b 1 0)
    by true = refl
    by false = refl

-- the sign as a number of one bit
pub sign_bit : (b : Bool) → bits_of 1 (bit_of b) ≡ b ∷ []
sign_bit true = refl
sign_bit false = refl

-- sign, zeros and end, as they are written one after another; s is the count of ends
pub nonzero_parts : (w m s : ℕ) (b : Bool) → s ≡ stop_count w m → 1 ≤ m → b ∷ (replicate (m - 1) false ++ bits_of s s) ≡ nonzero_bits w b (m - 1)
nonzero_parts w m s b e h =
    let q : m ≡ m - 1 + 1 = omega arith in
    ap (λ n. b ∷ (replicate (m - 1) false ++ bits_of n n)) e
    ∙ ap (λ l. b ∷ (replicate (m - 1) false ++ l)) (sym (stop_bits w m))
    ∙ ap (λ n. b ∷ (replicate (m - 1) false ++ stop w n)) q

-- the count of ends is below 2 to any width that holds it
pub stop_small : (s n : ℕ) → s ≤ 1 → s ≤ n → s < 2 ^ n
stop_small s n h l = lt_of_lt_of_le (by s h) (pow_mono l)
  where
    by : (s : ℕ) → s ≤ 1 → s < 2 ^ s
    by zero h = omega arith
    by (suc zero) h = omega arith
    by (suc (suc n)) h = absurd (omega arith)

-- all of it as one number
pub nonzero_word_lem : (w m s : ℕ) (b : Bool) → s ≡ stop_count w m → 1 ≤ m → bits_of (m + s) (bit_of b * 2 ^ (m - 1 + s) + s) ≡ nonzero_bits w b (m - 1)
nonzero_word_lem w m s b e h =
    let n : m + s ≡ 1 + (m - 1 + s) = omega arith in
    let l : s ≤ 1 = rw e (stop_le w m) in
    ap (λ j. bits_of j (bit_of b * 2 ^ (m - 1 + s) + s)) n
    ∙ bits_join 1 (m - 1 + s) (bit_of b) s (stop_small s (m - 1 + s) l (omega arith))
    ∙ ap (λ x. bits_of 1 (bit_of b) ++ x)
    (bits_append (m - 1) s s ∙ ap (λ x. bits_of (m - 1) x ++ bits_of s s) (div-eq_of_lt (stop_small s s l (omega arith))) ∙ ap (λ x. x ++ bits_of s s) (bits_zero (m - 1)))
    ∙ ap (λ l. l ++ (replicate (m - 1) false ++ bits_of s s)) (sign_bit b)
    ∙ nonzero_parts w m s b e h

-- the number of a nonzero value has no more bits than the value
pub word_small : (m s : ℕ) (b : Bool) → s ≤ 1 → 1 ≤ m → bit_of b * 2 ^ (m - 1 + s) + s < 2 ^ (m + s)
word_small m s b l h =
    let n : m + s ≡ suc (m - 1 + s) = omega arith in
    let p : 2 ^ (m + s) ≡ 2 ^ (m - 1 + s) * 2 = ap (λ j. 2 ^ j) n ∙ pow-suc 2 (m - 1 + s) in
    rw p (by b (stop_small s (m - 1 + s) l (omega arith)))
  where
    by : (b : Bool) {x : ℕ} → s < x → bit_of b * x + s < x * 2
    by true i = omega arith
    by false i = omega arith

-- how many bits a nonzero value has
pub length_nonzero : (w m s : ℕ) (b : Bool) → s ≡ stop_count w m → 1 ≤ m → length (nonzero_bits w b (m - 1)) ≡ m + s
length_nonzero w m s b e h = ap length (sym (nonzero_word_lem w m s b e h)) ∙ length_bits_of (m + s) (bit_of b * 2 ^ (m - 1 + s) + s)

-- a nonzero value has at most one bit more than its magnitude
pub nonzero_le : (w m : ℕ) (b : Bool) → 1 ≤ m → length (nonzero_bits w b (m - 1)) ≤ m + 1
nonzero_le w m b h = omega (arith, length_nonzero w m (stop_count w m) b refl h, stop_le w m)

-- its sign does not change how many bits there are
pub sign_length : (l : List Bool) (w : ℕ) (a b : Bool) (m : ℕ) → length (l ++ nonzero_bits w a m) ≡ length (l ++ nonzero_bits w b m)
sign_length l w a b m = length-append l (nonzero_bits w a m) ∙ sym (length-append l (nonzero_bits w b m))

-- how many bits a run as planned and a nonzero value have
pub length_planned : (r : RunPlan) (w m s : ℕ) (b : Bool) → s ≡ stop_count w m → 1 ≤ m → length (plan_bits r ++ nonzero_bits w b (m - 1)) ≡ r.steps + (r.kp / 8 + 1) + (m + s)
length_planned r w m s b e h = omega (arith, length-append (plan_bits r) (nonzero_bits w b (m - 1)), length_plan r, length_nonzero w m s b e h)

-- and at most
pub planned_le : (r : RunPlan) (w m : ℕ) (b : Bool) → GoodPlan r → 1 ≤ m → length (plan_bits r ++ nonzero_bits w b (m - 1)) ≤ r.steps + m + 12
planned_le r w m b g h = omega (arith, length_planned r w m (stop_count w m) b refl h, stop_le w m, g.0)

-- a run as planned and the value behind it as one number
pub both_word : (r : RunPlan) (w m s : ℕ) (b : Bool) → GoodPlan r → s ≡ stop_count w m → 1 ≤ m
    → {x : ℕ} → x ≡ (2 ^ (r.kp / 8) + r.rest) * 2 ^ (m + s) + (bit_of b * 2 ^ (m - 1 + s) + s) → bits_of (r.steps + (r.kp / 8 + 1) + (m + s)) x ≡ plan_bits r ++ nonzero_bits w b (m - 1)
both_word r w m s b g e h q =
    let word = bit_of b * 2 ^ (m - 1 + s) + s in
    ap (bits_of (r.steps + (r.kp / 8 + 1) + (m + s))) q
    ∙ bits_join (r.steps + (r.kp / 8 + 1)) (m + s) (2 ^ (r.kp / 8) + r.rest) word (word_small m s b (rw e (stop_le w m)) h)
    ∙ ap (λ l. l ++ bits_of (m + s) word) (plan_word r g)
    ∙ ap (λ l. plan_bits r ++ l) (nonzero_word_lem w m s b e h)

-- the number has no more bits than both
pub both_small : (r : RunPlan) (m s : ℕ) (b : Bool) → GoodPlan r → s ≤ 1 → 1 ≤ m
    → {x n : ℕ} → x ≡ (2 ^ (r.kp / 8) + r.rest) * 2 ^ (m + s) + (bit_of b * 2 ^ (m - 1 + s) + s) → r.kp / 8 + 1 + (m + s) ≤ n → x < 2 ^ n
both_small r m s b g l h q k = rw q (lt_of_lt_of_le (joined_small (r.kp / 8 + 1) (m + s) (plan_small r g) (word_small m s b l h)) (pow_mono k))
