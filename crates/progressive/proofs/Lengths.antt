-- How long the two streams of a pass can be. kp rises only by zeros and falls where a run ends. With a weight for kp, a zero takes at most two bits, and
-- another value at most one bit more than its own. Assumes nothing.
use mathlib.Core.Path.{◌≡◌, refl, subst}
use mathlib.Core.Bool.{Bool, true, false, cond, ◌&&◌, ◌||◌, true≢false}
use mathlib.Core.List.{List, [], ◌∷◌, ◌++◌}
use Prim.Native.Nat.{ℕ, zero, suc, ◌+◌, ◌-◌, ◌*◌, ◌/◌, ◌^◌, ◌≤◌, ◌<◌, min}
use native.Mathlib.Decide.{dec_lt}
use native.Mathlib.Omega.{arith}
use borrow.Author.Tests.{leb-true, ltb-true, ltb-false}
use lib.Dec.{leb, ltb}
use lib.IntN.{ℤ, pos, negsuc, nat_abs}
use lib.ListN.{length, replicate, length-append, length-replicate}
use lib.Pow.{pow_mono}
use Rattle.fixed.specs.Fixed.{is_zero}
use Rattle.bands.proofs.Every.{both_true}
use Rattle.bits.specs.Written.{bits_of, bits_of_all}
use Rattle.bits.proofs.Puts.{length_bits_of}
use Rattle.srl_encoder.specs.Encode.{nonzero_bits, run_bits, run_kp, value_bits, value_kp, value_zeros}
use Rattle.srl_encoder.specs.Finish.{stream_bits}
use Rattle.srl_encoder.proofs.EncodedValues.{value_kp_lem}
use Rattle.upgrade_steps.specs.Steps.{Step, source_of, srl_width, srl_widths}
use Rattle.progressive_decoder.proofs.Missing.{Slim, slim}
use Rattle.progressive_encoder.specs.Encode.{Rule, srl_given, srl_differences, srl_stream, any_too_large}
use Rattle.progressive_encoder.proofs.StreamLengths.{some_length}
use Rattle.progressive.specs.Missing.{sum}

-- ════ a run ════

-- of kp, as a number of bits
unfoldable weight : ℕ → ℕ
weight kp = kp * kp / 64

-- at a code word 1 kp falls by 6, and its weight by no fewer bits than follow the 1; at a code word 0, which stands for 2^(kp / 8) zeros, kp rises by 4, and its
-- weight and the one bit are no more than two bits for each of them
abbrev weighed : ℕ → Bool
weighed kp = leb (kp / 8 + weight (kp - 6)) (weight kp) && leb (1 + weight (min (kp + 4) 80)) (2 * 2 ^ (kp / 8) + weight kp)

-- a test of each number up to n
abbrev up_to : (ℕ → Bool) → ℕ → Bool
up_to f zero = f zero
up_to f (suc n) = f (suc n) && up_to f n

up_to_lem : (f : ℕ → Bool) (n k : ℕ) → up_to f n ≡ true → k ≤ n → f k ≡ true
up_to_lem f zero k e h = let s : 0 ≡ k = omega arith in subst (λ (j : ℕ). f j ≡ true) s e
up_to_lem f (suc n) k e h = let p = both_true (f (suc n)) (up_to f n) e in by (dec_lt k (suc n)) p.0 (up_to_lem f n k p.1)
  where
    by : Dec (k < suc n) → f (suc n) ≡ true → (k ≤ n → f k ≡ true) → f k ≡ true
    by (yes l) p r = r (omega arith)
    by (no l) p r = let s : suc n ≡ k = omega arith in subst (λ (j : ℕ). f j ≡ true) s p

-- at each kp
all_weighed : up_to weighed 80 ≡ true
unfolding weight
all_weighed = refl

weight_moves : (kp : ℕ) → kp ≤ 80 → (kp / 8 + weight (kp - 6) ≤ weight kp) × (1 + weight (min (kp + 4) 80) ≤ 2 * 2 ^ (kp / 8) + weight kp)
weight_moves kp h =
    let a = leb (kp / 8 + weight (kp - 6)) (weight kp) in
    let b = leb (1 + weight (min (kp + 4) 80)) (2 * 2 ^ (kp / 8) + weight kp) in
    let p = both_true a b (up_to_lem weighed 80 kp all_weighed h) in
    (leb-true (kp / 8 + weight (kp - 6)) (weight kp) p.0, leb-true (1 + weight (min (kp + 4) 80)) (2 * 2 ^ (kp / 8) + weight kp) p.1)

-- a run takes two bits for each of its zeros and one for its end, but for what the weight falls by
run_length : (f kp z : ℕ) → kp ≤ 80 → length (run_bits f kp z) + weight (run_kp f kp z) ≤ 2 * z + weight kp + 1
run_length zero kp z h = omega arith
run_length (suc f) kp z h = by (ltb z (2 ^ (kp / 8))) refl (run_length f (min (kp + 4) 80) (z - 2 ^ (kp / 8)) (omega arith))
  where
    by : (b : Bool) → ltb z (2 ^ (kp / 8)) ≡ b
        → length (run_bits f (min (kp + 4) 80) (z - 2 ^ (kp / 8))) + weight (run_kp f (min (kp + 4) 80) (z - 2 ^ (kp / 8))) ≤ 2 * (z - 2 ^ (kp / 8)) + weight (min (kp + 4) 80) + 1
        → length (cond b (true ∷ bits_of (kp / 8) z) (false ∷ run_bits f (min (kp + 4) 80) (z - 2 ^ (kp / 8)))) + weight (cond b (kp - 6) (run_kp f (min (kp + 4) 80) (z - 2 ^ (kp / 8))))
        ≤ 2 * z + weight kp + 1
    by true e i = omega (arith, length_bits_of (kp / 8) z, (weight_moves kp h).0)
    by false e i = let j : 2 ^ (kp / 8) ≤ z = ltb-false _ _ e in omega (arith, i, (weight_moves kp h).1)

-- ════ a stream ════

-- what a value takes: two bits where it is 0, else one more than its own
abbrev pub value_takes : ℕ → ℤ → ℕ
value_takes w (pos zero) = 2
value_takes w (pos (suc m)) = length (nonzero_bits w false m) + 1
value_takes w (negsuc m) = length (nonzero_bits w true m) + 1

-- and all values
unfoldable pub values_take : List ℕ → List ℤ → ℕ
values_take ws [] = 0
values_take [] (v ∷ vs) = 0
values_take (w ∷ ws) (v ∷ vs) = value_takes w v + values_take ws vs

-- a value's bits, with two for each zero that is pending behind it
value_length : (w kp z : ℕ) (v : ℤ) → kp ≤ 80 → length (value_bits w kp z v) + 2 * value_zeros z v + weight (value_kp kp z v) ≤ 2 * z + value_takes w v + weight kp
value_length w kp z (pos zero) h = omega arith
value_length w kp z (pos (suc m)) h = omega (arith, length-append (run_bits (suc z) kp z) (nonzero_bits w false m), run_length (suc z) kp z h)
value_length w kp z (negsuc m) h = omega (arith, length-append (run_bits (suc z) kp z) (nonzero_bits w true m), run_length (suc z) kp z h)

-- a stream's bits
stream_length : (kp z : ℕ) (ws : List ℕ) (vs : List ℤ) → kp ≤ 80 → length (stream_bits kp z ws vs) ≤ 2 * z + values_take ws vs + weight kp + 1
unfolding stream_bits values_take
stream_length kp zero ws [] h = omega arith
stream_length kp (suc z) ws [] h = omega (arith, run_length (suc (suc z)) kp (suc z) h)
stream_length kp z [] (v ∷ vs) h = omega arith
stream_length kp z (w ∷ ws) (v ∷ vs) h =
    omega (
      arith,
      length-append (value_bits w kp z v) (stream_bits (value_kp kp z v) (value_zeros z v) ws vs),
      value_length w kp z v h,
      stream_length (value_kp kp z v) (value_zeros z v) ws vs (value_kp_lem kp z v h),
    )

-- and its bytes
pub srl_length_lem : (ws : List ℕ) (vs : List ℤ) → length (srl_stream ws vs) ≤ (values_take ws vs + 9) / 8 + 1
unfolding weight
srl_length_lem ws [] = omega arith
srl_length_lem ws (v ∷ vs) = omega (arith, some_length ws (v ∷ vs) (λ e. omega arith), stream_length 8 0 ws (v ∷ vs) (omega arith))

-- ════ the values of a pass ════

-- a value that fits its width takes at most 2^w bits: the greatest magnitude has no 1 behind its zeros
nonzero_takes : (w : ℕ) (b : Bool) (m : ℕ) → m < 2 ^ w - 1 → length (nonzero_bits w b m) + 1 ≤ 2 ^ w
nonzero_takes w b m h = by (ltb (m + 1) (2 ^ w - 1)) refl
  where
    by : (c : Bool) → ltb (m + 1) (2 ^ w - 1) ≡ c → length (b ∷ (replicate m false ++ cond c (true ∷ []) [])) + 1 ≤ 2 ^ w
    by true e = omega (arith, length-append (replicate m false) (true ∷ []), length-replicate m false, ltb-true (m + 1) (2 ^ w - 1) e)
    by false e = omega (arith, length-append (replicate m false) [], length-replicate m false)

value_takes_lem : (w n : ℕ) (v : ℤ) → 1 ≤ w → w ≤ n → nat_abs v ≤ 2 ^ w - 1 → value_takes w v ≤ 2 ^ n
value_takes_lem w n (pos zero) l k h = pow_mono {i = 1} {j = n} (omega arith)
value_takes_lem w n (pos (suc m)) l k h = omega (arith, nonzero_takes w false m (omega arith), pow_mono {i = w} {j = n} k)
value_takes_lem w n (negsuc m) l k h = omega (arith, nonzero_takes w true m (omega arith), pow_mono {i = w} {j = n} k)

-- a place before others
place_takes : (b : Bool) (w : ℕ) (z : Bool) (v : ℤ) (ws : List ℕ) (vs : List ℤ) (n : ℕ) → w ≤ n → (any_too_large ws vs ≡ false → values_take ws vs ≤ length ws * 2 ^ n)
    → any_too_large (srl_width (source_of b w z) w ws) (srl_given (source_of b w z) v vs) ≡ false
    → values_take (srl_width (source_of b w z) w ws) (srl_given (source_of b w z) v vs) ≤ length (srl_width (source_of b w z) w ws) * 2 ^ n
unfolding any_too_large values_take
place_takes b zero z v ws vs n h r e = r e
place_takes true (suc w) z v ws vs n h r e = r e
place_takes false (suc w) false v ws vs n h r e = r e
place_takes false (suc w) true v ws vs n h r e = by (ltb (2 ^ suc w - 1) (nat_abs v)) refl e
  where
    by : (a : Bool) → ltb (2 ^ suc w - 1) (nat_abs v) ≡ a → (a || any_too_large ws vs) ≡ false → value_takes (suc w) v + values_take ws vs ≤ suc (length ws) * 2 ^ n
    by true q e = absurd (true≢false e)
    by false q e = omega (arith, value_takes_lem (suc w) n v (omega arith) h (ltb-false (2 ^ suc w - 1) (nat_abs v) q), r e)

-- all places: none is lowered by more than n
pub pass_takes : (r : Rule) {n : ℕ} {ts : List Step} → Slim n ts → (cs ps ss : List ℤ) → any_too_large (srl_widths ts ss) (srl_differences r ts cs ps ss) ≡ false
    → values_take (srl_widths ts ss) (srl_differences r ts cs ps ss) ≤ length (srl_widths ts ss) * 2 ^ n
unfolding srl_widths srl_differences values_take
pass_takes r Slim.none cs ps ss e = omega arith
pass_takes r (slim h l) [] ps ss e = omega arith
pass_takes r (slim h l) (c ∷ cs) [] ss e = omega arith
pass_takes r (slim h l) (c ∷ cs) (p ∷ ps) [] e = omega arith
pass_takes r {n} (slim {t = t} {ts = ts} h l) (c ∷ cs) (p ∷ ps) (s ∷ ss) e =
    place_takes t.bottom t.width (is_zero s) (r.value t.position c p) (srl_widths ts ss) (srl_differences r ts cs ps ss) n h (pass_takes r l cs ps ss) e

-- ════ raw numbers ════

-- numbers take no more bits than their widths
pub numbers_take : (ws ms : List ℕ) → length (bits_of_all ws ms) ≤ sum ws
unfolding bits_of_all sum
numbers_take [] ms = omega arith
numbers_take (w ∷ ws) [] = omega arith
numbers_take (w ∷ ws) (m ∷ ms) = omega (arith, numbers_take ws ms, length-append (bits_of w m) (bits_of_all ws ms), length_bits_of w m)
