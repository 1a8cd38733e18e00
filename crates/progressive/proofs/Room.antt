-- Room for both streams of a pass: how long each can be at most, and that a call with so much room is not refused by 7. Assumes nothing.
use mathlib.Core.Path.{◌≡◌, refl, ap}
use mathlib.Core.Logic.{◌≢◌}
use mathlib.Core.Bool.{Bool, true, false, cond, ◌&&◌, true≢false}
use mathlib.Core.List.{List}
use Prim.Native.Nat.{ℕ, ◌*◌, ◌^◌, ◌≤◌}
use native.Mathlib.Nat.{mul-le-mul_right}
use native.Mathlib.Omega.{arith}
use borrow.Author.Tests.{le-ltb}
use lib.Dec.{ltb}
use lib.IntN.{ℤ}
use lib.ListN.{length}
use lib.Pow.{pow_pos}
use Rattle.fixed.specs.Fixed.{clamp_i16, is_zero}
use Rattle.bands.specs.Bands.{spread}
use Rattle.bands.specs.Positions.{row_in_domain}
use Rattle.bands.proofs.Every.{both_true, row_low}
use Rattle.bands.proofs.Spread.{place_whole}
use Rattle.bits.specs.Written.{bits_of_all}
use Rattle.bits.proofs.Packed.{length_pack}
use Rattle.srl_encoder.specs.Finish.{stream_bits}
use Rattle.upgrade_steps.specs.Steps.{step_of, steps, srl_widths, raw_widths}
use Rattle.std.specs.Prelude.{None, Some}
use Rattle.answer.specs.declared.Refusal.TheVariants.{SliceTooShort, OutOfDomain, MagnitudeOutOfRange, OutputTooShort}
use Rattle.answer.specs.Answers.{unless, first_of, long_enough, number}
use Rattle.progressive_decoder.proofs.Missing.{slim_falls, few_values, raw_near}
use Rattle.progressive_encoder.specs.Encode.{Rule, srl_differences, raw_differences, srl_bytes, raw_bytes, any_too_large, encode_pass_refusal}
use Rattle.progressive.specs.Room.{FallsBy, srl_room_for, raw_room_for, RoomSuffices}
use Rattle.progressive.proofs.Lengths.{srl_length_lem, pass_takes, numbers_take}
use Rattle.progressive.proofs.Missed.{count_sum}

-- without a refusal by 1, 2 or 5 there is room
no_7 : (a b f c d : Bool) → (b ≡ true → f ≡ false → c ≡ false) → (b ≡ true → d ≡ false)
    → first_of (unless a SliceTooShort) (first_of (unless b OutOfDomain) (first_of (cond f (Some MagnitudeOutOfRange) None) (first_of (cond c (Some OutputTooShort) None) (cond d (Some OutputTooShort) None)))) ≢ Some OutputTooShort
no_7 false b f c d h k e = absurd (omega (arith, ap number e))
no_7 true false f c d h k e = absurd (omega (arith, ap number e))
no_7 true true true c d h k e = absurd (omega (arith, ap number e))
no_7 true true false true d h k e = absurd (true≢false (h refl refl))
no_7 true true false false true h k e = absurd (true≢false (k refl))
no_7 true true false false false h k e = absurd (omega (arith, ap number e))

module _ (w : ℕ) (r : Rule) (cs ps ss : List ℤ) (prev curr : List ℕ) (e : Bool) where
  -- the SRL stream of values that fit
  srl_fits : FallsBy w prev curr → any_too_large (srl_widths (steps e prev curr) ss) (srl_differences r (steps e prev curr) cs ps ss) ≡ false
      → length (srl_bytes r (steps e prev curr) cs ps ss) ≤ srl_room_for w
  srl_fits h f =
      let ts = steps e prev curr in
      let ws = srl_widths ts ss in
      let vs = srl_differences r ts cs ps ss in
      omega (arith, srl_length_lem ws vs, pass_takes r (slim_falls e prev curr h) cs ps ss f, mul-le-mul_right (2 ^ w) (few_values e prev curr ss), pow_pos w)

  -- the raw stream
  raw_fits : FallsBy w prev curr → length (raw_bytes r (steps e prev curr) cs ps ss) ≤ raw_room_for w
  raw_fits h =
      let ts = steps e prev curr in
      let us = raw_widths ts ss in
      let ms = raw_differences r ts cs ps ss in
      let all : length ts ≡ 4096 = place_whole e (step_of prev curr) in
      let bits : length (bits_of_all us ms) ≤ length ts * w = omega (arith, numbers_take us ms, count_sum us 0, raw_near (slim_falls e prev curr h) ss 0) in
      omega (arith, length_pack (bits_of_all us ms) 0 0 (omega arith), rw all at bits)

  -- a call, whose rows are looked at only where they are in the domain
  never_7 : (srlOut rawOut : List ℕ) → (row_in_domain prev ≡ true → FallsBy w prev curr) → srl_room_for w ≤ length srlOut → raw_room_for w ≤ length rawOut
      → encode_pass_refusal r cs ps prev curr ss e srlOut rawOut ≢ Some OutputTooShort
  never_7 srlOut rawOut h j k =
      let ts = steps e prev curr in
      let x = srl_bytes r ts cs ps ss in
      let y = raw_bytes r ts cs ps ss in
      let falls : (row_in_domain prev && row_in_domain curr) ≡ true → FallsBy w prev curr = λ b. h (both_true (row_in_domain prev) (row_in_domain curr) b).0 in
      no_7 (long_enough cs && (long_enough ps && long_enough ss)) (row_in_domain prev && row_in_domain curr)
      (any_too_large (srl_widths ts ss) (srl_differences r ts cs ps ss)) (ltb (length srlOut) (length x)) (ltb (length rawOut) (length y))
      (λ b f. le-ltb (length srlOut) (length x) (omega (arith, j, srl_fits (falls b) f)))
      (λ b. le-ltb (length rawOut) (length y) (omega (arith, k, raw_fits (falls b))))

-- the law, in its parts
pub room_suffices_lem : RoomSuffices
unfolding spread clamp_i16 is_zero srl_widths raw_widths srl_differences raw_differences stream_bits bits_of_all
room_suffices_lem = record {
  lowered = λ w r cs ps ss prev curr e srlOut rawOut h. never_7 w r cs ps ss prev curr e srlOut rawOut (λ d. h);
  any_pass = λ r cs ps ss prev curr e srlOut rawOut. never_7 15 r cs ps ss prev curr e srlOut rawOut (λ d b. omega (arith, row_low prev b d));
  srl_most = refl;
  raw_most = refl;
  srl_reached = refl;
  raw_reached = refl;
}
