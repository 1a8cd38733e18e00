-- The definitions at known numbers, by `refl`: a definition is tried here before anything is proved against it.
use mathlib.Core.Path.{◌≡◌, refl}
use mathlib.Core.Bool.{Bool, true, false, true≢false}
use mathlib.Core.List.{List, [], ◌∷◌}
use lib.IntN.{ℤ, pos, negsuc}
use Rattle.std.specs.Prelude.{Some}
use Rattle.answer.specs.declared.Refusal.TheVariants.{MagnitudeOutOfRange}
use Rattle.bits.specs.Bits.{num, numbers, zeros}
use Rattle.bits.specs.Written.{bits_of_all}
use Rattle.fixed.specs.Fixed.{clamp_i16, add_scaled, sub_scaled, is_zero, is_one, sign_of, round_shift, shift_left_clamp}
use Rattle.srl_decoder.specs.Srl.{values}
use Rattle.srl_encoder.specs.Finish.{stream_bits}
use Rattle.upgrade_steps.specs.Steps.{Step, srl_widths, raw_widths}
use Rattle.progressive_decoder.specs.Upgrade.{signs_after, coefficients_after, upgraded_coefficients, upgraded_signs}
use Rattle.progressive_encoder.specs.Encode.{floor_rule, srl_differences, raw_differences, any_too_large, pass_fault, srl_bytes, raw_bytes}
use Rattle.dequantizer.specs.Dequantize.{dequantized_all}
use Rattle.progressive.specs.Laws.{cuts}
use Rattle.progressive.specs.OwnCuts.{OwnCuts}

-- positions 3 to 1
abbrev from3to1 : Bool → Step
from3to1 bottom = record { bottom = bottom; width = 2; position = 1 }

abbrev there : List Step
there = from3to1 false ∷ from3to1 false ∷ from3to1 false ∷ []

abbrev goal : List ℤ
goal = pos 7 ∷ pos 14 ∷ negsuc 13 ∷ []

abbrev from : List ℤ
from = pos 0 ∷ pos 8 ∷ negsuc 7 ∷ []

abbrev known : List ℤ
known = pos 0 ∷ pos 1 ∷ negsuc 0 ∷ []

-- raw bits 11: -8 with sign -1 gives -14; -32768 with sign -1 stays; in the bottom -8 gives -2
raw_down : upgraded_coefficients (from3to1 false ∷ from3to1 false ∷ from3to1 true ∷ []) [] (252 ∷ []) (negsuc 7 ∷ negsuc 32767 ∷ negsuc 7 ∷ []) (negsuc 0 ∷ negsuc 0 ∷ negsuc 0 ∷ [])
    ≡ (negsuc 13 ∷ negsuc 32767 ∷ negsuc 1 ∷ [])
unfolding srl_widths raw_widths coefficients_after values numbers num clamp_i16 add_scaled sub_scaled is_zero is_one
raw_down = refl

-- SRL 80 00 at width 1 is 1, A0 is -1: at a zero sign the value sets the sign
srl_up : upgraded_coefficients (from3to1 false ∷ []) (136 ∷ []) [] (pos 0 ∷ []) (pos 0 ∷ []) ≡ (pos 4 ∷ [])
unfolding srl_widths raw_widths coefficients_after values numbers num clamp_i16 add_scaled sub_scaled is_zero is_one zeros
srl_up = refl

srl_sign_lem : upgraded_signs (from3to1 false ∷ []) (136 ∷ []) (pos 0 ∷ pos 5 ∷ []) ≡ (pos 1 ∷ pos 5 ∷ [])
unfolding srl_widths signs_after values num is_zero zeros
srl_sign_lem = refl

-- writing 7 over 0: value 3; writing -7: value -4, refused with 5
writes : srl_differences floor_rule (from3to1 false ∷ []) (pos 7 ∷ []) (pos 0 ∷ []) (pos 0 ∷ []) ≡ (pos 3 ∷ [])
unfolding srl_differences clamp_i16 is_zero
writes = refl

refuses : pass_fault floor_rule (from3to1 false ∷ []) (negsuc 6 ∷ []) (pos 0 ∷ []) (pos 0 ∷ []) ≡ Some MagnitudeOutOfRange
unfolding srl_widths srl_differences any_too_large clamp_i16 is_zero
refuses = refl

writes_bytes : srl_bytes floor_rule (from3to1 false ∷ []) (pos 7 ∷ []) (pos 0 ∷ []) (pos 0 ∷ []) ≡ (128 ∷ 0 ∷ [])
unfolding srl_widths srl_differences clamp_i16 is_zero stream_bits
writes_bytes = refl

raw_bytes_lem : raw_bytes floor_rule (from3to1 false ∷ []) (negsuc 13 ∷ []) (negsuc 7 ∷ []) (negsuc 0 ∷ []) ≡ (192 ∷ [])
unfolding raw_widths raw_differences clamp_i16 is_zero bits_of_all
raw_bytes_lem = refl

-- what was written brings the target back: 7 over 0 without its lowest bit, 14 over 8 and -14 over -8
back : (upgraded_coefficients there (srl_bytes floor_rule there goal from known) (raw_bytes floor_rule there goal from known) from known ≡ (pos 6 ∷ pos 14 ∷ negsuc 13 ∷ []))
    × (cuts there goal from known ≡ (pos 6 ∷ pos 14 ∷ negsuc 13 ∷ []))
unfolding srl_widths raw_widths srl_differences raw_differences coefficients_after cuts values numbers num clamp_i16 add_scaled sub_scaled is_zero is_one zeros stream_bits bits_of_all
back = (refl, refl)

-- a negative value of the bottom over its floor cut gains nothing
bottom_stays : upgraded_coefficients (from3to1 true ∷ []) [] (raw_bytes floor_rule (from3to1 true ∷ []) (negsuc 6 ∷ []) (negsuc 7 ∷ []) (pos 0 ∷ [])) (negsuc 7 ∷ []) (pos 0 ∷ []) ≡ (negsuc 7 ∷ [])
unfolding srl_widths raw_widths raw_differences coefficients_after values numbers num clamp_i16 add_scaled is_zero is_one bits_of_all
bottom_stays = refl

-- own cuts: -6 over 0, -22 over -16, and in the bottom -22 over -16 with any sign. -7 over 0, refused above, has a bit below position 1
own_cuts : OwnCuts (from3to1 false ∷ from3to1 false ∷ from3to1 true ∷ []) (negsuc 5 ∷ negsuc 21 ∷ negsuc 21 ∷ []) (pos 0 ∷ negsuc 15 ∷ negsuc 15 ∷ []) (pos 0 ∷ negsuc 0 ∷ pos 5 ∷ [])
unfolding sign_of
own_cuts =
    OwnCuts.own (record { whole = refl; from = refl; own = λ e. refl })
    (OwnCuts.own (record { whole = refl; from = refl; own = λ e. refl })
    (OwnCuts.own (record { whole = refl; from = refl; own = λ e. absurd (true≢false e) }) OwnCuts.none))

-- quantizer 5: -1 gives 0, 1 gives 1, -3 gives -1; 7: 20000 gives 32767
dequantizes : dequantized_all (5 ∷ 5 ∷ 5 ∷ 7 ∷ 6 ∷ []) (negsuc 0 ∷ pos 1 ∷ negsuc 2 ∷ pos 20000 ∷ negsuc 8 ∷ pos 9 ∷ [])
    ≡ (pos 0 ∷ pos 1 ∷ negsuc 0 ∷ pos 32767 ∷ negsuc 8 ∷ pos 9 ∷ [])
unfolding dequantized_all round_shift shift_left_clamp clamp_i16
dequantizes = refl
