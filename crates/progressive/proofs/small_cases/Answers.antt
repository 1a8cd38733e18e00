-- `progressive::small_cases` meets its contract: the definitions compute. Assumes nothing.
use mathlib.Core.Path.{refl}
use Rattle.fixed.specs.Fixed.{clamp_i16, is_zero}
use Rattle.bits.specs.Written.{bits_of_all}
use Rattle.srl_encoder.specs.Finish.{stream_bits}
use Rattle.upgrade_steps.specs.Steps.{srl_widths, raw_widths}
use Rattle.progressive_encoder.specs.Encode.{srl_differences, raw_differences, any_too_large}
use Rattle.progressive.specs.SmallCases.{SmallCases}
use Rattle.progressive.proofs.small_cases.Goals as goal

cases : SmallCases
unfolding clamp_i16 is_zero srl_widths raw_widths srl_differences raw_differences any_too_large stream_bits bits_of_all
cases = record { symmetric = refl; srl = refl; raw = refl; source = refl }

pub returns : goal.returns
returns c = cases
