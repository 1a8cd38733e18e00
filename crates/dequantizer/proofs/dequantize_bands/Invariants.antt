-- `dequantizer::dequantize_bands` meets its contract: after b turns the places of the first b bands are dequantized. Assumes nothing.
use mathlib.Core.Path.{◌≡◌}
use lib.ListN.{get_or}
use Rattle.bands.proofs.Spread.{per_place_to}
use Rattle.dequantizer.specs.Dequantize.{dequantized_all}
use Rattle.dequantizer.proofs.dequantize_bands.Given as goal

abbrev pub invariant-loop-b : goal.invariant-loop-b
invariant-loop-b l = dequantized_all (per_place_to l.use_reduce_extrapolate (λ i. get_or l.quant i 0) l.b) l.initial.coefficients ≡ l.coefficients
