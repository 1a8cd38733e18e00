-- `dequantizer::dequantize_band` meets its contract: after i turns the first i are dequantized. Assumes nothing.
use mathlib.Core.Path.{◌≡◌}
use lib.ListN.{replicate}
use Rattle.dequantizer.specs.Dequantize.{dequantized_all}
use Rattle.dequantizer.proofs.dequantize_band.Given as goal

abbrev pub invariant-loop-c : goal.invariant-loop-c
invariant-loop-c l = dequantized_all (replicate l.c-index l.q) l.initial.coefficients ≡ l.coefficients
