-- `pixels::all_samples` meets its contract: after k turns the first k components are samples. Assumes nothing.
use Rattle.pixels.proofs.Sampled.{Reached}
use Rattle.pixels.proofs.all_samples.Given as goal

abbrev pub invariant-loop-k : goal.invariant-loop-k
invariant-loop-k l = Reached l.quants l.initial.coefficients l.k l.coefficients
