-- `pixels::all_samples` meets its contract: after k turns the first k components are samples. Assumes nothing.
use native.Mathlib.Omega.{arith}
use Rattle.pixels.proofs.Sampled.{none_reached, one_more, all_reached}
use Rattle.pixels.proofs.all_samples.Goals as goal

pub loop-k-init : goal.loop-k-init
loop-k-init c = none_reached c.args.quants c.args.coefficients.now c.requires.0

pub loop-k-preserved : goal.loop-k-preserved
loop-k-preserved c = one_more c.args.quants c.args.coefficients.now c.requires.0 c.loop-k.k c.loop-k-test.true c.loop-k.invariant c.samples_at.ensures (omega arith)

pub returns : goal.returns
returns c = all_reached c.args.quants c.args.coefficients.now c.requires.0 c.loop-k.k (omega arith) c.loop-k.invariant
