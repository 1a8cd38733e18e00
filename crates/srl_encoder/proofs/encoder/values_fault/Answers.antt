-- `srl_encoder::encoder::values_fault` meets its contract: where the two tests hold no value is refused. Assumes nothing.
use mathlib.Core.Path.{sym, ap}
use native.Mathlib.Omega.{arith}
use Rattle.answer.specs.Answers.{answered}
use Rattle.srl_encoder.proofs.Sizes.{no_fault}
use Rattle.srl_encoder.proofs.encoder.values_fault.Goals as goal

pub returns-then-largest_magnitude-max_magnitude : goal.returns-then-largest_magnitude-max_magnitude
returns-then-largest_magnitude-max_magnitude c =
    let none = no_fault c.args.num_bits c.args.zeros c.args.values.now (omega arith) (omega (arith, c.max_magnitude.ensures, c.largest_magnitude.ensures)) in
    ap (λ f. answered f tt) (sym none)
