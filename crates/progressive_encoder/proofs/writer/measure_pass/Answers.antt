-- `progressive_encoder::writer::measure_pass` meets its contract. Assumes nothing.
use Rattle.upgrade_steps.specs.Steps.{steps}
use Rattle.progressive_encoder.specs.Inner.{pass_lists}
use Rattle.progressive_encoder.proofs.writer.measure_pass.Goals as goal

pub returns : goal.returns
returns g c =
    let a = c.args in c.measure_lists.ensures (pass_lists g.R.Rule.rule (steps a.use_reduce_extrapolate a.prev a.curr) a.coefficients.now a.prev_coefficients.now a.sign.now) c.look_bands-found.ensures
