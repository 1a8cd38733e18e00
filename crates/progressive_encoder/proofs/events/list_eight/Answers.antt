-- `progressive_encoder::events::list_eight` meets its contract: either the zeros of the eight places are counted, or they are listed one by one. Assumes nothing.
use native.Mathlib.Omega.{arith}
use Rattle.upgrade_steps.specs.Inner.{band_step}
use Rattle.progressive_encoder.proofs.ListedEvents.{lists_quiet}
use Rattle.progressive_encoder.proofs.events.list_eight.Goals as goal

pub returns-then-at_most-lt2 : goal.returns-then-at_most-lt2
returns-then-at_most-lt2 g c =
    let a = c.args in
    lists_quiet g.R.Rule.rule (band_step a.t) a.coefficients.now a.prev_coefficients.now a.classes.now a.words.now a.start.count a.i 8 a.start.zeros _ c.requires.3
    (λ k h. omega (arith, c.at_most.ensures k h, c.if-at_most-lt2.true)) (omega (arith, c.zeros_of_eight.ensures))
