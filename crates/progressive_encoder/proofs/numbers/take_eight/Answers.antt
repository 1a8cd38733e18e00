-- `progressive_encoder::numbers::take_eight` meets its contract: either no place of the eight gives a number, or they are listed one by one. Assumes nothing.
use native.Mathlib.Omega.{arith}
use Rattle.upgrade_steps.specs.Inner.{band_step}
use Rattle.progressive_encoder.specs.Inner.{words_of}
use Rattle.progressive_encoder.proofs.ListedNumbers.{takes_zeros}
use Rattle.progressive_encoder.proofs.numbers.take_eight.Goals as goal

pub returns-then-at_most-eq0 : goal.returns-then-at_most-eq0
returns-then-at_most-eq0 c =
    let a = c.args in
    takes_zeros (band_step a.t) a.classes.now a.numbers.now a.i 8 (words_of a.raws.now a.start) c.requires.2 (λ k h. omega (arith, c.at_most.ensures k h, c.if-at_most-eq0.true))
