-- `progressive_encoder::numbers::list_numbers` meets its contract. Assumes nothing.
use Rattle.upgrade_steps.specs.Inner.{band_step}
use Rattle.progressive_encoder.specs.Inner.{words_of}
use Rattle.progressive_encoder.proofs.ListedNumbers.{takes_band}
use Rattle.progressive_encoder.proofs.numbers.list_numbers.Goals as goal

pub returns : goal.returns
returns g c = λ ss part classed.
    let a = c.args in
    takes_band g.R.Rule.rule (band_step a.t) a.coefficients.now a.prev_coefficients.now ss a.classes.now _ (words_of a.raws.now a.start) _ part classed c.number_places.ensures c.take_all.ensures
