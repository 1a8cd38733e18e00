-- `zero_signs::are_right` meets its contract. Assumes nothing.
use mathlib.Core.Path.{ap, ◌∙◌}
use Rattle.bands.specs.Tables.{are_same}
use Rattle.zero_signs.proofs.Counted.{pointwise_same}
use Rattle.zero_signs.proofs.are_right.Goals as goal

pub returns : goal.returns
returns c = c.eq.ensures ∙ pointwise_same c.args.numbers.now c.count.result ∙ ap (are_same c.args.numbers.now) c.count.ensures
