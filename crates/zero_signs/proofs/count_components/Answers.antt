-- `zero_signs::count_components` meets its contract. Assumes nothing.
use Rattle.zero_signs.proofs.Counted.{three_rows}
use Rattle.zero_signs.proofs.count_components.Goals as goal

pub returns : goal.returns
returns c =
    three_rows c.args.use_reduce_extrapolate c.args.sign.now c.args.numbers.now c.requires.1
    c.count_component.ensures c.count_component-2.ensures c.count_component-3.ensures
