-- `zero_signs::count` meets its contract. Assumes nothing.
use Rattle.zero_signs.proofs.count.Goals as goal

pub returns : goal.returns
returns c = c.count_components.ensures
