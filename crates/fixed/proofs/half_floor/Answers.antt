-- `fixed::half_floor` meets its contract. Assumes nothing.
use Rattle.fixed.proofs.Machine.{exact}
use Rattle.fixed.proofs.half_floor.Goals as goal

pub returns : goal.returns
returns c = search exact depth 20
