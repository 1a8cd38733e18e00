-- `reach::reachable_pictures` meets its contract: the law is proved in `AnyList`. Assumes nothing.
use Rattle.reach.proofs.AnyList.{reachable_pictures_lem}
use Rattle.reach.proofs.reachable_pictures.Goals as goal

pub returns : goal.returns
returns c = reachable_pictures_lem
