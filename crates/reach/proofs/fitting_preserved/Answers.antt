-- `reach::fitting_preserved` meets its contract: the law is proved in `Signs`. Assumes nothing.
use Rattle.reach.proofs.Signs.{fitting_preserved_lem}
use Rattle.reach.proofs.fitting_preserved.Goals as goal

pub returns : goal.returns
returns c = fitting_preserved_lem
