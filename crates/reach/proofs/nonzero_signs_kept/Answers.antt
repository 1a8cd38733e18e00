-- `reach::nonzero_signs_kept` meets its contract: the law is proved in `Signs`. Assumes nothing.
use Rattle.reach.proofs.Signs.{nonzero_signs_kept_lem}
use Rattle.reach.proofs.nonzero_signs_kept.Goals as goal

pub returns : goal.returns
returns c = nonzero_signs_kept_lem
