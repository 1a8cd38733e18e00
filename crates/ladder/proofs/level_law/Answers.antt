-- `ladder::level_law` meets its contract: the law is proved in `Levels`. Assumes nothing.
use Rattle.ladder.proofs.Levels.{level_law_lem}
use Rattle.ladder.proofs.level_law.Goals as goal

pub returns : goal.returns
returns c = level_law_lem
