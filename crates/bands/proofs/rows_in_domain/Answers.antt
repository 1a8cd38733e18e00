-- `bands::rows_in_domain` meets its contract. It closes by itself: by hand, the rows that are looked at are printed where they are
-- others. Assumes nothing.
use Rattle.std.proofs.Common.{rules, tests}
use Rattle.std.proofs.lemmas.Iterator.{YieldsList-from_slice}
use Rattle.std.proofs.lemmas.Iterator.Search.{all_from_yields_List}
use Rattle.bands.specs.Positions.{row_in_domain}
use Rattle.bands.proofs.rows_in_domain.Goals as goal

pub returns : goal.returns
returns c = all_from_yields_List row_in_domain _ _ c.all.result c.all.ensures.ran (YieldsList-from_slice c.args.rows c.iter.ensures.rest) (λ x b q k. search (rules, tests))
