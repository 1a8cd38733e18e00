-- `bands::positions_in_domain` meets its contract. It closes by itself: by hand, the number that the test names is printed where it is
-- another. Assumes nothing.
use mathlib.Core.Path.{◌≡◌}
use Prim.Native.Nat.{ℕ}
use lib.Dec.{leb}
use Rattle.std.proofs.Common.{rules}
use Rattle.std.proofs.lemmas.Iterator.{YieldsList-from_slice}
use Rattle.std.proofs.lemmas.Iterator.Search.{all_from_yields_List}
use Rattle.bands.specs.Positions.{in_domain}
use Rattle.bands.proofs.positions_in_domain.Goals as goal

pub returns : goal.returns
returns c =
    all_from_yields_List in_domain _ _ c.all.result c.all.ensures.ran (YieldsList-from_slice c.args.positions.now c.iter.ensures.rest)
    (λ x b q k. (search rules, let said : (n : ℕ) × (b ≡ leb x.now n) = search rules in said.1))
