-- `fixed::is_zero` meets its contract. Assumes nothing.
use mir.Facts.{sfits_lit}
use mir.Syntax.{w16}
use Rattle.fixed.proofs.Sign.{zero_test}
use Rattle.fixed.proofs.is_zero.Goals as goal

pub returns : goal.returns
returns c = zero_test w16 c.args.value c.ranges.value (sfits_lit tt)
