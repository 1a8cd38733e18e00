-- `fixed::is_positive_sign` meets its contract. Assumes nothing.
use mir.Facts.{sfits_lit}
use mir.Syntax.{w8}
use Rattle.fixed.proofs.Sign.{one_test}
use Rattle.fixed.proofs.is_positive_sign.Goals as goal

pub returns : goal.returns
returns c = one_test w8 c.args.sign c.ranges.sign (sfits_lit tt)
