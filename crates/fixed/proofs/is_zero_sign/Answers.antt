-- `fixed::is_zero_sign` meets its contract. Assumes nothing.
use mir.Facts.{sfits_lit}
use mir.Syntax.{w8}
use Rattle.fixed.proofs.Sign.{zero_test}
use Rattle.fixed.proofs.is_zero_sign.Goals as goal

pub returns : goal.returns
returns c = zero_test w8 c.args.sign c.ranges.sign (sfits_lit tt)
