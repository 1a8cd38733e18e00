-- `upgrade_steps::from_srl` meets its contract. It closes by itself: by hand, what it says of the bottom is printed where it is another.
-- Assumes nothing.
use Rattle.std.proofs.Common.{rules}
use Rattle.upgrade_steps.proofs.Sources.{bottom_from_raw}
use Rattle.upgrade_steps.proofs.from_srl.Goals as goal

pub returns-else-not-t : goal.returns-else-not-t
returns-else-not-t c = bottom_from_raw _ c.args.t.bottom _ c.if-not-t.false (search rules)
