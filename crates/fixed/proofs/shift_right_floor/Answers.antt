-- `fixed::shift_right_floor` meets its contract. Assumes nothing.
use mathlib.Core.Path.{◌∙◌}
use Rattle.fixed.proofs.Machine.{exact}
use Rattle.fixed.proofs.Shift.{floor_held}
use Rattle.fixed.proofs.shift_right_floor.Goals as goal

pub returns : goal.returns
returns c = search exact depth 20 ∙ floor_held c.args.value c.args.shift c.min.result c.ranges.value.sfits c.min.ensures
