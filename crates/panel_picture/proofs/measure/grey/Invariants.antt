-- `panel_picture::measure::grey` is safe and ends. Assumes nothing.
use Rattle.std.proofs.Common.{◌+◌, ◌*◌, ◌≤◌}
use Rattle.panel_picture.proofs.measure.grey.Given as goal

abbrev pub invariant-loop-row : goal.invariant-loop-row
invariant-loop-row l = l.sum + 7650 * l.top ≤ 7650 * l.row
