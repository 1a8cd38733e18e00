-- `panel_picture::measure::undecided` is safe and ends. Assumes nothing.
use Rattle.std.proofs.Common.{◌*◌, ◌≤◌}
use Rattle.panel_picture.proofs.measure.undecided.Given as goal

abbrev pub invariant-loop-place : goal.invariant-loop-place
invariant-loop-place l = l.n ≤ 65535 * l.place
