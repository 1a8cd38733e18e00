-- `panel_picture::measure::ten_pixels` is safe and ends. Assumes nothing.
use Rattle.std.proofs.Common.{◌*◌, ◌≤◌}
use Rattle.panel_picture.proofs.measure.ten_pixels.Given as goal

abbrev pub invariant-loop-red : goal.invariant-loop-red
invariant-loop-red l = l.sum ≤ 765 * l.red-index
