-- `tile_passes::total` is safe and ends. Assumes nothing.
use Rattle.std.proofs.Common.{◌*◌, ◌≤◌}
use Rattle.tile_passes.proofs.total.Given as goal

abbrev pub invariant-loop-len : goal.invariant-loop-len
invariant-loop-len l = l.sum ≤ 131072 * l.len-index
