-- `panel_picture::forward::low_end` is safe and ends. Assumes nothing.
use Rattle.std.proofs.Common.{arith, length-set}
use Rattle.panel_picture.proofs.forward.low_end.Goals as goal

pub bounds-out-high-3 : goal.bounds-out-high-3
bounds-out-high-3 c = simp length-set (omega arith)
