-- `panel::demo::both_runs` cuts its pictures within them. Assumes nothing.
use Rattle.std.proofs.Common.{arith, length-take}
use Rattle.panel.proofs.demo.both_runs.Goals as goal

pub slice_bounds-whole-end-2 : goal.slice_bounds-whole-end-2
slice_bounds-whole-end-2 g c = simp length-take (omega (arith, c.requires))
