-- `color::blue_full` meets its contract. Assumes nothing.
use mathlib.Core.Path.{◌∙◌}
use mir.Facts.{to_z-of_z}
use Rattle.color.proofs.blue_full.Goals as goal

pub returns : goal.returns
returns c =
    let f = c.ranges in
    c.two.ensures ∙ rw (c.lane_blue.ensures, to_z-of_z f.y, to_z-of_z f.cb)
