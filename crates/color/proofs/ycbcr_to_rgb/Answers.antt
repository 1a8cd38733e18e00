-- `color::ycbcr_to_rgb` meets its contract. Assumes nothing.
use mir.Facts.{to_z-of_z}
use Rattle.color.proofs.ycbcr_to_rgb.Goals as goal

pub returns : goal.returns
returns c =
    let f = c.ranges in
    rw (c.red.ensures, c.green.ensures, c.blue.ensures, to_z-of_z f.y, to_z-of_z f.cb, to_z-of_z f.cr)
