-- `planes::load` meets its contract. Assumes nothing.
use mathlib.Core.Path.{◌∙◌, sym}
use lib.Seq.{length-take-le}
use Rattle.planes.proofs.Copies.{third_room, takes_three}
use Rattle.planes.proofs.load.Goals as goal

pub copy_from_slice-requires-3 : goal.copy_from_slice-requires-3
copy_from_slice-requires-3 g c =
    let a = c.args in
    third_room a.into.now c.copy_from_slice.new.self c.copy_from_slice-2.new.self c.requires.3 c.copy_from_slice.ensures.len c.copy_from_slice-2.ensures.len
    ∙ sym (length-take-le 4096 a.cr.now c.requires.2)

pub returns : goal.returns
returns g c =
    let a = c.args in
    takes_three a.y.now a.cb.now a.cr.now a.into.now c.requires.3 c.requires.0 c.requires.1 c.requires.2
    c.copy_from_slice.ensures.after c.copy_from_slice-2.ensures.after c.copy_from_slice-3.ensures.after
