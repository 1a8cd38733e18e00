-- `panel_picture::cut::down` meets its contract. Assumes nothing.
use mathlib.Core.Path.{ap, ◌∙◌}
use mir.Syntax.{w16}
use mir.ValLaws.{to_z-of_z}
use Rattle.fixed.specs.Fixed.{floor_shift, shift_left_clamp}
use Rattle.fixed.proofs.Machine.{got}
use Rattle.panel_picture.proofs.cut.down.Goals as goal

pub returns : goal.returns
unfolding shift_left_clamp
returns c =
    let q = c.args.position in
    let a = c.shift_right_floor in
    got w16 c.shift_left_clamp.type_inv
    (c.shift_left_clamp.ensures
    ∙ ap (λ x. shift_left_clamp x q) (got w16 a.type_inv (a.ensures ∙ ap (λ v. floor_shift v q) (to_z-of_z w16 c.args.value c.ranges.value))))
