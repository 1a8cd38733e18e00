-- `panel_picture::cut::cut` meets its contract. Assumes nothing.
use mathlib.Core.Path.{ap, ◌∙◌}
use lib.IntN.{ℤ}
use mir.Syntax.{w16}
use mir.ValLaws.{to_z-of_z}
use Rattle.fixed.specs.Fixed.{clamp_i16}
use Rattle.fixed.specs.Cut.{toward_zero, downward}
use Rattle.fixed.proofs.Machine.{got}
use Rattle.panel_picture.proofs.cut.cut.Goals as goal

pub returns-then-is_bottom : goal.returns-then-is_bottom
returns-then-is_bottom c =
    let e = ap (λ (v : ℤ). clamp_i16 (downward c.args.position v)) (to_z-of_z w16 c.args.value c.ranges.value) in
    rw c.if-is_bottom.true (got w16 c.down.type_inv (c.down.ensures ∙ e))

pub returns-else-is_bottom : goal.returns-else-is_bottom
returns-else-is_bottom c =
    let e = ap (λ (v : ℤ). toward_zero c.args.position v) (to_z-of_z w16 c.args.value c.ranges.value) in
    rw c.if-is_bottom.false (got w16 c.toward_zero.type_inv (c.toward_zero.ensures ∙ e))
