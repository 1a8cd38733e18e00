-- `color::lane_red` meets its contract. Assumes nothing.
use mathlib.Core.Path.{◌≡◌, ◌∙◌, ap}
use lib.IntN.{pos, ◌*ℤ◌}
use mir.Syntax.{w16}
use mir.Val.{to_z, of_z}
use Rattle.fixed.specs.Fixed.{clamp_u8}
use Rattle.fixed.proofs.Machine.{signed, exact, got}
use Rattle.color.specs.Color.{rounded}
use Rattle.color.proofs.HalfWords.{rounded_under}
use Rattle.color.proofs.Late.{within_of, within_eq}
use Rattle.color.proofs.Split.{red_is}
use Rattle.color.proofs.lane_red.Goals as goal

pub toned-requires : goal.toned-requires
toned-requires c =
    let part : to_z w16 (of_z w16 c.rounded_half.result) ≡ rounded (c.args.cr *ℤ pos 26345) = got w16 c.rounded_half.type_inv (c.rounded_half.ensures ∙ search exact depth 20) in
    within_eq part (rounded_under (c.args.cr *ℤ pos 26345) (search signed depth 20))

pub returns : goal.returns
returns c =
    let part : to_z w16 (of_z w16 c.rounded_half.result) ≡ rounded (c.args.cr *ℤ pos 26345) = got w16 c.rounded_half.type_inv (c.rounded_half.ensures ∙ search exact depth 20) in
    let m = part in
    c.toned.ensures ∙ ap clamp_u8 (search exact depth 20) ∙ red_is c.args.y c.args.cr

pub overflow_cast-y : goal.overflow_cast-y
overflow_cast-y c = search signed depth 20

pub overflow_cast-cr : goal.overflow_cast-cr
overflow_cast-cr c = search signed depth 20

pub overflow_add-y : goal.overflow_add-y
overflow_add-y c = search signed depth 20

pub overflow_cast-cr-2 : goal.overflow_cast-cr-2
overflow_cast-cr-2 c = search signed depth 20

pub overflow_mul-cr : goal.overflow_mul-cr
overflow_mul-cr c = search signed depth 20

pub rounded_half-requires : goal.rounded_half-requires
rounded_half-requires c = search (within_of, signed) depth 20
