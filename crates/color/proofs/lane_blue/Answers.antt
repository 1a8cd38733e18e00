-- `color::lane_blue` meets its contract. Assumes nothing.
use mathlib.Core.Path.{◌≡◌, ◌∙◌, ap}
use lib.IntN.{pos, ◌+ℤ◌, ◌-ℤ◌, ◌*ℤ◌}
use mir.Syntax.{w16}
use mir.Val.{to_z, of_z}
use Rattle.fixed.specs.Fixed.{clamp_u8}
use Rattle.fixed.proofs.Bounds.{Under, under_more}
use Rattle.fixed.proofs.Machine.{signed, exact, known, fits_eq, got}
use Rattle.color.specs.Color.{rounded}
use Rattle.color.proofs.HalfWords.{rounded_under}
use Rattle.color.proofs.Late.{within_of, within_eq}
use Rattle.color.proofs.Split.{blue_part, blue_is}
use Rattle.color.proofs.lane_blue.Goals as goal

pub overflow_add-cb : goal.overflow_add-cb
overflow_add-cb c =
    let part : to_z w16 (of_z w16 c.rounded_half.result) ≡ rounded (pos 0 -ℤ c.args.cb *ℤ pos 14942) = got w16 c.rounded_half.type_inv (c.rounded_half.ensures ∙ search exact depth 20) in
    let more_under : Under 32384 (c.args.cb +ℤ rounded (pos 0 -ℤ c.args.cb *ℤ pos 14942)) = rw (blue_part c.args.cb) (rounded_under (c.args.cb *ℤ pos 50594) (search signed depth 20)) in
    let m = part in fits_eq w16 (search exact depth 20) (under_more more_under tt)

pub toned-requires : goal.toned-requires
toned-requires c =
    let part : to_z w16 (of_z w16 c.rounded_half.result) ≡ rounded (pos 0 -ℤ c.args.cb *ℤ pos 14942) = got w16 c.rounded_half.type_inv (c.rounded_half.ensures ∙ search exact depth 20) in
    let more_under : Under 32384 (c.args.cb +ℤ rounded (pos 0 -ℤ c.args.cb *ℤ pos 14942)) = rw (blue_part c.args.cb) (rounded_under (c.args.cb *ℤ pos 50594) (search signed depth 20)) in
    let m = part in
    let u = under_more {N = 32768} more_under tt in
    within_eq (search (known, exact) depth 20) more_under

pub returns : goal.returns
returns c =
    let part : to_z w16 (of_z w16 c.rounded_half.result) ≡ rounded (pos 0 -ℤ c.args.cb *ℤ pos 14942) = got w16 c.rounded_half.type_inv (c.rounded_half.ensures ∙ search exact depth 20) in
    let more_under : Under 32384 (c.args.cb +ℤ rounded (pos 0 -ℤ c.args.cb *ℤ pos 14942)) = rw (blue_part c.args.cb) (rounded_under (c.args.cb *ℤ pos 50594) (search signed depth 20)) in
    let m = part in
    let u = under_more {N = 32768} more_under tt in
    c.toned.ensures ∙ ap clamp_u8 (search (known, exact) depth 20) ∙ blue_is c.args.y c.args.cb

pub overflow_cast-y : goal.overflow_cast-y
overflow_cast-y c = search signed depth 20

pub overflow_cast-cb : goal.overflow_cast-cb
overflow_cast-cb c = search signed depth 20

pub overflow_add-y : goal.overflow_add-y
overflow_add-y c = search signed depth 20

pub overflow_cast-cb-2 : goal.overflow_cast-cb-2
overflow_cast-cb-2 c = search signed depth 20

pub overflow_mul-cb : goal.overflow_mul-cb
overflow_mul-cb c = search signed depth 20

pub overflow_sub-cb : goal.overflow_sub-cb
overflow_sub-cb c = search signed depth 20

pub rounded_half-requires : goal.rounded_half-requires
rounded_half-requires c = search (within_of, signed) depth 20
