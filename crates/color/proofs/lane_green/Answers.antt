-- `color::lane_green` meets its contract. Assumes nothing.
use mathlib.Core.Path.{◌≡◌, ◌∙◌, ap}
use lib.IntN.{pos, ◌-ℤ◌, ◌*ℤ◌}
use mir.Syntax.{w16}
use mir.Val.{to_z, of_z}
use Rattle.fixed.specs.Fixed.{clamp_u8}
use Rattle.fixed.proofs.Bounds.{Under, under_more}
use Rattle.fixed.proofs.Machine.{signed, exact, known, fits_eq, got}
use Rattle.color.specs.Color.{rounded}
use Rattle.color.proofs.HalfWords.{rounded_under}
use Rattle.color.proofs.Late.{minus_under, within_of, within_eq}
use Rattle.color.proofs.Split.{green_is}
use Rattle.color.proofs.lane_green.Goals as goal

pub overflow_sub-rounded_half : goal.overflow_sub-rounded_half
overflow_sub-rounded_half c =
    let part : to_z w16 (of_z w16 c.rounded_half.result) ≡ rounded (c.args.cb *ℤ pos 22554 -ℤ c.args.cr *ℤ pos 18734) = got w16 c.rounded_half.type_inv (c.rounded_half.ensures ∙ search exact depth 20) in
    let less_under : Under 32384 (pos 0 -ℤ rounded (c.args.cb *ℤ pos 22554 -ℤ c.args.cr *ℤ pos 18734)) = let p = c.args.cb *ℤ pos 22554 -ℤ c.args.cr *ℤ pos 18734 in
    minus_under {N = 32383} (rounded p) (rounded_under p (search signed depth 20)) in
    let m = part in fits_eq w16 (search exact depth 20) (under_more less_under tt)

pub toned-requires : goal.toned-requires
toned-requires c =
    let part : to_z w16 (of_z w16 c.rounded_half.result) ≡ rounded (c.args.cb *ℤ pos 22554 -ℤ c.args.cr *ℤ pos 18734) = got w16 c.rounded_half.type_inv (c.rounded_half.ensures ∙ search exact depth 20) in
    let less_under : Under 32384 (pos 0 -ℤ rounded (c.args.cb *ℤ pos 22554 -ℤ c.args.cr *ℤ pos 18734)) = let p = c.args.cb *ℤ pos 22554 -ℤ c.args.cr *ℤ pos 18734 in
    minus_under {N = 32383} (rounded p) (rounded_under p (search signed depth 20)) in
    let m = part in
    let u = under_more {N = 32768} less_under tt in
    within_eq (search (known, exact) depth 20) less_under

pub returns : goal.returns
returns c =
    let part : to_z w16 (of_z w16 c.rounded_half.result) ≡ rounded (c.args.cb *ℤ pos 22554 -ℤ c.args.cr *ℤ pos 18734) = got w16 c.rounded_half.type_inv (c.rounded_half.ensures ∙ search exact depth 20) in
    let less_under : Under 32384 (pos 0 -ℤ rounded (c.args.cb *ℤ pos 22554 -ℤ c.args.cr *ℤ pos 18734)) = let p = c.args.cb *ℤ pos 22554 -ℤ c.args.cr *ℤ pos 18734 in
    minus_under {N = 32383} (rounded p) (rounded_under p (search signed depth 20)) in
    let m = part in
    let u = under_more {N = 32768} less_under tt in
    c.toned.ensures ∙ ap clamp_u8 (search (known, exact) depth 20) ∙ green_is c.args.y c.args.cb c.args.cr

pub overflow_cast-y : goal.overflow_cast-y
overflow_cast-y c = search signed depth 20

pub overflow_cast-cr : goal.overflow_cast-cr
overflow_cast-cr c = search signed depth 20

pub overflow_sub-y : goal.overflow_sub-y
overflow_sub-y c = search signed depth 20

pub overflow_cast-cb : goal.overflow_cast-cb
overflow_cast-cb c = search signed depth 20

pub overflow_mul-cb : goal.overflow_mul-cb
overflow_mul-cb c = search signed depth 20

pub overflow_cast-cr-2 : goal.overflow_cast-cr-2
overflow_cast-cr-2 c = search signed depth 20

pub overflow_mul-cr : goal.overflow_mul-cr
overflow_mul-cr c = search signed depth 20

pub overflow_sub-cb : goal.overflow_sub-cb
overflow_sub-cb c = search signed depth 20

pub rounded_half-requires : goal.rounded_half-requires
rounded_half-requires c = search (within_of, signed) depth 20
