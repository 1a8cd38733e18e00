-- `color::toned` meets its contract. Assumes nothing.
use mathlib.Core.Path.{◌∙◌, ap}
use lib.IntN.{pos, ◌+ℤ◌}
use mir.Syntax.{w16, w32}
use Rattle.fixed.specs.Fixed.{clamp_u8, clamp_i16}
use Rattle.fixed.proofs.Bounds.{Under, under_more, under_add}
use Rattle.fixed.proofs.Machine.{signed, exact, known, fits_eq, mag_under}
use Rattle.color.proofs.Late.{late, byte_clamped, more_under}
use Rattle.color.proofs.toned.Goals as goal

pub overflow_add-m : goal.overflow_add-m
overflow_add-m c =
    let more : Under 32512 (c.args.m +ℤ pos 128) = more_under c.args.m c.requires.within in
    fits_eq w16 (search exact depth 20) (under_more more tt)

pub overflow_cast-m : goal.overflow_cast-m
overflow_cast-m c =
    let more : Under 32512 (c.args.m +ℤ pos 128) = more_under c.args.m c.requires.within in
    let u : Under 32768 (c.args.m +ℤ pos 128) = under_more more tt in
    fits_eq w32 (search (known, exact) depth 20) (under_more u tt)

pub overflow_add-clamp_i16 : goal.overflow_add-clamp_i16
overflow_add-clamp_i16 c =
    let more : Under 32512 (c.args.m +ℤ pos 128) = more_under c.args.m c.requires.within in
    let sum : Under 2147483648 (c.clamp_i16.result +ℤ (c.args.m +ℤ pos 128)) = under_add {x = c.clamp_i16.result} (mag_under 32768 c.clamp_i16.type_inv tt) (under_more more tt) in
    let u : Under 32768 (c.args.m +ℤ pos 128) = under_more more tt in
    fits_eq w32 (search (known, exact) depth 20) sum

pub returns : goal.returns
returns c =
    let more : Under 32512 (c.args.m +ℤ pos 128) = more_under c.args.m c.requires.within in
    let sum : Under 2147483648 (c.clamp_i16.result +ℤ (c.args.m +ℤ pos 128)) = under_add {x = c.clamp_i16.result} (mag_under 32768 c.clamp_i16.type_inv tt) (under_more more tt) in
    let u : Under 32768 (c.args.m +ℤ pos 128) = under_more more tt in
    let v = sum in
    c.clamp_u8.ensures
    ∙ ap clamp_u8 (search exact depth 20 ∙ c.clamp_i16-2.ensures)
    ∙ byte_clamped _
    ∙ ap clamp_u8 (search (known, exact) depth 20)
    ∙ ap (λ z. clamp_u8 (z +ℤ (c.args.m +ℤ pos 128))) (c.clamp_i16.ensures ∙ ap clamp_i16 (search exact depth 20))
    ∙ late c.args.a (c.args.m +ℤ pos 128) more.under

pub overflow_cast-clamp_i16 : goal.overflow_cast-clamp_i16
overflow_cast-clamp_i16 c = search signed depth 20

pub overflow_cast-clamp_i16-2 : goal.overflow_cast-clamp_i16-2
overflow_cast-clamp_i16-2 c = search signed depth 20
