-- `fixed::sub_scaled` meets its contract. Assumes nothing.
use mathlib.Core.Path.{◌≡◌, ◌∙◌, ap}
use lib.IntN.{pos, ◌-ℤ◌}
use mir.Facts.{to_z-of_z}
use mir.Syntax.{w16, w32}
use borrow.Author.Rules.{rules}
use Rattle.fixed.specs.Fixed.{clamp_i16}
use Rattle.fixed.specs.Inner.{step}
use Rattle.fixed.proofs.Bounds.{Under}
use Rattle.fixed.proofs.Machine.{exact, fits_eq, known, got}
use Rattle.fixed.proofs.Scaled.{sub_under, step_small, step_sub}
use Rattle.fixed.proofs.sub_scaled.Goals as goal

pub overflow_sub-from : goal.overflow_sub-from
overflow_sub-from c =
    let a = c.args in
    let from : c.from.result ≡ a.coefficient = c.from.ensures ∙ to_z-of_z c.ranges.coefficient in
    let under : Under 2147483648 (a.coefficient -ℤ pos (step a.magnitude a.shift)) = sub_under a.coefficient _ c.ranges.coefficient.sfits (step_small a.magnitude a.shift (search rules)) in
    fits_eq w32 (search (from, exact) depth 20) under

pub returns : goal.returns
returns c =
    let a = c.args in
    let from : c.from.result ≡ a.coefficient = c.from.ensures ∙ to_z-of_z c.ranges.coefficient in
    let under : Under 2147483648 (a.coefficient -ℤ pos (step a.magnitude a.shift)) = sub_under a.coefficient _ c.ranges.coefficient.sfits (step_small a.magnitude a.shift (search rules)) in
    got w16 c.clamp_i16.type_inv
    (c.clamp_i16.ensures ∙ ap clamp_i16 (search (from, under, known, exact) depth 20) ∙ step_sub a.coefficient _ _ c.ranges.coefficient.sfits)
