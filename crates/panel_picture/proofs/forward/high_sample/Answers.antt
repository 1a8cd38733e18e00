-- `panel_picture::forward::high_sample` meets its contract. Assumes nothing.
use mathlib.Core.Path.{◌≡◌, refl, ap, ◌∙◌}
use lib.IntN.{ℤ, ◌+ℤ◌, ◌-ℤ◌}
use mir.Syntax.{w16}
use Rattle.fixed.specs.Fixed.{wrap_i16, half_toward_zero}
use Rattle.fixed.proofs.Machine.{signed, exact, got}
use Rattle.panel_picture.specs.Forward.{high}
use Rattle.panel_picture.proofs.forward.high_sample.Goals as goal

-- the definition, which the search keeps shut
high_is : (x y z : ℤ) → wrap_i16 (half_toward_zero (y -ℤ half_toward_zero (x +ℤ z))) ≡ high x y z
unfolding high
high_is x y z = refl

pub returns : goal.returns
returns c = got w16 c.t.type_inv (c.t.ensures ∙ ap wrap_i16 (search exact depth 20) ∙ high_is c.args.x c.args.y c.args.z)

pub overflow_cast-y : goal.overflow_cast-y
overflow_cast-y c = search signed depth 20

pub overflow_cast-x : goal.overflow_cast-x
overflow_cast-x c = search signed depth 20

pub overflow_cast-z : goal.overflow_cast-z
overflow_cast-z c = search signed depth 20

pub overflow_add-x : goal.overflow_add-x
overflow_add-x c = search signed depth 20

pub nonzero_div-x : goal.nonzero_div-x
nonzero_div-x c = search signed depth 20

pub overflow_sub-y : goal.overflow_sub-y
overflow_sub-y c = search signed depth 20

pub nonzero_div-y : goal.nonzero_div-y
nonzero_div-y c = search signed depth 20
