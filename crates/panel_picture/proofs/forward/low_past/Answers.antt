-- `panel_picture::forward::low_past` meets its contract. Assumes nothing.
use mathlib.Core.Path.{ap, ◌∙◌}
use mir.Syntax.{w16}
use Rattle.fixed.specs.Fixed.{wrap_i16}
use Rattle.fixed.proofs.Machine.{signed, exact, got}
use Rattle.panel_picture.specs.Forward.{low_past}
use Rattle.panel_picture.proofs.forward.low_past.Goals as goal

pub returns : goal.returns
unfolding low_past
returns c = got w16 c.t.type_inv (c.t.ensures ∙ ap wrap_i16 (search exact depth 20))

pub overflow_cast-y : goal.overflow_cast-y
overflow_cast-y c = search signed depth 20

pub overflow_mul-y : goal.overflow_mul-y
overflow_mul-y c = search signed depth 20

pub overflow_cast-x : goal.overflow_cast-x
overflow_cast-x c = search signed depth 20

pub overflow_sub-y : goal.overflow_sub-y
overflow_sub-y c = search signed depth 20
