-- `panel_picture::forward::low_edge` meets its contract. Assumes nothing.
use mathlib.Core.Path.{ap, ◌∙◌}
use mir.Syntax.{w16}
use Rattle.fixed.specs.Fixed.{wrap_i16}
use Rattle.fixed.proofs.Machine.{signed, exact, got}
use Rattle.panel_picture.specs.Forward.{low_edge}
use Rattle.panel_picture.proofs.forward.low_edge.Goals as goal

pub returns : goal.returns
unfolding low_edge
returns c = got w16 c.t.type_inv (c.t.ensures ∙ ap wrap_i16 (search exact depth 20))

pub overflow_cast-x : goal.overflow_cast-x
overflow_cast-x c = search signed depth 20

pub overflow_cast-h : goal.overflow_cast-h
overflow_cast-h c = search signed depth 20

pub overflow_add-x : goal.overflow_add-x
overflow_add-x c = search signed depth 20
