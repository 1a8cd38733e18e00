-- `dwt_lines::edge_sample` meets its contract. Assumes nothing.
use mathlib.Core.Path.{◌∙◌, ap}
use mir.Syntax.{w16}
use Rattle.fixed.specs.Fixed.{wrap_i16}
use Rattle.fixed.proofs.Machine.{exact, got}
use Rattle.dwt_lines.specs.Line.{edge}
use Rattle.dwt_lines.proofs.edge_sample.Goals as goal

pub returns : goal.returns
unfolding edge
returns c = got w16 c.t.type_inv (c.t.ensures ∙ ap wrap_i16 (search exact depth 20))
