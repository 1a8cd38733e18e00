-- `dwt_lines::mean_sample` meets its contract. Assumes nothing.
use mathlib.Core.Path.{◌∙◌, ap}
use mir.Syntax.{w16}
use Rattle.fixed.specs.Fixed.{wrap_i16}
use Rattle.fixed.proofs.Machine.{exact, got}
use Rattle.dwt_lines.specs.Line.{mean}
use Rattle.dwt_lines.proofs.mean_sample.Goals as goal

pub returns : goal.returns
unfolding mean
returns c = got w16 c.t.type_inv (c.t.ensures ∙ ap wrap_i16 (search exact depth 20))
