-- `color::red` meets its contract. Assumes nothing.
use mathlib.Core.Path.{◌∙◌, ap}
use Rattle.fixed.specs.Fixed.{clamp_u8}
use Rattle.fixed.proofs.Machine.{signed, exact}
use Rattle.color.proofs.Split.{red_whole}
use Rattle.color.proofs.red.Goals as goal

pub returns : goal.returns
returns c = c.clamp_u8.ensures ∙ ap clamp_u8 (search exact depth 20 fits 4000) ∙ red_whole c.args.y c.args.cr

pub overflow_cast-y : goal.overflow_cast-y
overflow_cast-y c = search signed depth 20

pub overflow_add-y : goal.overflow_add-y
overflow_add-y c = search signed depth 20

pub overflow_cast-cr : goal.overflow_cast-cr
overflow_cast-cr c = search signed depth 20

pub overflow_mul-cr : goal.overflow_mul-cr
overflow_mul-cr c = search signed depth 20

pub overflow_add-cr : goal.overflow_add-cr
overflow_add-cr c = search signed depth 20

pub overflow_add-y-2 : goal.overflow_add-y-2
overflow_add-y-2 c = search signed depth 20
