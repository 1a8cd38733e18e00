-- `color::blue` meets its contract. Assumes nothing.
use mathlib.Core.Path.{◌∙◌, ap}
use Rattle.fixed.specs.Fixed.{clamp_u8}
use Rattle.fixed.proofs.Machine.{signed, exact}
use Rattle.color.proofs.Split.{blue_whole}
use Rattle.color.proofs.blue.Goals as goal

pub returns : goal.returns
returns c = c.clamp_u8.ensures ∙ ap clamp_u8 (search exact depth 20 fits 4000) ∙ blue_whole c.args.y c.args.cb

pub overflow_cast-y : goal.overflow_cast-y
overflow_cast-y c = search signed depth 20

pub overflow_add-y : goal.overflow_add-y
overflow_add-y c = search signed depth 20

pub overflow_cast-cb : goal.overflow_cast-cb
overflow_cast-cb c = search signed depth 20

pub overflow_mul-cb : goal.overflow_mul-cb
overflow_mul-cb c = search signed depth 20

pub overflow_add-cb : goal.overflow_add-cb
overflow_add-cb c = search signed depth 20

pub overflow_add-y-2 : goal.overflow_add-y-2
overflow_add-y-2 c = search signed depth 20
