-- `dwt_lines::odd_sample` meets its contract. Assumes nothing.
use mathlib.Core.Path.{◌≡◌, refl, ◌∙◌, ap}
use lib.IntN.{ℤ, pos, ◌+ℤ◌, ◌*ℤ◌}
use mir.Syntax.{w16}
use Rattle.fixed.specs.Fixed.{wrap_i16, half_toward_zero}
use Rattle.fixed.proofs.Machine.{exact, got}
use Rattle.dwt_lines.specs.Line.{odd}
use Rattle.dwt_lines.proofs.odd_sample.Goals as goal

-- the definition, which the search keeps shut
odd_is : (x y h : ℤ) → wrap_i16 (half_toward_zero (x +ℤ y) +ℤ pos 2 *ℤ h) ≡ odd x y h
unfolding odd
odd_is x y h = refl

pub returns : goal.returns
returns c = got w16 c.t.type_inv (c.t.ensures ∙ ap wrap_i16 (search exact depth 20) ∙ odd_is c.args.x c.args.y c.args.h)
