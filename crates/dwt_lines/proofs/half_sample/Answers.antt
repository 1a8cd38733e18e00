-- `dwt_lines::half_sample` meets its contract. Assumes nothing.
use mathlib.Core.Path.{◌≡◌, ◌∙◌, ap}
use lib.IntN.{◌-ℤ◌}
use mir.Facts.{to_z-of_z}
use mir.Syntax.{w16, w32}
use mir.Val.{SFits, to_z, of_z}
use Rattle.fixed.specs.Fixed.{wrap_i16, half_toward_zero}
use Rattle.fixed.proofs.Machine.{signed, exact, got}
use Rattle.dwt_lines.specs.Line.{half}
use Rattle.dwt_lines.proofs.half_sample.Goals as goal

pub returns : goal.returns
unfolding half
returns c =
    let a = c.args in
    let f = c.ranges in
    let l : SFits w32 a.l = search signed depth 20 in
    let h : SFits w32 a.h = search signed depth 20 in
    let computed : c.t.result ≡ wrap_i16 (to_z w32 (of_z w32 (a.l -ℤ to_z w32 (of_z w32 (half_toward_zero a.h)))))
    = simp (to_z-of_z, f.l, f.h, l, h) at c.t.ensures in
    got w16 c.t.type_inv (computed ∙ ap wrap_i16 (search exact depth 20))
