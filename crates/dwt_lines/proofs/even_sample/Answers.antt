-- `dwt_lines::even_sample` meets its contract. Assumes nothing.
use mathlib.Core.Path.{◌≡◌, ◌∙◌, ap}
use lib.IntN.{◌+ℤ◌, ◌-ℤ◌}
use mir.Facts.{to_z-of_z}
use mir.Syntax.{w16, w32}
use mir.Val.{SFits, to_z, of_z}
use Rattle.fixed.specs.Fixed.{wrap_i16, half_toward_zero}
use Rattle.fixed.proofs.Machine.{signed, exact, got}
use Rattle.dwt_lines.specs.Line.{even}
use Rattle.dwt_lines.proofs.even_sample.Goals as goal

pub returns : goal.returns
unfolding even
returns c =
    let a = c.args in
    let f = c.ranges in
    let l : SFits w32 a.l = search signed depth 20 in
    let h : SFits w32 a.h = search signed depth 20 in
    let k : SFits w32 a.k = search signed depth 20 in
    let sum : SFits w32 (a.h +ℤ a.k) = search signed depth 20 in
    let computed : c.t.result ≡ wrap_i16 (to_z w32 (of_z w32 (a.l -ℤ to_z w32 (of_z w32 (half_toward_zero (a.h +ℤ a.k))))))
    = simp (to_z-of_z, f.l, f.h, f.k, l, h, k, sum) at c.t.ensures in
    got w16 c.t.type_inv (computed ∙ ap wrap_i16 (search exact depth 20))
