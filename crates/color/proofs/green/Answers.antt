-- `color::green` meets its contract. Assumes nothing.
use mathlib.Core.Path.{◌≡◌, ◌∙◌, ap}
use lib.IntN.{pos, ◌+ℤ◌, ◌-ℤ◌, ◌*ℤ◌}
use mir.Facts.{to_z-of_z}
use mir.Syntax.{w64}
use mir.Val.{SFits, to_z, of_z}
use Rattle.fixed.specs.Fixed.{clamp_u8}
use Rattle.fixed.proofs.Machine.{signed}
use Rattle.color.specs.Color.{rounded}
use Rattle.color.proofs.Split.{green_whole}
use Rattle.color.proofs.green.Goals as goal

pub returns : goal.returns
returns c =
    let a = c.args in
    let f = c.ranges in
    let y : SFits w64 a.y = search signed depth 20 in
    let b : SFits w64 a.cb = search signed depth 20 in
    let r : SFits w64 a.cr = search signed depth 20 in
    let light : SFits w64 (a.y +ℤ pos 128) = search signed depth 20 in
    let bs : SFits w64 (a.cb *ℤ pos 22554) = search signed depth 20 in
    let rs : SFits w64 (a.cr *ℤ pos 46802) = search signed depth 20 in
    let sum : SFits w64 (a.cb *ℤ pos 22554 +ℤ a.cr *ℤ pos 46802) = search signed depth 20 in
    let more : SFits w64 (a.cb *ℤ pos 22554 +ℤ a.cr *ℤ pos 46802 +ℤ pos 32768) = search signed depth 20 in
    let part : SFits w64 (rounded (a.cb *ℤ pos 22554 +ℤ a.cr *ℤ pos 46802)) = search signed depth 20 in
    let computed : c.clamp_u8.result ≡ clamp_u8 (to_z w64 (of_z w64 (a.y +ℤ pos 128 -ℤ rounded (a.cb *ℤ pos 22554 +ℤ a.cr *ℤ pos 46802))))
    = simp (to_z-of_z, f.y, f.cb, f.cr, y, b, r, light, bs, rs, sum, more, part) at c.clamp_u8.ensures in
    computed ∙ ap clamp_u8 (to_z-of_z {w = w64} (search signed depth 20)) ∙ green_whole a.y a.cb a.cr

pub overflow_cast-y : goal.overflow_cast-y
overflow_cast-y c = search signed depth 20

pub overflow_add-y : goal.overflow_add-y
overflow_add-y c = search signed depth 20

pub overflow_cast-cb : goal.overflow_cast-cb
overflow_cast-cb c = search signed depth 20

pub overflow_mul-cb : goal.overflow_mul-cb
overflow_mul-cb c = search signed depth 20

pub overflow_cast-cr : goal.overflow_cast-cr
overflow_cast-cr c = search signed depth 20

pub overflow_mul-cr : goal.overflow_mul-cr
overflow_mul-cr c = search signed depth 20

pub overflow_add-cb : goal.overflow_add-cb
overflow_add-cb c = search signed depth 20

pub overflow_add-cb-2 : goal.overflow_add-cb-2
overflow_add-cb-2 c = search signed depth 20

pub overflow_sub-y : goal.overflow_sub-y
overflow_sub-y c = search signed depth 20
