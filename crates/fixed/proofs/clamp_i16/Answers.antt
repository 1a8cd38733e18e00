-- `fixed::clamp_i16` meets its contract. Assumes nothing.
use mathlib.Core.Path.{◌≡◌, ◌∙◌, ap}
use mir.Facts.{to_z-of_z}
use mir.Syntax.{w16, w32}
use lib.IntN.{pos, negsuc}
use Rattle.std.specs.Int.{int_max, int_min}
use Rattle.fixed.specs.Fixed.{clamp_i16}
use Rattle.fixed.proofs.Clamp.{clamp_is, clamp_under}
use Rattle.fixed.proofs.Bounds.{under_more}
use Rattle.fixed.proofs.Machine.{known}
use Rattle.fixed.proofs.clamp_i16.Goals as goal

pub returns : goal.returns
returns c =
    let v = c.args.value in
    let is : c.clamp.result ≡ clamp_i16 v = c.clamp.ensures.value ∙ ap (λ z. int_max (negsuc 32767) (int_min z (pos 32767))) (to_z-of_z c.ranges.value) ∙ clamp_is v in
    let wide = known w32 _ _ is (under_more (clamp_under v) tt) in
    known w16 _ _ wide (clamp_under v)
