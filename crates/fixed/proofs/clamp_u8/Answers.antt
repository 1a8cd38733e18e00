-- `fixed::clamp_u8` meets its contract. Assumes nothing.
use mathlib.Core.Path.{◌≡◌, ◌∙◌, ap}
use mir.Facts.{to_z-of_z}
use mir.Syntax.{w64}
use lib.IntN.{pos, nat_abs}
use Rattle.std.specs.Int.{int_max, int_min}
use Rattle.fixed.specs.Fixed.{clamp_u8}
use Rattle.fixed.proofs.Clamp.{byte_is, byte_under}
use Rattle.fixed.proofs.Machine.{known}
use Rattle.fixed.proofs.clamp_u8.Goals as goal

pub returns : goal.returns
returns c =
    let v = c.args.value in
    let is : c.clamp.result ≡ pos (clamp_u8 v) = c.clamp.ensures.value ∙ ap (λ z. int_max (pos 0) (int_min z (pos 255))) (to_z-of_z c.ranges.value) ∙ byte_is v in
    ap nat_abs (known w64 _ _ is (byte_under v))
