-- `fixed::sign_of` meets its contract. Assumes nothing.
use mathlib.Core.Path.{◌≡◌, ◌∙◌, ap}
use mir.Facts.{to_z-of_z}
use native.Mathlib.Omega.{arith}
use Rattle.std.specs.Int.{int_signum}
use Rattle.std.proofs.lemmas.Int.{ints, clamps}
use Rattle.fixed.specs.Fixed.{sign_of}
use Rattle.fixed.proofs.Sign.{signum_is}
use Rattle.fixed.proofs.sign_of.Goals as goal

pub returns : goal.returns
returns c =
    let v = c.args.value in
    let is : c.signum.result ≡ sign_of v = c.signum.ensures.value ∙ ap int_signum (to_z-of_z c.ranges.value) ∙ signum_is v in
    omega (arith, ints, clamps)
