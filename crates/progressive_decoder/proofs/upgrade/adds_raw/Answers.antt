-- `progressive_decoder::upgrade::adds_raw` meets its contract: outside the bottom the place's own sign decides. Assumes nothing.
use mathlib.Core.Path.{◌≡◌, sym, ap, ◌∙◌}
use mathlib.Core.Bool.{◌||◌}
use mir.Syntax.{w8}
use mir.Val.{to_z, of_z}
use mir.Facts.{to_z-of_z}
use Rattle.fixed.specs.Fixed.{is_one}
use Rattle.progressive_decoder.proofs.upgrade.adds_raw.Goals as goal

pub returns-else-t : goal.returns-else-t
returns-else-t c =
    let s = c.args.s in
    let one : c.is_positive_sign.result ≡ is_one (to_z w8 (of_z w8 s)) = c.is_positive_sign.ensures in
    one ∙ ap is_one (to_z-of_z c.ranges.s) ∙ sym (ap (λ b. b || is_one s) c.if-t.false)
