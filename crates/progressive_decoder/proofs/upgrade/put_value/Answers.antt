-- `progressive_decoder::upgrade::put_value` meets its contract. Assumes nothing.
use mathlib.Core.Path.{ap, ◌∙◌}
use mathlib.Core.Bool.{not}
use lib.IntN.{pos}
use lib.ListN.{get_or, set}
use mir.Syntax.{w8, w16}
use mir.ValLaws.{to_z-of_z}
use Rattle.fixed.proofs.Machine.{got}
use Rattle.progressive_decoder.specs.Upgrade.{raw_coefficient}
use Rattle.progressive_decoder.proofs.upgrade.put_value.Goals as goal

pub returns : goal.returns
returns c =
    let a = c.args in
    let v = a.v in
    let x = get_or a.coefficients.now a.i (pos 0) in
    let same = to_z-of_z w16 x (record { sfits = c.moved-arg-1.given }) in
    let moved = c.moved in (
      ap (set a.coefficients.now a.i) (got w16 moved.type_inv (moved.ensures ∙ ap (raw_coefficient (not v.negative) a.position v.magnitude) same)),
      ap (set a.sign.now a.i) (got w8 c.sign_by.type_inv c.sign_by.ensures),
    )
