-- `progressive_encoder::rule::SymmetricRule::value_is_zero` meets its contract. Assumes nothing.
use mathlib.Core.Path.{refl, ap, sym, ◌∙◌}
use Prim.Native.Nat.{◌/◌, ◌^◌}
use lib.IntN.{nat_abs, ◌-ℤ◌}
use mir.Syntax.{w16}
use mir.ValLaws.{to_z-of_z}
use Rattle.fixed.specs.Fixed.{is_negative}
use Rattle.progressive_encoder.specs.Encode.{cut_difference}
use Rattle.progressive_encoder.proofs.Rules.{abs_signed, by_magnitude}
use Rattle.progressive_encoder.proofs.rule.SymmetricRuleRule.value_is_zero.Goals as goal

pub returns : goal.returns
returns c =
    let a = c.args in
    let q = a.position in
    let n = ap (λ n. n / 2 ^ q) (c.distance.ensures ∙ (λ i. nat_abs (to_z-of_z w16 a.c c.ranges.c i -ℤ to_z-of_z w16 a.p c.ranges.p i))) ∙ sym (abs_signed (is_negative (a.c -ℤ a.p)) (nat_abs (a.c -ℤ a.p) / 2 ^ q)) in
    by_magnitude (cut_difference q a.c a.p) _ n _ refl
