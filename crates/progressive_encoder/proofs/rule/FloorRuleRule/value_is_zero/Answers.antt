-- `progressive_encoder::rule::FloorRule::value_is_zero` meets its contract. Assumes nothing.
use mathlib.Core.Path.{◌≡◌, refl, ap, sym, ◌∙◌}
use mathlib.Core.Bool.{Bool, true, false}
use Prim.Native.Nat.{ℕ}
use lib.Dec.{eqb}
use lib.IntN.{ℤ}
use mir.Val.{to_z, of_z}
use mir.Syntax.{w16}
use mir.ValLaws.{to_z-of_z}
use borrow.Author.Tests.{eqb-true, eqb-false}
use Rattle.fixed.specs.Fixed.{floor_shift, is_zero}
use Rattle.fixed.proofs.Machine.{got}
use Rattle.progressive_encoder.specs.Encode.{srl_difference}
use Rattle.progressive_encoder.proofs.Rules.{same_floor, other_floor}
use Rattle.progressive_encoder.proofs.rule.FloorRuleRule.value_is_zero.Goals as goal

-- the floors, as the code has them, tell whether the value is 0
by_floors_lem : (q : ℕ) (c p : ℤ) (x y : ℤ) → to_z w16 (of_z w16 x) ≡ floor_shift c q → to_z w16 (of_z w16 y) ≡ floor_shift p q → x ≡ floor_shift c q → y ≡ floor_shift p q
    → (b : Bool) → eqb (of_z w16 x) (of_z w16 y) ≡ b → b ≡ is_zero (srl_difference q c p)
by_floors_lem q c p x y f g d e true h = sym (same_floor q c p (sym f ∙ ap (to_z w16) (eqb-true (of_z w16 x) (of_z w16 y) h) ∙ g))
by_floors_lem q c p x y f g d e false h = sym (other_floor q c p (λ z. eqb-false (of_z w16 x) (of_z w16 y) h (ap (of_z w16) (d ∙ z ∙ sym e))))

pub returns : goal.returns
returns c =
    let q = c.args.position in
    let a = c.shift_right_floor in
    let b = c.shift_right_floor-2 in
    let d = a.ensures ∙ ap (λ v. floor_shift v q) (to_z-of_z w16 c.args.c c.ranges.c) in
    let e = b.ensures ∙ ap (λ v. floor_shift v q) (to_z-of_z w16 c.args.p c.ranges.p) in
    by_floors_lem q c.args.c c.args.p a.result b.result (got w16 a.type_inv d) (got w16 b.type_inv e) d e _ refl
