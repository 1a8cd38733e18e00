-- `panel_picture::cut::toward_zero` meets its contract. Assumes nothing.
use mathlib.Core.Path.{◌≡◌, ap, ◌∙◌}
use mathlib.Core.Bool.{Bool}
use native.Mathlib.Nat.{mod-le}
use lib.IntN.{ℤ, nat_abs}
use lib.Signed.{mag}
use mir.Syntax.{w16}
use mir.Val.{to_z, of_z}
use Rattle.std.proofs.Common.{arith, ℕ, ◌%◌, ◌-◌, ◌<◌, ◌^◌}
use Rattle.fixed.specs.Fixed.{clamp_i16, is_negative, with_sign}
use Rattle.fixed.specs.Cut.{toward_zero}
use Rattle.fixed.proofs.Cuts.{toward_clamped}
use Rattle.fixed.proofs.Machine.{exact, got}
use Rattle.panel_picture.proofs.cut.toward_zero.Goals as goal

-- from what the calls say
cut_is : (z : ℤ) (k m l : ℕ) (b : Bool) → mag z < 32768 → b ≡ is_negative z → m ≡ nat_abs z → l ≡ m % 2 ^ k → clamp_i16 (with_sign b (m - l)) ≡ toward_zero k z
cut_is z k m l b h e f g = rw (e, g, f) (toward_clamped k z h)

pub overflow_sub-magnitude : goal.overflow_sub-magnitude
overflow_sub-magnitude c = omega (arith, mod-le c.magnitude-magnitude.result (2 ^ c.args.position))

pub returns : goal.returns
returns c =
    let k = c.args.position in
    let z = c.args.value in
    let v : ℤ = to_z w16 (of_z w16 z) in
    let e : v ≡ z = search exact depth 20 in
    let h : mag v < 32768 = rw e c.ranges.value.sfits in
    got
    w16
    c.with_sign.type_inv
    (c.with_sign.ensures
    ∙ cut_is v k c.magnitude-magnitude.result c.low_bits.result c.is_negative.result h c.is_negative.ensures c.magnitude-magnitude.ensures c.low_bits.ensures
    ∙ ap (toward_zero k) e)
