-- `progressive_decoder::split::eight_mask` meets its contract. Assumes nothing.
use Prim.Native.Nat.{◌+◌, ◌<◌}
use native.Mathlib.Omega.{arith}
use lib.IntN.{pos}
use Rattle.fixed.specs.Fixed.{is_zero}
use Rattle.places.proofs.Ones.{mask_not, mask_add}
use Rattle.progressive_decoder.proofs.split.eight_mask.Goals as goal

pub overflow_mul-result : goal.overflow_mul-result
overflow_mul-result c =
    let low : (c.four_mask.result < 16) × (c.four_mask-2.result < 16) = let a = c.args in
    (omega (arith, c.four_mask.ensures, mask_not is_zero (pos 0) a.sign.now 4 a.i), omega (arith, c.four_mask-2.ensures, mask_not is_zero (pos 0) a.sign.now 4 (a.i + 4))) in
    record { fits = omega (arith, low.1) }

pub overflow_add-result : goal.overflow_add-result
overflow_add-result c =
    let low : (c.four_mask.result < 16) × (c.four_mask-2.result < 16) = let a = c.args in
    (omega (arith, c.four_mask.ensures, mask_not is_zero (pos 0) a.sign.now 4 a.i), omega (arith, c.four_mask-2.ensures, mask_not is_zero (pos 0) a.sign.now 4 (a.i + 4))) in
    record { fits = omega (arith, low.0, low.1) }

pub returns : goal.returns
returns c =
    let low : (c.four_mask.result < 16) × (c.four_mask-2.result < 16) = let a = c.args in
    (omega (arith, c.four_mask.ensures, mask_not is_zero (pos 0) a.sign.now 4 a.i), omega (arith, c.four_mask-2.ensures, mask_not is_zero (pos 0) a.sign.now 4 (a.i + 4))) in
    let a = c.args in
    (omega (arith, c.four_mask.ensures, c.four_mask-2.ensures, mask_add is_zero (pos 0) a.sign.now 4 4 a.i), omega (arith, low.0, low.1))
