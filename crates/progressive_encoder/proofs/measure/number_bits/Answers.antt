-- `progressive_encoder::measure::number_bits` meets its contract: after each turn the numbers so far are measured. Assumes nothing.
use mathlib.Core.Path.{refl, sym, ◌∙◌}
use Prim.Native.Nat.{◌+◌}
use native.Mathlib.Omega.{arith}
use Rattle.progressive_encoder.specs.Inner.{number_bits}
use Rattle.progressive_encoder.proofs.StreamLengths.{number_length}
use Rattle.progressive_encoder.proofs.measure.number_bits.Goals as goal

pub loop-x-init : goal.loop-x-init
unfolding number_bits
loop-x-init c = (refl, omega arith)

pub loop-x-preserved : goal.loop-x-preserved
loop-x-preserved c =
    let l = c.loop-x in
    ((λ i. l.invariant.0 i + c.width_of.ensures i) ∙ sym (number_length c.args.raws.now l.x-index c.loop-x-test.true), omega (arith, l.invariant.1, c.width_of.type_inv))
