-- `progressive_encoder::classes::zeros_of_eight` meets its contract. Assumes nothing.
use mathlib.Core.Path.{◌≡◌}
use Prim.Native.Nat.{◌+◌, ◌≤◌}
use native.Mathlib.Omega.{arith}
use Rattle.progressive_encoder.specs.Inner.{sum_from}
use Rattle.progressive_encoder.proofs.Classed.{sum_eight, sum_few}
use Rattle.progressive_encoder.proofs.classes.zeros_of_eight.Goals as goal

pub returns : goal.returns
returns c =
    let all : c.wide.result + c.wide-2.result + c.wide-3.result + c.wide-4.result + (c.wide-5.result + c.wide-6.result + c.wide-7.result + c.wide-8.result) ≡ sum_from c.args.classes.now c.args.i 8 = omega (arith, c.wide.ensures.0, c.wide-2.ensures.0, c.wide-3.ensures.0, c.wide-4.ensures.0, c.wide-5.ensures.0, c.wide-6.ensures.0, c.wide-7.ensures.0, c.wide-8.ensures.0, sum_eight c.args.classes.now c.args.i) in
    let few : sum_from c.args.classes.now c.args.i 8 ≤ 8 = sum_few c.args.classes.now c.args.i c.requires.1 in
    omega (arith, all, few)
