-- `srl_encoder::encoder::stop_count` meets its contract: a magnitude below the maximum is ended by a bit 1. Assumes nothing.
use mathlib.Core.Path.{ap, sym}
use mathlib.Core.Bool.{cond}
use Prim.Native.Nat.{◌-◌, ◌^◌, ◌<◌}
use native.Mathlib.Omega.{arith}
use borrow.Author.Tests.{lt-ltb}
use Rattle.srl_rules.proofs.Widths.{pow_low}
use Rattle.srl_encoder.proofs.encoder.stop_count.Goals as goal

pub returns-then-m-max_magnitude : goal.returns-then-m-max_magnitude
returns-then-m-max_magnitude c =
    let a = c.args in
    let j : a.m < 2 ^ a.num_bits - 1 = omega (arith, c.if-m-max_magnitude.true, c.max_magnitude.ensures, pow_low a.num_bits c.requires) in
    sym (ap (λ b. cond b 1 0) (lt-ltb _ _ j))
