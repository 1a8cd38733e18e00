-- `bits::reader::top` meets its contract: two shifts are one. Assumes nothing.
use mathlib.Core.Path.{ap, ◌∙◌}
use Prim.Native.Nat.{ℕ, ◌-◌, ◌/◌, ◌^◌}
use native.Mathlib.Omega.{arith}
use lib.Pow.{shr-shr}
use Rattle.bits.proofs.reader.top.Goals as goal

pub returns : goal.returns
returns c = shr-shr c.args.a 1 (63 - c.args.count) ∙ ap (λ (k : ℕ). c.args.a / 2 ^ k) (omega arith)
