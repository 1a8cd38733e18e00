-- `pixels::samples_at` meets its contract. Assumes nothing.
use mathlib.Core.Path.{◌≡◌}
use Prim.Native.Nat.{◌+◌, ◌-◌, ◌*◌}
use native.Mathlib.Omega.{arith}
use Rattle.pixels.proofs.Sampled.{samples_put}
use Rattle.pixels.proofs.samples_at.Goals as goal

pub returns : goal.returns
returns c =
    let a = c.args in
    let whole : a.k * 4096 + 4096 - a.k * 4096 ≡ 4096 = omega arith in
    samples_put a.quants _ a.k (a.k * 4096 + 4096 - a.k * 4096) a.coefficients.now _ whole c.row_at-quant.ensures c.component_samples.ensures
