-- `dwt_extrapolate::decode_block` meets its contract. Assumes nothing.
use mathlib.Core.Path.{refl}
use Prim.Native.Nat.{◌+◌, ◌*◌, ◌-◌}
use native.Mathlib.Omega.{arith}
use lib.ListN.{length}
use Rattle.dwt_extrapolate.proofs.Blocks.{block_scratch, block_cols}
use Rattle.dwt_extrapolate.proofs.decode_block.Goals as goal

pub returns : goal.returns
returns c =
    let a = c.args in
    let v = c.requires.halves in
    let r₁ = c.rows_of in
    let r₂ = c.rows_of-2 in
    let k = length r₁.new.dst - a.p * (a.p + a.q) in record {
      buffer_after = block_cols a.p a.q v a.buffer.now (omega arith) a.temp.now r₁.new.dst r₂.new.dst k r₁.ensures refl r₂.ensures c.idwt_cols.new.dst c.idwt_cols.ensures;
      temp_after = block_scratch a.p a.q v a.buffer.now (omega arith) a.temp.now r₁.new.dst r₂.new.dst k r₁.ensures refl r₂.ensures;
    }
