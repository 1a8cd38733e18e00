-- `dwt_extrapolate::decode_blocks` meets its contract. Assumes nothing.
use mathlib.Core.Path.{◌≡◌, refl}
use Prim.Native.Nat.{◌-◌}
use native.Mathlib.Omega.{arith}
use lib.ListN.{length}
use Rattle.dwt_columns.specs.Inner.{put_part}
use Rattle.dwt_extrapolate.proofs.Blocks.{makes_lines, three_blocks}
use Rattle.dwt_extrapolate.proofs.decode_blocks.Goals as goal

-- each block makes lines
pub decode_block-requires-clause-halves : goal.decode_block-requires-clause-halves
decode_block-requires-clause-halves c = makes_lines tt

pub decode_block-requires-2-clause-halves : goal.decode_block-requires-2-clause-halves
decode_block-requires-2-clause-halves c = makes_lines tt

pub decode_block-requires-3-clause-halves : goal.decode_block-requires-3-clause-halves
decode_block-requires-3-clause-halves c = makes_lines tt

pub returns : goal.returns
returns c =
    let B = c.args.buffer.now in
    let T = c.args.temp.now in
    let d₃ = c.decode_block in
    let d₂ = c.decode_block-2 in
    let d₁ = c.decode_block-3 in
    let k₃ = length B - 3807 in
    let k₂ = length (put_part 3807 k₃ B d₃.new.buffer) - 3007 in
    let given : length (put_part 3807 k₃ B d₃.new.buffer) ≡ length B = omega arith in
    let r = three_blocks B T d₃.new.buffer d₃.new.temp d₂.new.buffer d₂.new.temp d₁.new.buffer d₁.new.temp k₃ k₂ refl refl c.requires.0 given d₃.ensures.buffer_after d₂.ensures.buffer_after d₁.ensures.buffer_after d₃.ensures.temp_after d₂.ensures.temp_after d₁.ensures.temp_after in
    record { buffer_after = r.0; temp_after = r.1 }
