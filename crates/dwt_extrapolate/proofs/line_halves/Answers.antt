-- `dwt_extrapolate::line_halves` meets its contract. Assumes nothing.
use mathlib.Core.Path.{◌≡◌}
use native.Mathlib.Omega.{arith}
use lib.ListN.{length, drop, length-drop}
use Rattle.dwt_extrapolate.specs.Block.{block_at}
use Rattle.dwt_extrapolate.specs.Transform.{inner}
use Rattle.dwt_extrapolate.proofs.Blocks.{block_lines, makes_lines}
use Rattle.dwt_extrapolate.proofs.Lengths.{block_at_length, inner_length}
use Rattle.dwt_extrapolate.proofs.line_halves.Goals as goal

pub returns : goal.returns
returns c = record {
  first = λ b n. block_lines _ _ (makes_lines tt) (drop 3807 b) (simp length-drop (omega arith));
  second = λ b n.
      let e : length (block_at 3807 9 8 b) ≡ length b = block_at_length 3807 9 8 b (omega arith) in
      block_lines _ _ (makes_lines tt) (drop 3007 (block_at 3807 9 8 b)) (simp length-drop (omega arith));
  third = λ b n.
      let e : length (inner b) ≡ length b = inner_length b n in
      block_lines _ _ (makes_lines tt) (inner b) (omega arith);
}
