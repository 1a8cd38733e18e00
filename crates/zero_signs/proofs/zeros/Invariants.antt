-- `zero_signs::zeros` meets its contract. Assumes nothing.
use mathlib.Core.Path.{◌≡◌}
use Prim.Native.Nat.{◌+◌, ◌≤◌}
use lib.ListN.{length}
use Rattle.std.specs.Slice.Iter.{chunks_rest, chunks_size}
use Rattle.zero_signs.specs.ZeroSigns.{zeros_in}
use Rattle.zero_signs.proofs.zeros.Given as goal

-- with those that are left there are as many as in all
abbrev pub invariant-loop-part : goal.invariant-loop-part
invariant-loop-part l = record {
  size : chunks_size l.part-iterator ≡ 128;
  most : l.n + length (chunks_rest l.part-iterator) ≤ length l.signs;
  all : l.n + zeros_in (chunks_rest l.part-iterator) ≡ zeros_in l.signs;
}
