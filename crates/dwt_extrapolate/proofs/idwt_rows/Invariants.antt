-- `dwt_extrapolate::idwt_rows` meets its contract. Assumes nothing.
use mathlib.Core.Path.{◌≡◌}
use mathlib.Core.List.{◌++◌, flatten}
use Prim.Native.Nat.{◌*◌, ◌-◌}
use lib.ListN.{take, drop}
use Rattle.dwt_extrapolate.specs.Block.{lines}
use Rattle.dwt_extrapolate.proofs.idwt_rows.Given as goal

abbrev pub invariant-loop-m : goal.invariant-loop-m
invariant-loop-m l = record {
  kept : drop (l.m * l.w) l.dst ≡ drop (l.m * l.w) l.initial.dst;
  left : flatten (lines l.p l.q l.n l.low l.high) ≡ take (l.m * l.w) l.dst ++ flatten (lines l.p l.q (l.n - l.m) (drop (l.m * l.p) l.low) (drop (l.m * l.q) l.high));
}
