-- `zero_signs::count_component` meets its contract. Assumes nothing.
use mathlib.Core.Path.{◌≡◌}
use Prim.Native.Nat.{ℕ, ◌<◌}
use lib.ListN.{length, get_or}
use Rattle.zero_signs.specs.ZeroSigns.{band_zeros}
use Rattle.zero_signs.proofs.count_component.Given as goal

-- the numbers of the first b bands are in their places
abbrev pub invariant-loop-b : goal.invariant-loop-b
invariant-loop-b l = (length l.numbers ≡ 10) × ((k : ℕ) → k < l.b → get_or l.numbers k 0 ≡ get_or (band_zeros l.use_reduce_extrapolate l.signs) k 0)
