-- `progressive_encoder::numbers::number_places` meets its contract: after each turn the places so far have their numbers. Assumes nothing.
use mathlib.Core.Path.{◌≡◌}
use Prim.Native.Nat.{ℕ, ◌%◌, ◌^◌, ◌<◌}
use lib.IntN.{pos}
use lib.ListN.{get_or}
use Rattle.progressive_encoder.proofs.numbers.number_places.Given as goal

abbrev pub invariant-loop-i : goal.invariant-loop-i
invariant-loop-i g l =
    (k : ℕ) → k < l.i → get_or l.numbers k 0 ≡ g.R.Rule.rule.number l.t.bottom l.t.position (get_or l.coefficients k (pos 0)) (get_or l.prev_coefficients k (pos 0)) % 2 ^ l.t.width
