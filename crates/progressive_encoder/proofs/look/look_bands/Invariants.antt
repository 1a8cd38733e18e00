-- `progressive_encoder::look::look_bands` meets its contract: at each turn the places before the band that is next are looked at. Assumes nothing.
use mathlib.Core.Path.{◌≡◌}
use Prim.Native.Nat.{◌-◌, ◌≤◌}
use lib.ListN.{length}
use Rattle.progressive_encoder.specs.Inner.{looked_by, nothing_found, Looks, FewFound}
use Rattle.progressive_encoder.proofs.Placewise.{WentTo}
use Rattle.progressive_encoder.proofs.look.look_bands.Given as goal

abbrev pub invariant-loop-i : goal.invariant-loop-i
invariant-loop-i g l =
    (l.i ≤ 4096) × (length l.raws ≡ length l.initial.raws) × (length l.words ≡ length l.initial.words)
    × WentTo g.R.Rule.rule Looks FewFound l.coefficients l.prev_coefficients l.sign l.use_reduce_extrapolate l.prev l.curr l.i (looked_by l.initial.raws l.initial.words nothing_found) (looked_by l.raws l.words l.done)

abbrev pub decreases-loop-i : goal.decreases-loop-i
decreases-loop-i g l = 4096 - l.i
