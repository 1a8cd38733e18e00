-- `progressive_decoder::upgrade::upgrade_bands` meets its contract: when a turn begins, both slices and both readers are those of a walk over the first i places. Assumes nothing.
use mathlib.Core.Path.{◌≡◌}
use Prim.Native.Nat.{◌-◌, ◌*◌, ◌≤◌}
use lib.ListN.{length, take}
use Rattle.srl_decoder.specs.Srl.{start}
use Rattle.upgrade_steps.specs.Steps.{steps}
use Rattle.progressive_decoder.specs.Inner.{walk, walked_by, Early}
use Rattle.progressive_decoder.proofs.upgrade.upgrade_bands.Given as goal

abbrev pub invariant-loop-i : goal.invariant-loop-i
invariant-loop-i l =
    (l.i ≤ 4096) × (length l.coefficients ≡ length l.initial.coefficients) × (length l.sign ≡ length l.initial.sign)
    × (walk l.srl_data l.raw_data (take l.i (steps l.use_reduce_extrapolate l.prev l.curr)) l.initial.coefficients l.initial.sign start 0 ≡ walked_by l.coefficients l.sign l.readers)
    × Early l.readers (40000 * l.i) × (length l.zeros ≡ 1024) × (length l.others ≡ 1024)

abbrev pub decreases-loop-i : goal.decreases-loop-i
decreases-loop-i l = 4096 - l.i
