-- `progressive_decoder::upgrade::srl_list` meets its contract: a turn reads code words and a nonzero value behind them, and what is left of the list stays the same. Assumes nothing.
use mathlib.Core.Path.{◌≡◌}
use mathlib.Core.List.{List}
use Prim.Native.Nat.{ℕ, ◌+◌, ◌-◌, ◌*◌, ◌≤◌}
use lib.ListN.{length}
use Rattle.srl_decoder.specs.Srl.{reader}
use Rattle.upgrade_steps.specs.Steps.{srl}
use Rattle.upgrade_steps.specs.Inner.{band_step}
use Rattle.progressive_decoder.specs.Inner.{walked, over}
use Rattle.progressive_decoder.proofs.Listed.{left}
use Rattle.progressive_decoder.proofs.upgrade.srl_list.Given as goal

abbrev pub invariant-loop-j : goal.invariant-loop-j
invariant-loop-j l =
    (l.kp ≤ 80) × (l.at ≤ l.initial.at + 40000 * l.j) × (length l.coefficients ≡ length l.initial.coefficients) × (length l.sign ≡ length l.initial.sign)
    × ((d : List ℕ) (m : ℕ) → over srl l.srl_data d (band_step l.t) l.list (walked l.initial.coefficients l.initial.sign (reader l.initial.at l.initial.kp l.initial.j l.initial.pending) m) ≡ left l.srl_data d (band_step l.t) l.list l.coefficients l.sign l.j l.at l.kp l.pending m)

abbrev pub decreases-loop-j : goal.decreases-loop-j
decreases-loop-j l = length l.list - l.j
