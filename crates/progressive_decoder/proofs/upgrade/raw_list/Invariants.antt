-- `progressive_decoder::upgrade::raw_list` meets its contract: the places up to the index are behind, and the word holds the next bits. Assumes nothing.
use mathlib.Core.Path.{◌≡◌}
use mathlib.Core.List.{List}
use Prim.Native.Nat.{ℕ, ◌+◌, ◌*◌, ◌≤◌}
use lib.ListN.{length, drop}
use Rattle.bits.specs.Inner.{Top}
use Rattle.srl_decoder.specs.Srl.{Reader}
use Rattle.upgrade_steps.specs.Steps.{raw}
use Rattle.upgrade_steps.specs.Inner.{band_step}
use Rattle.progressive_decoder.specs.Inner.{walked, over}
use Rattle.progressive_decoder.proofs.upgrade.raw_list.Given as goal

abbrev pub invariant-loop-place : goal.invariant-loop-place
invariant-loop-place l =
    (l.at ≤ l.from + 15 * l.place-index) × (length l.coefficients ≡ length l.initial.coefficients) × Top l.count l.bits l.raw_data l.at
    × ((s : List ℕ) (q : Reader) → over raw s l.raw_data (band_step l.t) l.list (walked l.initial.coefficients l.sign q l.from) ≡ over raw s l.raw_data (band_step l.t) (drop l.place-index l.list) (walked l.coefficients l.sign q l.at))
