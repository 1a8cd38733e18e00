-- `progressive_encoder::numbers::take_places` meets its contract: after each turn the places so far are listed. Assumes nothing.
use Prim.Native.Nat.{◌≤◌}
use Rattle.upgrade_steps.specs.Inner.{band_step}
use Rattle.progressive_encoder.specs.Inner.{words_of, TakesNumbers}
use Rattle.progressive_encoder.proofs.numbers.take_places.Given as goal

abbrev pub invariant-loop-i : goal.invariant-loop-i
invariant-loop-i l =
    (l.from ≤ l.i) × TakesNumbers (band_step l.t) l.classes l.numbers l.from l.i (words_of l.initial.raws l.start) (words_of l.raws l.n)
