-- `progressive_encoder::numbers::take_all` meets its contract: after each turn the places so far are listed, eight at a time. Assumes nothing.
use Prim.Native.Nat.{◌*◌}
use Rattle.upgrade_steps.specs.Inner.{band_step}
use Rattle.progressive_encoder.specs.Inner.{words_of, TakesNumbers}
use Rattle.progressive_encoder.proofs.numbers.take_all.Given as goal

abbrev pub invariant-loop-k : goal.invariant-loop-k
invariant-loop-k l = TakesNumbers (band_step l.t) l.classes l.numbers 0 (8 * l.k) (words_of l.initial.raws l.start) (words_of l.raws l.n)
