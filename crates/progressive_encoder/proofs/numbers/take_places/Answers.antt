-- `progressive_encoder::numbers::take_places` meets its contract: after each turn the places so far are listed. Assumes nothing.
use mathlib.Core.Path.{◌≡◌, refl, subst}
use Prim.Native.Nat.{◌<◌}
use native.Mathlib.Omega.{arith}
use lib.ListN.{length}
use Rattle.upgrade_steps.specs.Inner.{band_step}
use Rattle.progressive_encoder.specs.Inner.{words_of, TakesNumbers}
use Rattle.progressive_encoder.proofs.ListedNumbers.{takes_next}
use Rattle.progressive_encoder.proofs.numbers.take_places.Goals as goal

pub loop-i-preserved : goal.loop-i-preserved
loop-i-preserved c =
    let a = c.args in
    let l = c.loop-i in
    let within : l.n < length l.raws = omega (arith, l.invariant.1.few) in (
      omega arith,
      takes_next (band_step a.t) a.classes.now a.numbers.now a.from l.i (words_of a.raws.now a.start) l.raws l.n c.number_word.result _ l.invariant.0 c.requires.3 c.requires.4 within c.number_word.ensures refl l.invariant.1,
    )

pub returns : goal.returns
returns c =
    let l = c.loop-i in
    let a = c.args in
    let e : l.i ≡ a.to = omega arith in
    subst (λ j. TakesNumbers (band_step a.t) a.classes.now a.numbers.now a.from j (words_of a.raws.now a.start) (words_of l.raws l.n)) e l.invariant.1
