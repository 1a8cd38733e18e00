-- `progressive_encoder::numbers::take_all` meets its contract: after each turn the places so far are listed, eight at a time. Assumes nothing.
use mathlib.Core.Path.{◌≡◌, subst}
use Prim.Native.Nat.{◌+◌, ◌*◌, ◌/◌}
use native.Mathlib.Omega.{arith}
use Rattle.upgrade_steps.specs.Inner.{band_step}
use Rattle.progressive_encoder.specs.Inner.{words_of, TakesNumbers}
use Rattle.progressive_encoder.proofs.ListedNumbers.{takes_then}
use Rattle.progressive_encoder.proofs.numbers.take_all.Goals as goal

pub loop-k-preserved : goal.loop-k-preserved
loop-k-preserved c =
    let a = c.args in
    let l = c.loop-k in
    let e : 8 * l.k + 8 ≡ 8 * (l.k + 1) = omega arith in
    subst (λ j. TakesNumbers (band_step a.t) a.classes.now a.numbers.now 0 j (words_of a.raws.now a.start) (words_of c.take_eight-n.new.raws c.take_eight-n.result)) e
    (takes_then (band_step a.t) a.classes.now a.numbers.now 0 (8 * l.k) (8 * l.k + 8) (words_of a.raws.now a.start) (words_of l.raws l.n) _ (omega arith) (omega arith) l.invariant c.take_eight-n.ensures)

pub returns : goal.returns
returns c =
    let a = c.args in
    let l = c.loop-k in
    let e : 8 * l.k ≡ 8 * (a.len / 8) = omega arith in
    let done = subst (λ j. TakesNumbers (band_step a.t) a.classes.now a.numbers.now 0 j (words_of a.raws.now a.start) (words_of l.raws l.n)) e l.invariant in
    takes_then (band_step a.t) a.classes.now a.numbers.now 0 (8 * (a.len / 8)) a.len (words_of a.raws.now a.start) (words_of l.raws l.n) _ (omega arith) (omega arith) done c.take_places.ensures
