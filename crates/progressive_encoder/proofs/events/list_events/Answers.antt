-- `progressive_encoder::events::list_events` meets its contract: after each turn the places so far are listed, eight at a time. Assumes nothing.
use mathlib.Core.Path.{◌≡◌, subst}
use Prim.Native.Nat.{◌+◌, ◌*◌, ◌/◌}
use native.Mathlib.Omega.{arith}
use lib.ListN.{length}
use Rattle.upgrade_steps.specs.Inner.{band_step}
use Rattle.progressive_encoder.specs.Inner.{listed_by, TakesEvents}
use Rattle.progressive_encoder.proofs.ListedEvents.{lists_then}
use Rattle.progressive_encoder.proofs.events.list_events.Goals as goal

pub loop-k-preserved : goal.loop-k-preserved
loop-k-preserved g c =
    let a = c.args in
    let l = c.loop-k in
    let u = c.list_eight-done in
    let e : 8 * l.k + 8 ≡ 8 * (l.k + 1) = omega arith in
    subst (λ j. TakesEvents g.R.Rule.rule (band_step a.t) a.coefficients.now a.prev_coefficients.now a.classes.now 0 j (listed_by a.words.now a.start) (listed_by u.new.words u.result)) e
    (lists_then g.R.Rule.rule (band_step a.t) a.coefficients.now a.prev_coefficients.now a.classes.now 0 (8 * l.k) (8 * l.k + 8) (listed_by a.words.now a.start) (listed_by l.words l.done) _ (omega arith) (omega arith) l.invariant u.ensures)

pub returns : goal.returns
returns g c =
    let a = c.args in
    let l = c.loop-k in
    let n = length a.coefficients.now in
    let e : 8 * l.k ≡ 8 * (n / 8) = omega arith in
    let done = subst (λ j. TakesEvents g.R.Rule.rule (band_step a.t) a.coefficients.now a.prev_coefficients.now a.classes.now 0 j (listed_by a.words.now a.start) (listed_by l.words l.done)) e l.invariant in
    lists_then g.R.Rule.rule (band_step a.t) a.coefficients.now a.prev_coefficients.now a.classes.now 0 (8 * (n / 8)) n (listed_by a.words.now a.start) (listed_by l.words l.done) _ (omega arith) (omega arith) done c.list_places.ensures
