-- `progressive_encoder::events::list_places` meets its contract: after each turn the places so far are listed. Assumes nothing.
use mathlib.Core.Path.{◌≡◌, subst}
use Prim.Native.Nat.{◌+◌}
use native.Mathlib.Omega.{arith}
use lib.IntN.{pos}
use lib.ListN.{get_or}
use mir.Syntax.{w16}
use mir.ValLaws.{to_z-of_z}
use Rattle.upgrade_steps.specs.Inner.{band_step}
use Rattle.progressive_encoder.specs.Inner.{listed_by, TakesEvents}
use Rattle.progressive_encoder.proofs.ListedEvents.{read_place, lists_one, lists_then}
use Rattle.progressive_encoder.proofs.events.list_places.Goals as goal

pub loop-i-preserved : goal.loop-i-preserved
loop-i-preserved g c =
    let a = c.args in
    let l = c.loop-i in
    let u = c.list_place-done in
    let r = g.R.Rule.rule in
    let t = band_step a.t in
    let cs = a.coefficients.now in
    let ps = a.prev_coefficients.now in
    let place = read_place r t (get_or a.classes.now l.i 0) (listed_by l.words l.done) _ (to_z-of_z w16 (get_or cs l.i (pos 0)) (record { sfits = c.c-1.given })) (to_z-of_z w16 (get_or ps l.i (pos 0)) (record { sfits = c.p-1.given })) u.ensures.0 in (
      omega arith,
      lists_then r t cs ps a.classes.now a.from l.i (l.i + 1) (listed_by a.words.now a.start) (listed_by l.words l.done) _ l.invariant.0 (omega arith) l.invariant.1
          (lists_one r t cs ps a.classes.now l.i (listed_by l.words l.done) _ place u.ensures.1 u.ensures.2),
    )

pub returns : goal.returns
returns g c =
    let a = c.args in
    let l = c.loop-i in
    let e : l.i ≡ a.to = omega arith in
    subst (λ j. TakesEvents g.R.Rule.rule (band_step a.t) a.coefficients.now a.prev_coefficients.now a.classes.now a.from j (listed_by a.words.now a.start) (listed_by l.words l.done)) e l.invariant.1
