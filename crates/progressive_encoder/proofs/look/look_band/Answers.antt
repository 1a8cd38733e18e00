-- `progressive_encoder::look::look_band` meets its contract: a skipped band gives nothing, and of another both lists are made. Assumes nothing.
use lib.ListN.{length}
use Rattle.upgrade_steps.specs.Inner.{band_step}
use Rattle.progressive_encoder.specs.Inner.{band_lists, listed_by, looked_by, Looks, FewFound}
use Rattle.progressive_encoder.proofs.Placewise.{band_skip}
use Rattle.progressive_encoder.proofs.ListedEvents.{lists_band}
use Rattle.progressive_encoder.proofs.BothLists.{looks_placewise, found_on, looks_both}
use Rattle.progressive_encoder.proofs.look.look_band.Goals as goal

pub returns-then-t-eq0 : goal.returns-then-t-eq0
returns-then-t-eq0 g c =
    let a = c.args in
    band_skip g.R.Rule.rule Looks looks_placewise FewFound a.coefficients.now a.prev_coefficients.now a.sign.now (band_step a.t) c.requires.0 found_on c.if-t-eq0.true (looked_by a.raws.now a.words.now a.done)

pub returns : goal.returns
returns g c =
    let a = c.args in
    let r = g.R.Rule.rule in
    let t = band_step a.t in
    let cs = a.coefficients.now in
    let ps = a.prev_coefficients.now in
    let ss = a.sign.now in
    let classed = c.classify.ensures in
    looks_both (band_lists r t (length cs) cs ps ss) (length cs) (looked_by a.raws.now a.words.now a.done) _
    (c.list_numbers.ensures ss c.requires.0 classed)
    (lists_band r t cs ps ss _ (listed_by a.words.now a.done.events) _ c.requires.0 classed c.list_events.ensures)
