-- `progressive_encoder::look::look_bands` meets its contract: at each turn the places before the band that is next are looked at. Assumes nothing.
use mathlib.Core.Path.{refl, ◌∙◌}
use native.Mathlib.Omega.{arith}
use Rattle.bands.proofs.Spread.{one_of_ten}
use Rattle.upgrade_steps.specs.Steps.{steps}
use Rattle.upgrade_steps.specs.Inner.{band_step, SameStep}
use Rattle.progressive_encoder.specs.Inner.{pass_lists, looked_by, nothing_found, Looks, FewFound}
use Rattle.progressive_encoder.proofs.Placewise.{walk_begins, walk_on, walk_ends}
use Rattle.progressive_encoder.proofs.BothLists.{looks_placewise, none_found, found_all}
use Rattle.progressive_encoder.proofs.look.look_bands.Goals as goal

pub loop-i-init : goal.loop-i-init
loop-i-init g c =
    let a = c.args in
    (omega arith, refl, refl, walk_begins g.R.Rule.rule Looks looks_placewise FewFound a.coefficients.now a.prev_coefficients.now a.sign.now a.use_reduce_extrapolate a.prev a.curr (looked_by a.raws.now a.words.now nothing_found) (none_found a.raws.now a.words.now))

pub stretch_at-stretch-requires : goal.stretch_at-stretch-requires
stretch_at-stretch-requires g c =
    (c.loop-i-test.true, rw c.bands_of_places-table.ensures (one_of_ten c.args.use_reduce_extrapolate c.loop-i.i))

pub loop-i-preserved : goal.loop-i-preserved
loop-i-preserved g c =
    let next : SameStep c.args.use_reduce_extrapolate c.args.prev c.args.curr c.loop-i.i c.stretch_at-stretch.result.to (band_step c.stretch_at-stretch.result.step) = c.stretch_at-stretch.ensures c.args.use_reduce_extrapolate c.bands_of_places-table.ensures c.band_ends-ends.ensures in
    let a = c.args in
    let l = c.loop-i in
    let u = c.look_band-done in
    let n = next in (
      n.ends,
      u.auto.raws ∙ l.invariant.1,
      u.auto.words ∙ l.invariant.2,
      walk_on g.R.Rule.rule Looks looks_placewise FewFound a.coefficients.now a.prev_coefficients.now a.sign.now a.use_reduce_extrapolate a.prev a.curr l.i _ _ n c.requires.2 (looked_by a.raws.now a.words.now nothing_found) (looked_by l.raws l.words l.done) _ l.invariant.3 u.ensures,
    )

pub returns : goal.returns
returns g c =
    let a = c.args in
    let l = c.loop-i in
    found_all (pass_lists g.R.Rule.rule (steps a.use_reduce_extrapolate a.prev a.curr) a.coefficients.now a.prev_coefficients.now a.sign.now) a.raws.now a.words.now (looked_by l.raws l.words l.done)
    (walk_ends g.R.Rule.rule Looks looks_placewise FewFound a.coefficients.now a.prev_coefficients.now a.sign.now a.use_reduce_extrapolate a.prev a.curr l.i (looked_by a.raws.now a.words.now nothing_found) (looked_by l.raws l.words l.done) (omega (arith, l.invariant.0, c.loop-i-test.false)) l.invariant.3)
