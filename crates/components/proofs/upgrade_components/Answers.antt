-- `components::upgrade_components` meets its contract. Assumes nothing.
use mathlib.Core.Path.{◌∙◌}
use native.Mathlib.Omega.{arith}
use Rattle.planes.specs.Planes.{three}
use Rattle.components.proofs.Passes.{passed}
use Rattle.components.proofs.upgrade_components.Goals as goal

-- the arrays keep their lengths
pub upgrade_component-cr_missing-requires : goal.upgrade_component-cr_missing-requires
upgrade_component-cr_missing-requires c = (
  omega arith,
  c.requires.0,
  c.upgrade_component-cb_missing.auto.coefficients ∙ c.upgrade_component-y_missing.auto.coefficients ∙ c.requires.1,
  c.upgrade_component-cb_missing.auto.sign ∙ c.upgrade_component-y_missing.auto.sign ∙ c.requires.2,
)

pub sum_of-requires : goal.sum_of-requires
sum_of-requires c = (c.upgrade_component-y_missing.ensures.few, c.upgrade_component-cb_missing.ensures.few, c.upgrade_component-cr_missing.ensures.few)

pub returns : goal.returns
returns c =
    let a = c.args in
    let done = passed a.use_reduce_extrapolate a.positions a.rows (three a.y.srl.now a.cb.srl.now a.cr.srl.now) (three a.y.raw.now a.cb.raw.now a.cr.raw.now)
    a.coefficients.now a.sign.now c.requires.1 c.requires.2
    c.upgrade_component-y_missing.ensures c.upgrade_component-cb_missing.ensures c.upgrade_component-cr_missing.ensures in
    record { coefficients = done.coefficients; sign = done.sign; missing = c.sum_of.ensures ∙ done.missing }
