-- `components::upgrade_component` meets its contract. Assumes nothing.
use mathlib.Core.Path.{◌≡◌, ap, ◌∙◌}
use mathlib.Core.Bool.{true}
use mathlib.Core.List.{List}
use Prim.Native.Nat.{◌+◌, ◌-◌, ◌*◌}
use native.Mathlib.Omega.{arith}
use borrow.Rule.Slice.PartMut.{mid_of}
use lib.IntN.{ℤ}
use Rattle.bands.specs.Positions.{in_domain, row_in_domain}
use Rattle.bands.proofs.Every.{part_passes}
use Rattle.upgrade_steps.specs.Steps.{Step}
use Rattle.progressive_decoder.specs.Upgrade.{upgraded_coefficients, upgraded_signs}
use Rattle.planes.specs.Planes.{of}
use Rattle.components.specs.Inner.{coefficients_past, signs_past}
use Rattle.components.proofs.Passes.{component_put, component_long, component_missing, few_missing}
use Rattle.components.proofs.upgrade_component.Goals as goal

pub upgrade_all-requires : goal.upgrade_all-requires
upgrade_all-requires c =
    let right : row_in_domain c.row_at-prev.result ≡ true = ap row_in_domain c.row_at-prev.ensures ∙ part_passes in_domain 10 (c.args.k * 10) c.args.positions c.requires.1 in
    let a = c.args in
    let n = a.k * 4096 + 4096 - a.k * 4096 in
    let whole : a.k * 4096 + 4096 - a.k * 4096 ≡ 4096 = omega arith in
    let long = component_long a.use_reduce_extrapolate a.positions a.rows a.k n a.coefficients.now a.sign.now whole in
    (right, long a.coefficients.now c.requires.2 c.requires.0, long a.sign.now c.requires.3 c.requires.0)

pub returns : goal.returns
unfolding coefficients_past signs_past
returns c =
    let right : row_in_domain c.row_at-prev.result ≡ true = ap row_in_domain c.row_at-prev.ensures ∙ part_passes in_domain 10 (c.args.k * 10) c.args.positions c.requires.1 in
    let a = c.args in
    let n = a.k * 4096 + 4096 - a.k * 4096 in
    let whole : a.k * 4096 + 4096 - a.k * 4096 ≡ 4096 = omega arith in
    let row = c.row_at-prev in
    let lay = component_put a.use_reduce_extrapolate a.positions a.rows a.k n a.coefficients.now a.sign.now whole row.result row.ensures in
    let d = c.upgrade_all.ensures in
    record {
      coefficients = lay (λ (ts : List Step) (x y : List ℤ). upgraded_coefficients ts a.streams.srl.now a.streams.raw.now x y) a.coefficients.now _ d.coefficients;
      sign = lay (λ (ts : List Step) (x y : List ℤ). upgraded_signs ts a.streams.srl.now y) a.sign.now _ d.sign;
      missing = d.missing ∙ component_missing a.use_reduce_extrapolate a.positions a.rows a.k n a.coefficients.now a.sign.now whole row.result row.ensures a.streams.srl.now a.streams.raw.now;
      few = few_missing a.use_reduce_extrapolate row.result (of a.rows a.k) a.streams.srl.now a.streams.raw.now (mid_of (a.k * 4096) n a.sign.now) d.missing right;
    }
