-- `tile::check_upgrade` meets its contract. Assumes nothing.
use mathlib.Core.Bool.{true, false, ◌&&◌}
use mathlib.Core.Path.{◌≡◌, refl, sym, ◌∙◌}
use native.Mathlib.Omega.{arith}
use Rattle.bands.specs.Positions.{row_in_domain, rows_in_domain}
use Rattle.zero_signs.specs.ZeroSigns.{are_right}
use Rattle.tile.proofs.check_upgrade.Goals as goal

pub returns-then-not-in_domain : goal.returns-then-not-in_domain
returns-then-not-in_domain c =
    let a = c.args in
    let high : (rows_in_domain a.rows && (row_in_domain a.positions && row_in_domain a.quants)) ≡ false = sym c.in_domain.ensures ∙ c.if-not-in_domain.true in
    let right : are_right c.args.use_reduce_extrapolate c.args.sign.now c.args.numbers.now ≡ true = grind arith in
    simp (right, high) refl
