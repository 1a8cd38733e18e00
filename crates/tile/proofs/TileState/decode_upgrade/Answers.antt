-- `tile::TileState::decode_upgrade` meets its contract. Assumes nothing.
use mathlib.Core.Path.{◌≡◌, refl, ap, ◌∙◌}
use Rattle.std.specs.Prelude.{⊤, None, Some, Result, Err}
use Rattle.answer.specs.declared.Refusal.{Refusal}
use Rattle.answer.specs.Answers.{first_of, answered}
use Rattle.std.proofs.lemmas.Result.{err_from_is_err_and}
use Rattle.answer.proofs.Refusing.{none_given, some_given}
use Rattle.planes.specs.Planes.{three}
use Rattle.tile.specs.Tile.{numbers_refusal_by, rows_refusal, upgrade_refusal}
use Rattle.tile.proofs.Accepted.{positions_low, refused, accepted}
use Rattle.tile.proofs.TileState.decode_upgrade.Goals as goal

pub returns-in_err-check_upgrade : goal.returns-in_err-check_upgrade
returns-in_err-check_upgrade c =
    let told : ◌≡◌ {A = Result ⊤ Refusal} (Err c.in_err-check_upgrade.field-0.0) (answered (first_of (numbers_refusal_by c.args.self.now.use_reduce_extrapolate c.args.self.now.sign c.args.self.now.zero_signs) (rows_refusal c.args.self.now.prog_quant c.args.self.now.base_quant c.args.prog_quants)) tt) = c.in_err-check_upgrade.ensures in
    let some : upgrade_refusal c.args.self.now c.args.prog_quants ≡ Some c.in_err-check_upgrade.field-0.0 = some_given (upgrade_refusal c.args.self.now c.args.prog_quants) tt told in
    let a = c.args in
    let srl_data = three a.y.srl.now a.cb.srl.now a.cr.srl.now in
    let raw_data = three a.y.raw.now a.cb.raw.now a.cr.raw.now in
    let p = err_from_is_err_and c.from_residual.result c.from_residual.ensures.1 in
    refused a.self.now srl_data raw_data a.prog_quants a.quality some (p.1 ∙ ap Err p.2)

pub upgrade_in_place-missing-requires : goal.upgrade_in_place-missing-requires
upgrade_in_place-missing-requires c =
    let none : upgrade_refusal c.args.self.now c.args.prog_quants ≡ None = none_given (upgrade_refusal c.args.self.now c.args.prog_quants) tt c.in_ok-check_upgrade.ensures in
    positions_low c.args.self.now c.args.prog_quants none

pub returns : goal.returns
returns c =
    let none : upgrade_refusal c.args.self.now c.args.prog_quants ≡ None = none_given (upgrade_refusal c.args.self.now c.args.prog_quants) tt c.in_ok-check_upgrade.ensures in
    let a = c.args in
    let srl_data = three a.y.srl.now a.cb.srl.now a.cr.srl.now in
    let raw_data = three a.y.raw.now a.cb.raw.now a.cr.raw.now in
    let done = c.upgrade_in_place-missing.ensures in
    accepted a.self.now srl_data raw_data a.prog_quants a.quality none done.coefficients done.sign done.numbers done.positions refl refl done.pass refl refl refl done.missing
