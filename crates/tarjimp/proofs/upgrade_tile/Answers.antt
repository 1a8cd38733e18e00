-- `tarjimp::upgrade_tile` meets its contract: that of `TileState::decode_upgrade`, where the parts of the tile lie. Assumes nothing.
use mathlib.Core.Path.{◌≡◌, refl}
use mathlib.Core.List.{List}
use Prim.Native.Nat.{ℕ}
use Rattle.std.specs.Prelude.{None}
use Rattle.answer.proofs.Refusing.{none_given}
use Rattle.planes.specs.Planes.{three}
use Rattle.tile.specs.Tile.{upgrade_refusal}
use Rattle.tile.specs.declared.TileState.{TileState}
use Rattle.tile.proofs.Accepted.{positions_low, accepted}
use Rattle.tarjimp.specs.Calls.{tile_of}
use Rattle.tarjimp.proofs.upgrade_tile.Goals as goal

pub upgrade_in_place-missing-requires : goal.upgrade_in_place-missing-requires
upgrade_in_place-missing-requires c =
    let handed : TileState = tile_of c.args.coefficients.now c.args.sign.now c.args.zero_signs.now c.args.prog_quant.now c.args.base_quant.now c.args.use_reduce_extrapolate c.args.pass.now c.args.quality.now in
    let none : upgrade_refusal (handed) c.args.prog_quants.now ≡ None = none_given (upgrade_refusal (handed) c.args.prog_quants.now) tt c.in_ok-check_upgrade.ensures in
    positions_low handed c.args.prog_quants.now none

pub returns : goal.returns
returns c =
    let handed : TileState = tile_of c.args.coefficients.now c.args.sign.now c.args.zero_signs.now c.args.prog_quant.now c.args.base_quant.now c.args.use_reduce_extrapolate c.args.pass.now c.args.quality.now in
    let srl_data : List (List ℕ) = three c.args.y.srl.now c.args.cb.srl.now c.args.cr.srl.now in
    let raw_data : List (List ℕ) = three c.args.y.raw.now c.args.cb.raw.now c.args.cr.raw.now in
    let none : upgrade_refusal (handed) c.args.prog_quants.now ≡ None = none_given (upgrade_refusal (handed) c.args.prog_quants.now) tt c.in_ok-check_upgrade.ensures in
    let done = c.upgrade_in_place-missing.ensures in
    accepted handed srl_data raw_data c.args.prog_quants.now c.args.new_quality none done.coefficients done.sign done.numbers done.positions refl refl done.pass refl refl refl done.missing
