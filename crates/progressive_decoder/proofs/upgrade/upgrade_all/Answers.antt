-- `progressive_decoder::upgrade::upgrade_all` meets its contract: how many bits were missing, by where the readers end. Assumes nothing.
use mathlib.Core.Path.{◌≡◌, sym, ap, ap₂, ◌∙◌}
use Prim.Native.Nat.{ℕ, ◌-◌, ◌*◌}
use native.Mathlib.Omega.{arith}
use lib.ListN.{length}
use Rattle.bits.specs.Bits.{bits_read}
use Rattle.srl_decoder.specs.Srl.{Reader, start, reader_after}
use Rattle.upgrade_steps.specs.Steps.{steps, srl_widths}
use Rattle.progressive_decoder.specs.Upgrade.{missing_bits}
use Rattle.progressive_decoder.proofs.Missing.{srl_missing_lem, raw_missing_lem, srl_far, raw_far}
use Rattle.progressive_decoder.proofs.upgrade.upgrade_all.Goals as goal

pub missing_by-requires : goal.missing_by-requires
missing_by-requires c =
    let read : bits_read c.upgrade_bands-ends.result.srl.reader ≡ (reader_after c.args.srl_data.now (srl_widths (steps c.args.use_reduce_extrapolate c.args.prev c.args.curr) c.args.sign.now) start).read = ap (λ (r : Reader). r.read) c.upgrade_bands-ends.ensures.ends.srl in
    let a = c.args in
    let u = c.upgrade_bands-ends.ensures.ends in (
      u.place,
      omega (arith, read, srl_far a.use_reduce_extrapolate a.prev a.curr a.srl_data.now a.sign.now c.requires.0),
      omega (arith, u.raw, raw_far a.use_reduce_extrapolate a.prev a.curr a.sign.now c.requires.0),
    )

pub returns : goal.returns
returns c =
    let read : bits_read c.upgrade_bands-ends.result.srl.reader ≡ (reader_after c.args.srl_data.now (srl_widths (steps c.args.use_reduce_extrapolate c.args.prev c.args.curr) c.args.sign.now) start).read = ap (λ (r : Reader). r.read) c.upgrade_bands-ends.ensures.ends.srl in
    let a = c.args in
    let u = c.upgrade_bands-ends.ensures in
    let ts = steps a.use_reduce_extrapolate a.prev a.curr in
    record {
      coefficients = u.coefficients;
      sign = u.sign;
      missing = c.missing_by.ensures
          ∙ ap₂ missing_bits
          (ap (λ (n : ℕ). n - 8 * length a.srl_data.now) read ∙ sym (srl_missing_lem ts a.srl_data.now a.sign.now))
          (ap (λ (n : ℕ). n - 8 * length a.raw_data.now) u.ends.raw ∙ sym (raw_missing_lem ts a.raw_data.now a.sign.now));
    }
