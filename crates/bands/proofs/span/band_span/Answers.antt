-- `bands::span::band_span` meets its contract. Assumes nothing.
use mathlib.Core.Path.{◌≡◌, ap}
use Prim.Native.Nat.{◌+◌, ◌*◌, ◌≤◌}
use native.Mathlib.Omega.{arith}
use Rattle.bands.specs.Bands.{count_of, band_at}
use Rattle.bands.specs.declared.BandInfo.{BandInfo}
use Rattle.bands.proofs.Laid.{band_within}
use Rattle.bands.proofs.span.band_span.Goals as goal

pub returns : goal.returns
returns c =
    let begins : c.band-info.result.offset ≡ (band_at c.args.use_reduce_extrapolate c.args.b).offset = ap (λ (i : BandInfo). i.offset) c.band-info.ensures in
    let count : c.band-info.result.width * c.band-info.result.height ≡ count_of (band_at c.args.use_reduce_extrapolate c.args.b) = ap count_of c.band-info.ensures in
    let within : c.band-info.result.offset + c.band-info.result.width * c.band-info.result.height ≤ 4096 = omega (arith, begins, count, band_within c.args.use_reduce_extrapolate c.args.b) in
    (begins, omega (arith, count), within)

pub overflow_mul-result : goal.overflow_mul-result
overflow_mul-result c =
    let begins : c.band-info.result.offset ≡ (band_at c.args.use_reduce_extrapolate c.args.b).offset = ap (λ (i : BandInfo). i.offset) c.band-info.ensures in
    let count : c.band-info.result.width * c.band-info.result.height ≡ count_of (band_at c.args.use_reduce_extrapolate c.args.b) = ap count_of c.band-info.ensures in
    let within : c.band-info.result.offset + c.band-info.result.width * c.band-info.result.height ≤ 4096 = omega (arith, begins, count, band_within c.args.use_reduce_extrapolate c.args.b) in
    record { fits = omega (arith, within) }

pub overflow_add-result : goal.overflow_add-result
overflow_add-result c =
    let begins : c.band-info.result.offset ≡ (band_at c.args.use_reduce_extrapolate c.args.b).offset = ap (λ (i : BandInfo). i.offset) c.band-info.ensures in
    let count : c.band-info.result.width * c.band-info.result.height ≡ count_of (band_at c.args.use_reduce_extrapolate c.args.b) = ap count_of c.band-info.ensures in
    let within : c.band-info.result.offset + c.band-info.result.width * c.band-info.result.height ≤ 4096 = omega (arith, begins, count, band_within c.args.use_reduce_extrapolate c.args.b) in
    record { fits = omega (arith, within) }
