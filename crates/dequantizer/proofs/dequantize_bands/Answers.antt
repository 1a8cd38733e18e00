-- `dequantizer::dequantize_bands` meets its contract: after b turns the places of the first b bands are dequantized. Assumes nothing.
use mathlib.Core.Path.{◌≡◌, refl, sym, ap, ◌∙◌}
use Prim.Native.Nat.{ℕ, ◌-◌, ◌≤◌}
use native.Mathlib.Omega.{arith}
use borrow.Rule.Slice.PartMut.{mid_of}
use lib.ListN.{length, get_or, replicate}
use Rattle.bands.proofs.Spread.{spread_to, per_place_to, place_all}
use Rattle.bands.proofs.Spans.{Lies, part_length}
use Rattle.dequantizer.specs.Dequantize.{dequantized_all}
use Rattle.dequantizer.proofs.Dequantized.{all_band}
use Rattle.dequantizer.proofs.dequantize_bands.Goals as goal

pub loop-b-init : goal.loop-b-init
unfolding dequantized_all spread_to
loop-b-init c = refl

pub loop-b-preserved : goal.loop-b-preserved
loop-b-preserved c =
    let a = c.args in
    let l = c.loop-b in
    let s = c.band_span-span in
    let from = s.result.from in
    let to = s.result.to in
    let at : Lies a.use_reduce_extrapolate l.b from to = record { number = c.loop-b-test.true; begins = s.ensures.0; ends = s.ensures.1 } in
    let n : 4096 ≤ length l.coefficients = omega (arith, c.requires) in
    let m = part_length a.use_reduce_extrapolate l.b from to l.coefficients at n in
    all_band a.use_reduce_extrapolate (λ i. get_or a.quant i 0) l.b from to a.coefficients.now l.coefficients c.dequantize_band.new.coefficients at c.requires l.invariant
    (c.dequantize_band.ensures ∙ ap (λ n. dequantized_all (replicate n (get_or a.quant l.b 0)) (mid_of from (to - from) l.coefficients)) m)

pub returns : goal.returns
returns c =
    let a = c.args in
    let l = c.loop-b in
    let f = λ (i : ℕ). get_or a.quant i 0 in
    let ten : l.b ≡ 10 = omega arith in
    sym l.invariant ∙ ap (λ qs. dequantized_all qs a.coefficients.now) (ap (per_place_to a.use_reduce_extrapolate f) ten ∙ place_all a.use_reduce_extrapolate f)
