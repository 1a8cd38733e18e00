-- `zero_signs::count_component` meets its contract. Assumes nothing.
use mathlib.Core.Path.{◌≡◌, sym, ap, ◌∙◌}
use Prim.Native.Nat.{ℕ, ◌+◌, ◌-◌, ◌<◌}
use native.Mathlib.Omega.{arith}
use borrow.Author.Count.{below_more}
use lib.ListN.{length, take, drop, get_or, length-set}
use Rattle.std.proofs.Common.{◌≢◌, get_or-set_same, get_or-set_other}
use Rattle.std.proofs.lemmas.List.{drop-take, length-take}
use lib.Seq.{ext_get_or}
use Rattle.bands.specs.Bands.{count_of, band_at, none}
use Rattle.bands.specs.declared.BandInfo.{BandInfo}
use Rattle.bands.proofs.Spans.{at_hand}
use Rattle.zero_signs.specs.ZeroSigns.{zeros_in, signs_in, band_zeros}
use Rattle.zero_signs.proofs.Counted.{ten_numbers, number_at_lem}
use Rattle.zero_signs.proofs.count_component.Goals as goal

pub returns : goal.returns
returns c =
    let l = c.loop-b in
    let right = band_zeros c.args.use_reduce_extrapolate c.args.signs.now in
    let ten : length l.numbers ≡ length right = l.invariant.0 ∙ sym (ten_numbers c.args.use_reduce_extrapolate c.args.signs.now) in
    ext_get_or 0 l.numbers right ten (λ k h. l.invariant.1 k (omega (arith, l.invariant.0, length-take {A = BandInfo})))

pub loop-b-preserved : goal.loop-b-preserved
loop-b-preserved c =
    let e = c.args.use_reduce_extrapolate in
    let ss = c.args.signs.now in
    let l = c.loop-b in
    let x = c.zeros.result in
    let band : BandInfo = get_or c.get_band_layout-layout.result l.b none in
    let is_band : band ≡ band_at e l.b = at_hand c.get_band_layout-layout.result e l.b c.get_band_layout-layout.ensures in
    let long : band.offset + count_of band - band.offset ≡ count_of band = omega arith in
    let is : x ≡ get_or (band_zeros e ss) l.b 0 =
    c.zeros.ensures
    ∙ ap (λ (n : ℕ). zeros_in (take n (drop band.offset ss))) long
    ∙ ap zeros_in (sym (drop-take band.offset (count_of band) ss))
    ∙ ap (λ (i : BandInfo). zeros_in (signs_in i ss)) is_band
    ∙ sym (number_at_lem e ss l.b) in
    let room : l.b < length l.numbers = omega (arith, l.invariant.0, c.loop-b-test.true) in (
      length-set l.numbers l.b x ∙ l.invariant.0,
      below_more _ _
          (λ k h. let other : k ≢ l.b = omega arith in get_or-set_other l.numbers l.b k x 0 other ∙ l.invariant.1 k h)
          (get_or-set_same l.numbers l.b x 0 room ∙ is),
    )
