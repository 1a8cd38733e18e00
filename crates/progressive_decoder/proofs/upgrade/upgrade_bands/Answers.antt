-- `progressive_decoder::upgrade::upgrade_bands` meets its contract: when a turn begins, both slices and both readers are those of a walk over the first i places. Assumes nothing.
use mathlib.Core.Path.{◌≡◌, refl, sym, ap, ◌∙◌, subst}
use mathlib.Core.List.{List}
use Prim.Native.Nat.{ℕ, ◌+◌, ◌-◌, ◌*◌, ◌≤◌}
use native.Mathlib.Omega.{arith}
use borrow.Rule.Slice.PartMut.{mid_of, mid_len}
use lib.ListN.{length, get_or, replicate}
use lib.Seq.{take_all}
use Rattle.bits.specs.Bits.{bits_read}
use Rattle.bands.proofs.Spread.{place_whole, one_of_ten}
use Rattle.srl_decoder.specs.Srl.{start}
use Rattle.srl_decoder.specs.Decode.{opened}
use Rattle.srl_decoder.specs.declared.SrlState.{SrlState}
use Rattle.upgrade_steps.specs.Steps.{step_of, steps}
use Rattle.upgrade_steps.specs.Inner.{band_step, SameStep}
use Rattle.progressive_decoder.specs.Inner.{Walked, walk, walked_by, Early}
use Rattle.progressive_decoder.proofs.Bandwise.{band_turn}
use Rattle.progressive_decoder.proofs.Walks.{walk_coefficients, walk_signs, walk_reader, walk_count}
use borrow.Author.Rules.{rules}
use Rattle.progressive_decoder.proofs.upgrade.upgrade_bands.Goals as goal

-- before the first place
pub loop-i-init : goal.loop-i-init
unfolding walk
loop-i-init c =
    let a = c.args in
    let e = c.new.ensures in (
      omega arith,
      refl,
      refl,
      sym (ap (λ (st : SrlState). walked_by a.coefficients.now a.sign.now (record { srl = st; raw = 0 })) e),
      record {
        place = omega (arith, ap (λ (st : SrlState). st.reader.bit_idx) e);
        kp = omega (arith, ap (λ (st : SrlState). st.kp) e);
        srl_read_lem = omega (arith, ap (λ (st : SrlState). bits_read st.reader) e);
        raw_read = omega arith;
      },
      search rules,
      search rules,
    )

-- the table has a band for the place at hand
pub stretch_at-stretch-requires : goal.stretch_at-stretch-requires
stretch_at-stretch-requires c =
    let a = c.args in
    let i = c.loop-i.i in
    let number = ap (λ (l : List ℕ). get_or l i 0) c.bands_of_places-table.ensures in
    (omega (arith, c.loop-i-test.true), omega (arith, number, one_of_ten a.use_reduce_extrapolate i))

pub upgrade_band-readers-requires : goal.upgrade_band-readers-requires
upgrade_band-readers-requires c =
    let same : SameStep c.args.use_reduce_extrapolate c.args.prev c.args.curr c.loop-i.i c.stretch_at-stretch.result.to (band_step c.stretch_at-stretch.result.step) = c.stretch_at-stretch.ensures c.args.use_reduce_extrapolate c.bands_of_places-table.ensures c.band_ends-ends.ensures in
    let p = c.requires in
    let l = c.loop-i in
    let to = c.stretch_at-stretch.result.to in
    let s = same in
    let y = l.invariant.4 in
    let m = mid_len l.i to l.coefficients (omega (arith, s.ends, p.1, l.invariant.1)) in
    let k = mid_len l.i to l.sign (omega (arith, s.ends, p.2, l.invariant.2)) in (
      s.narrow p.0,
      record { place = y.place; kp = y.kp; srl_read_lem = omega (arith, y.srl_read_lem, l.invariant.0); raw_read = omega (arith, y.raw_read, l.invariant.0) },
      k ∙ sym m,
      omega (arith, m, s.few),
      omega (arith, l.invariant.5),
      omega (arith, l.invariant.6),
      c.place_rows-rows.ensures,
    )

pub loop-i-smaller : goal.loop-i-smaller
loop-i-smaller c =
    let same : SameStep c.args.use_reduce_extrapolate c.args.prev c.args.curr c.loop-i.i c.stretch_at-stretch.result.to (band_step c.stretch_at-stretch.result.step) = c.stretch_at-stretch.ensures c.args.use_reduce_extrapolate c.bands_of_places-table.ensures c.band_ends-ends.ensures in
    let s = same in
    omega (arith, s.begins, s.ends)

-- one band more
pub loop-i-preserved : goal.loop-i-preserved
loop-i-preserved c =
    let same : SameStep c.args.use_reduce_extrapolate c.args.prev c.args.curr c.loop-i.i c.stretch_at-stretch.result.to (band_step c.stretch_at-stretch.result.step) = c.stretch_at-stretch.ensures c.args.use_reduce_extrapolate c.bands_of_places-table.ensures c.band_ends-ends.ensures in
    let a = c.args in
    let p = c.requires in
    let l = c.loop-i in
    let s = same in
    let r = c.stretch_at-stretch.result in
    let from = l.i in
    let to = r.to in
    let t = band_step r.step in
    let u = c.upgrade_band-readers in
    let m = mid_len from to l.coefficients (omega (arith, s.ends, p.1, l.invariant.1)) in (
      s.ends,
      c.coefficients-1.given.1 ∙ l.invariant.1,
      c.sign-1.given.1 ∙ l.invariant.2,
      band_turn a.srl_data.now a.raw_data.now a.use_reduce_extrapolate a.prev a.curr from to t s a.coefficients.now a.sign.now l.coefficients l.sign l.readers
          (walked_by u.new.coefficients u.new.sign u.result) p.1 p.2 l.invariant.3
          (ap (λ (k : ℕ). walk a.srl_data.now a.raw_data.now (replicate k t) (mid_of from (to - from) l.coefficients) (mid_of from (to - from) l.sign) (opened l.readers.srl) l.readers.raw) (sym m)
          ∙ u.ensures.0),
      subst (Early u.result) {x = 40000 * from + 40000 * length (mid_of from (to - from) l.coefficients)} {y = 40000 * to} (omega (arith, m, s.begins))
          (u.ensures.1 (40000 * from) l.invariant.4),
      u.auto.zeros ∙ l.invariant.5,
      u.auto.others ∙ l.invariant.6,
    )

pub returns : goal.returns
returns c =
    let a = c.args in
    let l = c.loop-i in
    let ts = steps a.use_reduce_extrapolate a.prev a.curr in
    let all : 4096 ≤ l.i = c.loop-i-test.false in
    let whole : length ts ≡ 4096 = place_whole a.use_reduce_extrapolate (step_of a.prev a.curr) in
    let done : walk a.srl_data.now a.raw_data.now ts a.coefficients.now a.sign.now start 0 ≡ walked_by l.coefficients l.sign l.readers =
    ap (λ t. walk a.srl_data.now a.raw_data.now t a.coefficients.now a.sign.now start 0) (sym (take_all l.i ts (omega (arith, whole, all)))) ∙ l.invariant.3 in
    let enough : length ts ≤ length a.coefficients.now = omega (arith, whole, c.requires.1) in
    record {
      coefficients = sym (ap (λ (w : Walked). w.coefficients) done) ∙ walk_coefficients a.srl_data.now a.raw_data.now ts a.coefficients.now a.sign.now start 0;
      sign = sym (ap (λ (w : Walked). w.sign) done) ∙ walk_signs a.srl_data.now a.raw_data.now ts a.coefficients.now a.sign.now start 0 enough;
      ends = record {
        srl = sym (ap (λ (w : Walked). w.srl) done) ∙ walk_reader a.srl_data.now a.raw_data.now ts a.coefficients.now a.sign.now start 0 enough;
        raw = sym (ap (λ (w : Walked). w.raw) done) ∙ walk_count a.srl_data.now a.raw_data.now ts a.coefficients.now a.sign.now start 0 enough;
        place = l.invariant.4.place;
      };
    }

pub slice_bounds-upgrade_band-count : goal.slice_bounds-upgrade_band-count
slice_bounds-upgrade_band-count c =
    let same : SameStep c.args.use_reduce_extrapolate c.args.prev c.args.curr c.loop-i.i c.stretch_at-stretch.result.to (band_step c.stretch_at-stretch.result.step) = c.stretch_at-stretch.ensures c.args.use_reduce_extrapolate c.bands_of_places-table.ensures c.band_ends-ends.ensures in
    search (rules, same.begins, same.ends)

pub slice_bounds-upgrade_band-start : goal.slice_bounds-upgrade_band-start
slice_bounds-upgrade_band-start c =
    let same : SameStep c.args.use_reduce_extrapolate c.args.prev c.args.curr c.loop-i.i c.stretch_at-stretch.result.to (band_step c.stretch_at-stretch.result.step) = c.stretch_at-stretch.ensures c.args.use_reduce_extrapolate c.bands_of_places-table.ensures c.band_ends-ends.ensures in
    search (rules, same.begins, same.ends)

pub slice_bounds-upgrade_band-end : goal.slice_bounds-upgrade_band-end
slice_bounds-upgrade_band-end c =
    let same : SameStep c.args.use_reduce_extrapolate c.args.prev c.args.curr c.loop-i.i c.stretch_at-stretch.result.to (band_step c.stretch_at-stretch.result.step) = c.stretch_at-stretch.ensures c.args.use_reduce_extrapolate c.bands_of_places-table.ensures c.band_ends-ends.ensures in
    search (rules, same.begins, same.ends)

pub slice_bounds-upgrade_band-count-in-loop-i : goal.slice_bounds-upgrade_band-count-in-loop-i
slice_bounds-upgrade_band-count-in-loop-i c =
    let same : SameStep c.args.use_reduce_extrapolate c.args.prev c.args.curr c.loop-i.i c.stretch_at-stretch.result.to (band_step c.stretch_at-stretch.result.step) = c.stretch_at-stretch.ensures c.args.use_reduce_extrapolate c.bands_of_places-table.ensures c.band_ends-ends.ensures in
    search (rules, same.begins, same.ends)

pub slice_bounds-upgrade_band-start-in-loop-i : goal.slice_bounds-upgrade_band-start-in-loop-i
slice_bounds-upgrade_band-start-in-loop-i c =
    let same : SameStep c.args.use_reduce_extrapolate c.args.prev c.args.curr c.loop-i.i c.stretch_at-stretch.result.to (band_step c.stretch_at-stretch.result.step) = c.stretch_at-stretch.ensures c.args.use_reduce_extrapolate c.bands_of_places-table.ensures c.band_ends-ends.ensures in
    search (rules, same.begins, same.ends)

pub slice_bounds-upgrade_band-end-in-loop-i : goal.slice_bounds-upgrade_band-end-in-loop-i
slice_bounds-upgrade_band-end-in-loop-i c =
    let same : SameStep c.args.use_reduce_extrapolate c.args.prev c.args.curr c.loop-i.i c.stretch_at-stretch.result.to (band_step c.stretch_at-stretch.result.step) = c.stretch_at-stretch.ensures c.args.use_reduce_extrapolate c.bands_of_places-table.ensures c.band_ends-ends.ensures in
    search (rules, same.begins, same.ends)
