-- `progressive_decoder::upgrade::upgrade_band` meets its contract: skipped, or its raw places and then its SRL places are all places. Assumes nothing.
use mathlib.Core.Path.{◌≡◌, sym, ap, ap₂, ◌∙◌, subst}
use mathlib.Core.Bool.{not}
use mathlib.Core.List.{List}
use Prim.Native.Nat.{ℕ, ◌+◌, ◌-◌, ◌*◌}
use native.Mathlib.Omega.{arith}
use lib.ListN.{length, take, replicate, length-take}
use Rattle.srl_decoder.specs.Decode.{opened}
use Rattle.srl_rules.specs.Inner.{Width}
use Rattle.upgrade_steps.specs.Steps.{srl, raw}
use Rattle.upgrade_steps.specs.Inner.{band_step, from_srl}
use Rattle.progressive_decoder.specs.Inner.{Walked, walked, walk, over, walked_by, srl_places, raw_places, PlacesWithin}
use Rattle.progressive_decoder.proofs.Listed.{Near, walk_listed, walk_near}
use Rattle.progressive_decoder.proofs.Walks.{walk_skipped, early_on}
use Rattle.progressive_decoder.proofs.Places.{split_whole, list_within}
use Rattle.progressive_decoder.proofs.upgrade.upgrade_band.Goals as goal

pub returns-then-t-eq0 : goal.returns-then-t-eq0
returns-then-t-eq0 c =
    let a = c.args in (
      walk_skipped a.srl_data.now a.raw_data.now (band_step a.t) (length a.coefficients.now) a.coefficients.now a.sign.now (opened a.from.srl) a.from.raw c.if-t-eq0.true,
      λ m y. early_on a.from m (40000 * length a.coefficients.now) y,
    )

pub raw_list-raw-requires : goal.raw_list-raw-requires
raw_list-raw-requires c =
    let wide : Width c.args.t.width = (omega (arith, c.if-t-eq0.false), c.requires.0) in
    let listed : (take c.split-n.result c.split-n.new.zeros ≡ srl_places (band_step c.args.t) c.args.sign.now) × (take (length c.args.sign.now - c.split-n.result) c.split-n.new.others ≡ raw_places (band_step c.args.t) c.args.sign.now) = split_whole (band_step c.args.t) c.args.sign.now c.split-n.result c.split-n.new.zeros c.split-n.new.others c.split-n.ensures in
    let w = wide in
    let p = c.requires in (
      w,
      omega (arith, p.1.raw_read),
      omega (arith, length-take (length c.args.sign.now - c.split-n.result) c.split-n.new.others, p.2, p.3),
      subst (PlacesWithin _) p.2 (list_within (λ s. not (from_srl (band_step c.args.t) s)) c.args.sign.now listed.1),
      p.2,
    )

pub srl_list-srl-requires : goal.srl_list-srl-requires
srl_list-srl-requires c =
    let wide : Width c.args.t.width = (omega (arith, c.if-t-eq0.false), c.requires.0) in
    let listed : (take c.split-n.result c.split-n.new.zeros ≡ srl_places (band_step c.args.t) c.args.sign.now) × (take (length c.args.sign.now - c.split-n.result) c.split-n.new.others ≡ raw_places (band_step c.args.t) c.args.sign.now) = split_whole (band_step c.args.t) c.args.sign.now c.split-n.result c.split-n.new.zeros c.split-n.new.others c.split-n.ensures in
    let w = wide in
    let p = c.requires in
    let same = c.raw_list-raw.auto.coefficients in (
      w,
      p.1.place,
      p.1.kp,
      omega (arith, p.1.srl_read_lem),
      omega (arith, length-take c.split-n.result c.split-n.new.zeros, c.split-n.ensures.few, p.2, p.3),
      subst (PlacesWithin _) (p.2 ∙ sym same) (list_within (from_srl (band_step c.args.t)) c.args.sign.now listed.0),
      p.2 ∙ sym same,
    )

pub returns : goal.returns
returns c =
    let wide : Width c.args.t.width = (omega (arith, c.if-t-eq0.false), c.requires.0) in
    let listed : (take c.split-n.result c.split-n.new.zeros ≡ srl_places (band_step c.args.t) c.args.sign.now) × (take (length c.args.sign.now - c.split-n.result) c.split-n.new.others ≡ raw_places (band_step c.args.t) c.args.sign.now) = split_whole (band_step c.args.t) c.args.sign.now c.split-n.result c.split-n.new.zeros c.split-n.new.others c.split-n.ensures in
    let w = wide in
    let a = c.args in
    let s = a.srl_data.now in
    let d = a.raw_data.now in
    let t = band_step a.t in
    let cs = a.coefficients.now in
    let ss = a.sign.now in
    let r = opened a.from.srl in
    let n = a.from.raw in
    let first = c.raw_list-raw in
    let last = c.srl_list-srl in
    let l = listed in
    let done : walk s d (replicate (length cs) t) cs ss r n ≡ walked_by last.new.coefficients last.new.sign (record { srl = last.result; raw = first.result }) =
    walk_listed s d t cs ss r n w.0 c.requires.2
    ∙ sym (ap₂ (λ (is os : List ℕ). over srl s d t is (over raw s d t os (walked cs ss r n))) l.0 l.1)
    ∙ ap (over srl s d t _) (first.ensures s r)
    ∙ last.ensures.0 d first.result in
    let near = subst (λ (w : Walked). Near w (r.read + 40000 * length cs) (n + 40000 * length cs)) done (walk_near s d t (length cs) cs ss r n w c.requires.1.kp) in
    (done, λ m y. record { place = last.ensures.1; kp = near.kp; srl_read_lem = omega (arith, near.srl_read_lem, y.srl_read_lem); raw_read = omega (arith, near.raw_read, y.raw_read) })
