-- `progressive_decoder::upgrade::raw_list` meets its contract: the places up to the index are behind, and the word holds the next bits. Assumes nothing.
use mathlib.Core.Path.{◌≡◌, refl, sym, ap, ◌∙◌}
use Prim.Native.Nat.{◌+◌}
use native.Mathlib.Omega.{arith}
use lib.IntN.{ℤ, pos}
use lib.ListN.{get_or, set, drop, length-set}
use mir.Syntax.{w8, w16}
use mir.Val.{to_z, of_z}
use mir.ValLaws.{to_z-of_z}
use Rattle.fixed.proofs.Machine.{got}
use Rattle.bits.specs.Bits.{num}
use Rattle.bits.proofs.Numbers.{num_lt, num_none}
use Rattle.bits.proofs.Tops.{top_take, top_skip}
use Rattle.srl_rules.proofs.Widths.{pow_high}
use Rattle.upgrade_steps.specs.Steps.{raw}
use Rattle.upgrade_steps.specs.Inner.{band_step}
use Rattle.progressive_decoder.specs.Upgrade.{adds, raw_coefficient}
use Rattle.progressive_decoder.specs.Inner.{walked, over}
use Rattle.progressive_decoder.proofs.Listed.{turn_raw, turn_end}
use Rattle.progressive_decoder.proofs.upgrade.raw_list.Goals as goal

pub loop-place-init : goal.loop-place-init
loop-place-init c =
    let a = c.args in
    (omega arith, refl, record { fits = omega arith; is = omega (arith, num_none a.raw_data.now a.from) }, λ s q. refl)

pub refill-word-requires : goal.refill-word-requires
refill-word-requires c = (c.requires.0.1, c.loop-place.invariant.2)

pub overflow_cast-m : goal.overflow_cast-m
overflow_cast-m c =
    let number : c.top-m.result ≡ num c.args.raw_data.now c.loop-place.at c.args.t.width = let a = c.args in
    let r = c.refill-word in
    c.top-m.ensures ∙ top_take r.result.count a.t.width r.result.bits a.raw_data.now c.loop-place.at r.ensures.0 r.ensures.1 in
    record { fits = omega (arith, number, num_lt c.args.raw_data.now c.loop-place.at c.args.t.width, pow_high c.args.t.width c.requires.0) }

pub loop-place-preserved : goal.loop-place-preserved
loop-place-preserved c =
    let number : c.top-m.result ≡ num c.args.raw_data.now c.loop-place.at c.args.t.width = let a = c.args in
    let r = c.refill-word in
    c.top-m.ensures ∙ top_take r.result.count a.t.width r.result.bits a.raw_data.now c.loop-place.at r.ensures.0 r.ensures.1 in
    let a = c.args in
    let l = c.loop-place in
    let d = a.raw_data.now in
    let w = a.t.width in
    let i = get_or a.list.now l.place-index 0 in
    let r = c.refill-word in
    let x = get_or l.coefficients i (pos 0) in
    let y = get_or a.sign.now i (pos 0) in
    let sum : c.adds_raw.result ≡ adds (band_step a.t) y = c.adds_raw.ensures ∙ ap (adds (band_step a.t)) (to_z-of_z w8 y (record { sfits = c.adds_raw-arg-1.given })) in
    let m = number in
    let z = to_z-of_z w16 x (record { sfits = c.moved-arg-1.given }) in
    let v : to_z w16 (of_z w16 c.moved.result) ≡ raw_coefficient (adds (band_step a.t) y) a.t.position (num d l.at w) x = got w16 c.moved.type_inv (c.moved.ensures ∙ (λ e. raw_coefficient (sum e) a.t.position (m e) (z e))) in (
      omega (arith, l.invariant.0, c.requires.0.1),
      length-set l.coefficients i (to_z w16 (of_z w16 c.moved.result)) ∙ l.invariant.1,
      rw c.behind-bits.ensures (top_skip r.result.count w r.result.bits d l.at r.ensures.0 r.ensures.1),
      λ s q. l.invariant.3 s q
          ∙ turn_raw s d (band_step a.t) a.list.now l.coefficients a.sign.now q l.place-index l.at i c.loop-place-test.true refl
          ∙ ap (λ (e : ℤ). over raw s d (band_step a.t) (drop (l.place-index + 1) a.list.now) (walked (set l.coefficients i e) a.sign.now q (l.at + w))) (sym v),
    )

pub returns : goal.returns
returns c =
    let l = c.loop-place in
    λ s q. l.invariant.3 s q
    ∙ turn_end s c.args.raw_data.now (band_step c.args.t) c.args.list.now raw l.place-index (walked l.coefficients c.args.sign.now q l.at) (omega (arith, c.loop-place-test.false))
