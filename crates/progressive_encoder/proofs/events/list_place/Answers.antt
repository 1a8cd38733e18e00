-- `progressive_encoder::events::list_place` meets its contract: the place is counted by its class, or its value is listed. Assumes nothing.
use mathlib.Core.Path.{◌≡◌, sym, ap, ◌∙◌}
use native.Mathlib.Omega.{arith}
use lib.IntN.{nat_abs}
use mir.Syntax.{w16}
use mir.ValLaws.{to_z-of_z}
use Rattle.fixed.specs.Fixed.{with_sign}
use Rattle.upgrade_steps.specs.Inner.{band_step}
use Rattle.progressive_encoder.proofs.ListedEvents.{place_quiet, place_event, class_two}
use Rattle.progressive_encoder.proofs.events.list_place.Goals as goal

pub returns-then-class-lt2 : goal.returns-then-class-lt2
returns-then-class-lt2 g c =
    let a = c.args in (
      (λ s e. place_quiet g.R.Rule.rule (band_step a.t) a.c a.p s c.requires.0 a.words.now a.done.count a.done.zeros a.class _ e (omega (arith, c.if-class-lt2.true)) (omega (arith, c.if-class-lt2.true))),
      omega arith,
      omega (arith, c.if-class-lt2.true),
    )

pub returns : goal.returns
returns g c =
    let sided : g.R.Rule.rule.value c.args.t.position c.args.c c.args.p ≡ with_sign c.value_is_negative-negative.result (nat_abs (g.R.Rule.rule.value c.args.t.position c.args.c c.args.p)) = let a = c.args in
    let v : g.R.Rule.rule.value a.t.position _ _ ≡ g.R.Rule.rule.value a.t.position a.c a.p = λ i. g.R.Rule.rule.value a.t.position (to_z-of_z w16 a.c c.ranges.c i) (to_z-of_z w16 a.p c.ranges.p i) in
    sym v ∙ c.value_is_negative-negative.ensures ∙ ap (λ z. with_sign c.value_is_negative-negative.result (nat_abs z)) v in
    let size : c.value_magnitude-m.result ≡ nat_abs (g.R.Rule.rule.value c.args.t.position c.args.c c.args.p) = let a = c.args in
    c.value_magnitude-m.ensures ∙ (λ i. nat_abs (g.R.Rule.rule.value a.t.position (to_z-of_z w16 a.c c.ranges.c i) (to_z-of_z w16 a.p c.ranges.p i))) in
    let a = c.args in
    let r = g.R.Rule.rule in
    let q = a.t.position in
    let m = c.value_magnitude-m in
    let b = c.value_is_negative-negative in
    let is : r.value q a.c a.p ≡ with_sign b.result m.result = sided ∙ ap (with_sign b.result) (sym size) in (
      (λ s e.
          let two = class_two r (band_step a.t) a.c a.p s (omega (arith, e, c.if-class-lt2.false)) in
          place_event r (band_step a.t) a.c a.p s c.requires.0 a.words.now a.done.count a.done.zeros c.event_word.result m.result b.result (omega (arith, c.requires.3, c.requires.4)) (omega (arith, m.type_inv)) c.requires.1 (omega (arith, size, two.1)) (omega (arith, c.requires.5)) is c.event_word.ensures two.0),
      omega arith,
      omega arith,
    )
