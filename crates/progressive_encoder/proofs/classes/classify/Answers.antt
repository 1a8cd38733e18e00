-- `progressive_encoder::classes::classify` meets its contract: after each turn the places so far have their classes. Assumes nothing.
use mathlib.Core.Path.{◌≡◌, ◌∙◌}
use native.Mathlib.Omega.{arith}
use lib.IntN.{pos}
use lib.ListN.{get_or}
use mir.Syntax.{w8, w16}
use mir.ValLaws.{to_z-of_z}
use Rattle.upgrade_steps.specs.Inner.{band_step}
use Rattle.progressive_encoder.specs.Inner.{class_of}
use Rattle.progressive_encoder.proofs.Classed.{fills_next}
use Rattle.progressive_encoder.proofs.classes.classify.Goals as goal

pub loop-i-preserved : goal.loop-i-preserved
loop-i-preserved g c =
    let a = c.args in
    let l = c.loop-i in
    let r = g.R.Rule.rule in
    let t = band_step a.t in
    let e : c.class_of.result ≡ class_of r t (get_or a.coefficients.now l.i (pos 0)) (get_or a.prev_coefficients.now l.i (pos 0)) (get_or a.sign.now l.i (pos 0)) =
    c.class_of.ensures
    ∙ (λ j. class_of r t (to_z-of_z w16 (get_or a.coefficients.now l.i (pos 0)) (record { sfits = c.class_of-arg-1.given }) j) (to_z-of_z w16 (get_or a.prev_coefficients.now l.i (pos 0)) (record { sfits = c.class_of-arg-in-loop-i-1.given }) j) (to_z-of_z w8 (get_or a.sign.now l.i (pos 0)) (record { sfits = c.class_of-arg-in-loop-i-2-1.given }) j)) in
    fills_next (λ k. class_of r t (get_or a.coefficients.now k (pos 0)) (get_or a.prev_coefficients.now k (pos 0)) (get_or a.sign.now k (pos 0))) l.classes l.i c.class_of.result (omega arith) e l.invariant
