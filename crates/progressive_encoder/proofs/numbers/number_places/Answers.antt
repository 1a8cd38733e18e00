-- `progressive_encoder::numbers::number_places` meets its contract: after each turn the places so far have their numbers. Assumes nothing.
use mathlib.Core.Path.{◌≡◌, ap, ◌∙◌}
use Prim.Native.Nat.{◌%◌, ◌^◌}
use native.Mathlib.Omega.{arith}
use lib.IntN.{pos}
use lib.ListN.{get_or}
use mir.Syntax.{w16}
use mir.ValLaws.{to_z-of_z}
use Rattle.progressive_encoder.proofs.Classed.{fills_next}
use Rattle.progressive_encoder.proofs.numbers.number_places.Goals as goal

pub loop-i-preserved : goal.loop-i-preserved
loop-i-preserved g c =
    let a = c.args in
    let l = c.loop-i in
    let r = g.R.Rule.rule in
    let x = get_or a.coefficients.now l.i (pos 0) in
    let y = get_or a.prev_coefficients.now l.i (pos 0) in
    let m : c.number-m.result ≡ r.number a.t.bottom a.t.position x y =
    c.number-m.ensures
    ∙ (λ j. r.number a.t.bottom a.t.position (to_z-of_z w16 x (record { sfits = c.number-arg-1.given }) j) (to_z-of_z w16 y (record { sfits = c.number-arg-in-loop-i-1.given }) j)) in
    fills_next (λ k. r.number a.t.bottom a.t.position (get_or a.coefficients.now k (pos 0)) (get_or a.prev_coefficients.now k (pos 0)) % 2 ^ a.t.width) l.numbers l.i c.low_bits.result (omega arith) (c.low_bits.ensures ∙ ap (λ n. n % 2 ^ a.t.width) m) l.invariant
