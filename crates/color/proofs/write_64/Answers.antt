-- `color::write_64` meets its contract: those before i are stored. Assumes nothing.
use mathlib.Core.Path.{◌≡◌, refl, ap, ◌∙◌}
use Prim.Native.Nat.{◌+◌, ◌<◌}
use native.Mathlib.Omega.{arith}
use Rattle.color.specs.Inner.{answer}
use Rattle.color.proofs.Picture.{pixel_turn, written_on}
use Rattle.color.proofs.write_64.Goals as goal

pub loop-i-init : goal.loop-i-init
loop-i-init c =
    let a = c.args in
    let none : a.at + 0 ≡ a.at = omega arith in
    (omega arith, (refl, ap (answer a.y.now a.cb.now a.cr.now a.pixels.now) none))

pub loop-i-preserved : goal.loop-i-preserved
loop-i-preserved c =
    let l = c.loop-i in
    let a = c.args in
    let below : l.i < 64 = omega arith in
    let room = c.requires.1 in (
      omega arith,
      written_on a.y.now a.cb.now a.cr.now a.pixels.now l.pixels _ a.at (a.at + l.i) (a.at + (l.i + 1)) l.invariant.1
          (pixel_turn a.y.now a.cb.now a.cr.now l.pixels _ (a.at + l.i) (a.at + (l.i + 1)) _ (omega (arith, c.requires.0)) (room.0, room.1, omega (arith, room.2, l.invariant.1.0))
          (c.words-all.ensures l.i below) (omega arith) c.put_word.ensures),
    )

pub returns : goal.returns
returns c =
    let a = c.args in
    let l = c.loop-i in
    let all : a.at + 64 ≡ a.at + l.i = omega arith in
    (l.invariant.1.0, ap (answer a.y.now a.cb.now a.cr.now l.pixels) all ∙ l.invariant.1.1)
