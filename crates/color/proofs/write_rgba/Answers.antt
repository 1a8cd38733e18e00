-- `color::write_rgba` meets its contract: the blocks, and then the pixels, before the next are stored. Assumes nothing.
use mathlib.Core.Path.{◌≡◌, refl, sym, ap, ◌∙◌}
use Prim.Native.Nat.{ℕ, ◌+◌, ◌*◌, ◌/◌}
use native.Mathlib.Omega.{arith}
use lib.ListN.{length}
use Rattle.color.specs.Inner.{answer}
use Rattle.color.proofs.Picture.{written_on, pixels_left, pixels_done}
use Rattle.color.proofs.write_rgba.Goals as goal

pub loop-block-init : goal.loop-block-init
loop-block-init c = (refl, refl)

pub loop-block-preserved : goal.loop-block-preserved
loop-block-preserved c =
    let a = c.args in
    let l = c.loop-block in
    let behind : 64 * (l.block + 1) ≡ 64 * l.block + 64 = omega arith in
    written_on a.y.now a.cb.now a.cr.now a.pixels.now l.pixels _ 0 (64 * l.block) (64 * (l.block + 1)) l.invariant
    (c.write_64.ensures.0, ap (answer a.y.now a.cb.now a.cr.now c.write_64.new.pixels) behind ∙ c.write_64.ensures.1)

pub loop-at-init : goal.loop-at-init
loop-at-init c = (refl, refl)

pub loop-at-preserved : goal.loop-at-preserved
loop-at-preserved c =
    let m = c.loop-block in
    let a = c.args in
    let l = c.loop-at in
    written_on a.y.now a.cb.now a.cr.now m.pixels l.pixels _ (64 * (length a.y.now / 64)) l.at (l.at + 1) l.invariant c.write_one.ensures

pub returns : goal.returns
returns c =
    let l = c.loop-at in
    let m = c.loop-block in
    let a = c.args in
    let all : length a.y.now / 64 ≡ m.block = omega arith in
    sym (pixels_done a.y.now a.cb.now a.cr.now l.pixels l.at (omega arith))
    ∙ l.invariant.1
    ∙ ap (λ (b : ℕ). answer a.y.now a.cb.now a.cr.now m.pixels (64 * b)) all
    ∙ m.invariant.1
    ∙ pixels_left a.y.now a.cb.now a.cr.now a.pixels.now
