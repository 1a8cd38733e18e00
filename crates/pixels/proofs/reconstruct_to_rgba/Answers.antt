-- `pixels::reconstruct_to_rgba` meets its contract: past its tests the pixels are those of the coefficients. Assumes nothing.
use mathlib.Core.Path.{◌≡◌, sym, ◌∙◌}
use mathlib.Core.Bool.{true}
use native.Mathlib.Omega.{arith}
use borrow.Author.Tests.{le-leb}
use lib.Dec.{leb}
use lib.ListN.{length}
use Rattle.bands.specs.Positions.{row_in_domain}
use Rattle.pixels.proofs.Sampled.{Shown, shown}
use Rattle.pixels.proofs.reconstruct_to_rgba.Goals as goal

pub returns : goal.returns
returns c =
    let a = c.args in
    let written : Shown a.coefficients a.quants a.pixels.now c.write_pixels.new.pixels = shown a.pixels.now c.write_pixels.ensures in
    let long : leb 16384 (length a.pixels.now) ≡ true = le-leb 16384 (length a.pixels.now) (omega (arith, c.if-pixels-lt-PIXEL_BYTES.false)) in
    let low : row_in_domain a.positions ≡ true = sym c.positions_in_domain.ensures ∙ c.if-not-positions_in_domain.false in
    let low' : row_in_domain a.quants ≡ true = sym c.positions_in_domain-else-not-positions_in_domain.ensures ∙ c.if-not-positions_in_domain-2.false in
    let extrapolate : a.use_reduce_extrapolate ≡ true = c.if-not-use_reduce_extrapolate.false in
    record { answer = simp (long, low, low', extrapolate); pixels = simp (long, low, low', extrapolate) written.is }
