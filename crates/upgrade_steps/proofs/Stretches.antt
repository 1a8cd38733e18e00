-- The places of a pass, from band to band. Assumes nothing.
use mathlib.Core.Path.{◌≡◌, ap}
use mathlib.Core.Bool.{Bool}
use mathlib.Core.List.{List}
use Prim.Native.Nat.{ℕ, ◌<◌}
use native.Mathlib.Omega.{arith}
use lib.ListN.{length, take}
use lib.Seq.{length-take-le}
use Rattle.bands.proofs.Every.{row_low}
use Rattle.bands.proofs.Spread.{place_whole}
use Rattle.bands.proofs.Places.{band_by, end_by, stretch, stretch_more}
use Rattle.upgrade_steps.specs.Steps.{Step, step_of, steps}
use Rattle.upgrade_steps.specs.Inner.{SameStep}

-- from a place on to the end of its band
pub same_step : (e : Bool) (prev curr : List ℕ) (p to : ℕ) (t : Step) → p < 4096 → to ≡ end_by e p → t ≡ step_of prev curr (band_by e p) → SameStep e prev curr p to t
same_step e prev curr p to t h n u =
    let s = stretch e p h in
    record {
      begins = omega (arith, n, s.begins);
      ends = omega (arith, n, s.ends);
      few = omega (arith, n, s.few);
      more = rw (n, u) (stretch_more e (step_of prev curr) p h);
      narrow = λ q. omega (arith, ap (λ (x : Step). x.width) u, row_low prev (band_by e p) q);
      low = λ q. omega (arith, ap (λ (x : Step). x.position) u, row_low curr (band_by e p) q);
    }

-- as many places come before it as its number says
pub first_length : {e : Bool} {prev curr : List ℕ} {from to : ℕ} {t : Step} → SameStep e prev curr from to t → length (take from (steps e prev curr)) ≡ from
first_length {e = e} {prev = prev} {curr = curr} {from = from} p =
    length-take-le from (steps e prev curr) (omega (arith, place_whole e (step_of prev curr), p.begins, p.ends))
