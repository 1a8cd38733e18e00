-- For inner functions only: what the code has for the step of a band, and places in a row that have the same step.
use Rattle.std.specs.Prelude.{◌≡◌, Bool, true, false, cond, List, ◌++◌, ℕ, ◌-◌, ◌≤◌, ◌<◌, ℤ, take, replicate}
use Rattle.bands.specs.Positions.{row_in_domain}
use Rattle.fixed.specs.Fixed.{is_zero}
use Rattle.upgrade_steps.specs.declared.BandStep.{BandStep}
use Rattle.upgrade_steps.specs.Steps.{Step, steps}

-- what the code has for the step of a band
abbrev pub band_step : BandStep → Step
band_step t = record { bottom = t.bottom; width = t.width; position = t.position }

-- a place of a band that is not skipped has an SRL value
abbrev pub from_srl : Step → ℤ → Bool
from_srl t s = cond t.bottom false (is_zero s)

-- a walk over the places of a pass, from band to band: from a place on, up to another, all have the step t
pub record SameStep (e : Bool) (prev curr : List ℕ) (from to : ℕ) (t : Step) : Type 0 where
  pub begins : from < to
  pub ends : to ≤ 4096
  -- a band has at most 1,024 places
  pub few : to - from ≤ 1024
  pub more : take to (steps e prev curr) ≡ take from (steps e prev curr) ++ replicate (to - from) t
  -- positions in the domain make a width and a position of at most 15
  pub narrow : row_in_domain prev ≡ true → t.width ≤ 15
  pub low : row_in_domain curr ≡ true → t.position ≤ 15
