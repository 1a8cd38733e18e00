-- A pass by the source's rule that goes on from the coefficients' own cut at the previous positions, as a statement: every value fits its width.
-- It holds for every list of steps.
use Rattle.std.specs.Prelude.{◌≡◌, ◌≢◌, Bool, false, List, [], ◌∷◌, ℕ, ◌+◌, ℤ, Some}
use Rattle.fixed.specs.Fixed.{sign_of}
use Rattle.fixed.specs.Cut.{toward_zero}
use Rattle.answer.specs.declared.Refusal.TheVariants.{MagnitudeOutOfRange}
use Rattle.upgrade_steps.specs.Steps.{Step, steps}
use Rattle.progressive_encoder.specs.Encode.{floor_rule, encode_pass_refusal}
use Rattle.progressive.specs.Laws.{Sent}

-- a place where a pass goes on from the coefficient's own cut: c is the coefficient, p the previous one, s its sign
pub record OwnCut (t : Step) (c p s : ℤ) : Type 0 where
  -- the coefficient has no bits below the current position
  pub whole : toward_zero t.position c ≡ c
  -- the previous one is the same without the bits below the previous position
  pub from : toward_zero (t.position + t.width) c ≡ p
  -- and outside the bottom the sign is its own
  pub own : t.bottom ≡ false → sign_of p ≡ s

-- at every place of a list of steps
pub data OwnCuts : List Step → List ℤ → List ℤ → List ℤ → Type 0 where
  none : {cs ps ss : List ℤ} → OwnCuts [] cs ps ss
  own : {t : Step} {c p s : ℤ} {ts : List Step} {cs ps ss : List ℤ} → OwnCut t c p s → OwnCuts ts cs ps ss → OwnCuts (t ∷ ts) (c ∷ cs) (p ∷ ps) (s ∷ ss)

-- the values of such a pass all fit
pub record OwnCutsSent : Type 0 where
  -- no value is refused by 5, and no raw number has more bits than its width
  pub sent : (ts : List Step) (cs ps ss : List ℤ) → OwnCuts ts cs ps ss → Sent floor_rule ts cs ps ss
  -- so the writer never refuses it by 5
  pub never_5 : (cs ps ss : List ℤ) (prev curr : List ℕ) (e : Bool) (srlOut rawOut : List ℕ)
      → OwnCuts (steps e prev curr) cs ps ss → encode_pass_refusal floor_rule cs ps prev curr ss e srlOut rawOut ≢ Some MagnitudeOutOfRange
