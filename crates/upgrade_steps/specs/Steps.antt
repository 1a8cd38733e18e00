-- The steps of an upgrade pass over one component, and where each place's value comes from (docs/SCOPE.md, "Upgrade pass"): what the reader and the
-- writer of a pass share. A pass is a list of steps, one for each place. Everything below holds for every list of steps.
use Rattle.std.specs.Prelude.{Bool, true, false, List, [], ◌∷◌, ℕ, zero, suc, ◌-◌, ℤ}
use Rattle.fixed.specs.Fixed.{is_zero}
use Rattle.bands.specs.Bands.{is_bottom_band, position_of, per_place}

-- ════ the steps of a pass ════

-- what a pass does at a place: whether the place lies in the bottom band, the width of its band, and the current position
pub record Step : Type 0 where
  pub bottom : Bool
  pub width : ℕ
  pub position : ℕ

-- of a band: "width: the previous position minus the current one, or 0 where that is negative"
abbrev pub step_at : ℕ → ℕ → ℕ → Step
step_at b p q = record { bottom = is_bottom_band b; width = p - q; position = q }

-- of the band b of two rows
abbrev pub step_of : List ℕ → List ℕ → ℕ → Step
step_of prev curr b = step_at b (position_of prev b) (position_of curr b)

-- of each place of a component
abbrev pub steps : Bool → List ℕ → List ℕ → List Step
steps e prev curr = per_place e (step_of prev curr)

-- ════ where a place's value comes from ════

-- nowhere, the SRL stream or the raw stream
pub data Source : Type 0 where
  skipped : Source
  srl : Source
  raw : Source

-- by whether the place is in the bottom, its width, and whether its sign is zero: "a band of width 0 is skipped"; "one [SRL value] for
-- each zero sign outside the bottom"; "otherwise width raw bits"
abbrev pub source_of : Bool → ℕ → Bool → Source
source_of bottom zero unknown = skipped
source_of true (suc w) unknown = raw
source_of false (suc w) true = srl
source_of false (suc w) false = raw

-- of a place with this step and this sign
abbrev pub source : Step → ℤ → Source
source t s = source_of t.bottom t.width (is_zero s)

-- the widths of the SRL values that are read
abbrev pub srl_width : Source → ℕ → List ℕ → List ℕ
srl_width skipped w ws = ws
srl_width srl w ws = w ∷ ws
srl_width raw w ws = ws

-- of all places: "band by band, one for each zero sign outside the bottom"
unfoldable pub srl_widths : List Step → List ℤ → List ℕ
srl_widths [] ss = []
srl_widths (t ∷ ts) [] = []
srl_widths (t ∷ ts) (s ∷ ss) = srl_width (source t s) t.width (srl_widths ts ss)

-- and of the raw numbers
abbrev pub raw_width : Source → ℕ → List ℕ → List ℕ
raw_width skipped w ws = ws
raw_width srl w ws = ws
raw_width raw w ws = w ∷ ws

-- of all places
unfoldable pub raw_widths : List Step → List ℤ → List ℕ
raw_widths [] ss = []
raw_widths (t ∷ ts) [] = []
raw_widths (t ∷ ts) (s ∷ ss) = raw_width (source t s) t.width (raw_widths ts ss)
