-- The round trip of a pass, as a statement: what the writer wrote is read back, and where that brings a component to the writer's target.
-- It holds for every list of steps.
use Rattle.std.specs.Prelude.{◌≡◌, Bool, not, List, [], ◌∷◌, ℕ, ◌^◌, ◌≤◌, ◌<◌, ℤ, pos, length, None}
use Rattle.std.specs.Int.Signed.{mag}
use Rattle.fixed.specs.Fixed.{floor_shift, sign_of, with_sign}
use Rattle.fixed.specs.Cut.{cut_level, toward_zero, downward}
use Rattle.upgrade_steps.specs.Steps.{Step, Source, skipped, srl, raw, source, steps, raw_widths}
use Rattle.progressive_decoder.specs.Upgrade.{adds, srl_values, raw_numbers, upgraded_signs, upgraded_coefficients, decode_coefficients, decode_signs}
use Rattle.progressive_encoder.specs.Encode.{Rule, floor_rule, srl_differences, raw_differences, srl_bytes, raw_bytes, pass_fault, encode_pass_refusal}

-- ════ what the writer could send whole ════

-- each number has no more bits than its width, so that its low bits are all of it
pub data Small : List ℕ → List ℕ → Type 0 where
  none : Small [] []
  small : {w m : ℕ} {ws ms : List ℕ} → m < 2 ^ w → Small ws ms → Small (w ∷ ws) (m ∷ ms)

-- the values for both streams fit their widths
pub record Sent (r : Rule) (ts : List Step) (cs ps ss : List ℤ) : Type 0 where
  pub coefficients_long : length ts ≤ length cs
  pub previous_long : length ts ≤ length ps
  pub signs_long : length ts ≤ length ss
  pub srl_fits : pass_fault r ts cs ps ss ≡ None
  pub raw_fits : Small (raw_widths ts ss) (raw_differences r ts cs ps ss)

-- ════ the writer's target: the coefficient without the bits below the current position ════

-- at a place, by where its value goes: c is the coefficient, p the previous one. The SRL rule rounds down, the raw rule towards zero
abbrev pub cut_by : Source → ℕ → ℤ → ℤ → ℤ
cut_by skipped q c p = p
cut_by srl q c p = downward q c
cut_by raw q c p = toward_zero q c

-- of all places; what stands past the steps stays
unfoldable pub cuts : List Step → List ℤ → List ℤ → List ℤ → List ℤ
cuts [] cs ps ss = ps
cuts (t ∷ ts) [] ps ss = ps
cuts (t ∷ ts) (c ∷ cs) [] ss = []
cuts (t ∷ ts) (c ∷ cs) (p ∷ ps) [] = p ∷ ps
cuts (t ∷ ts) (c ∷ cs) (p ∷ ps) (s ∷ ss) = cut_by (source t s) t.position c p ∷ cuts ts cs ps ss

-- the sign then: at a place with an SRL value that of the target, elsewhere the same as before
abbrev pub cut_sign : Source → ℕ → ℤ → ℤ → ℤ
cut_sign skipped q c s = s
cut_sign srl q c s = sign_of (floor_shift c q)
cut_sign raw q c s = s

-- of all places
unfoldable pub cut_signs : List Step → List ℤ → List ℤ → List ℤ
cut_signs [] cs ss = ss
cut_signs (t ∷ ts) [] ss = ss
cut_signs (t ∷ ts) (c ∷ cs) [] = []
cut_signs (t ∷ ts) (c ∷ cs) (s ∷ ss) = cut_sign (source t s) t.position c s ∷ cut_signs ts cs ss

-- ════ where the writer's rules reach it ════

-- with raw bits: the coefficient lies on the side to which raw bits go (up where they are added, down where they are subtracted), no
-- nearer to zero than the previous one, and the previous one has no bits below the current position. So a negative coefficient of the
-- bottom, where raw bits are added, is not among these
pub record Onward (up : Bool) (q : ℕ) (c p : ℤ) : Type 0 where
  pub far : ℕ
  pub near : ℕ
  pub goal : c ≡ with_sign (not up) far
  pub from : p ≡ with_sign (not up) near
  pub further : near ≤ far
  pub range : mag c < 32768
  pub clean : cut_level q near ≡ near

-- with an SRL value: the previous coefficient is 0, as it is at a zero sign of a component that fits; positions and sixteen bits are as everywhere
abbrev pub Regained : Source → Step → ℤ → ℤ → ℤ → Type 0
Regained skipped t c p s = Unit {0}
Regained srl t c p s = (p ≡ pos 0) × (mag c < 32768) × (t.position ≤ 15)
Regained raw t c p s = Onward (adds t s) t.position c p

-- at every place of a list of steps
pub data Regains : List Step → List ℤ → List ℤ → List ℤ → Type 0 where
  none : {cs ps ss : List ℤ} → Regains [] cs ps ss
  regained : {t : Step} {c p s : ℤ} {ts : List Step} {cs ps ss : List ℤ} → Regained (source t s) t c p s → Regains ts cs ps ss → Regains (t ∷ ts) (c ∷ cs) (p ∷ ps) (s ∷ ss)

-- ════ the law ════

-- what was written is read back, and what that makes of a component
pub record PassRoundTrip : Type 0 where
  -- the reader gets every value that a writer sent, by whatever rule
  pub values : (r : Rule) (ts : List Step) (cs ps ss : List ℤ) → Sent r ts cs ps ss → srl_values ts (srl_bytes r ts cs ps ss) ss ≡ srl_differences r ts cs ps ss
  pub numbers : (r : Rule) (ts : List Step) (cs ps ss : List ℤ) → Sent r ts cs ps ss → raw_numbers ts (raw_bytes r ts cs ps ss) ss ≡ raw_differences r ts cs ps ss
  -- by the source's rule it comes from the previous coefficients and the signs to the target, and to the target's signs
  pub coefficients : (ts : List Step) (cs ps ss : List ℤ) → Sent floor_rule ts cs ps ss → Regains ts cs ps ss
      → upgraded_coefficients ts (srl_bytes floor_rule ts cs ps ss) (raw_bytes floor_rule ts cs ps ss) ps ss ≡ cuts ts cs ps ss
  pub signs : (ts : List Step) (cs ps ss : List ℤ) → Sent floor_rule ts cs ps ss → Regains ts cs ps ss
      → upgraded_signs ts (srl_bytes floor_rule ts cs ps ss) ss ≡ cut_signs ts cs ss
  -- the same of the two calls, one of which was accepted with some outputs
  pub calls : (cs ps ss : List ℤ) (prev curr : List ℕ) (e : Bool) (srlOut rawOut : List ℕ)
      → encode_pass_refusal floor_rule cs ps prev curr ss e srlOut rawOut ≡ None
      → Small (raw_widths (steps e prev curr) ss) (raw_differences floor_rule (steps e prev curr) cs ps ss)
      → Regains (steps e prev curr) cs ps ss
      → (decode_coefficients (srl_bytes floor_rule (steps e prev curr) cs ps ss) (raw_bytes floor_rule (steps e prev curr) cs ps ss) prev curr e ps ss ≡ cuts (steps e prev curr) cs ps ss)
      × (decode_signs (srl_bytes floor_rule (steps e prev curr) cs ps ss) prev curr e ps ss ≡ cut_signs (steps e prev curr) cs ss)
