-- The round trip of a pass by the symmetric rule over a target's own cut, as a statement: from the target cut at the previous positions the reader comes to
-- the target cut at the current ones. A target is a list of sixteen-bit numbers; xs and ys are what the slices hold past the places.
use Rattle.std.specs.Prelude.{◌≡◌, Bool, true, List, [], ◌∷◌, ◌++◌, ℕ, ◌+◌, ◌≤◌, ◌<◌, ℤ, pos, negsuc, length, get_or, replicate}
use Rattle.std.specs.Int.Signed.{mag}
use Rattle.bands.specs.Bands.{position_of}
use Rattle.bands.specs.Positions.{row_in_domain}
use Rattle.upgrade_steps.specs.Steps.{Step, steps, raw_widths}
use Rattle.upgrade_steps.specs.Cut.{cut_all, cut_signs_all, cut_component, cut_component_signs}
use Rattle.progressive_decoder.specs.Upgrade.{upgraded_signs, upgraded_coefficients, decode_coefficients, decode_signs}
use Rattle.progressive_encoder.specs.Encode.{symmetric_rule, srl_differences, raw_differences, srl_bytes, raw_bytes, no_room_for, encode_pass_refusal}
use Rattle.progressive.specs.Laws.{Small, Sent}

-- ════ a list of steps ════

-- the position before a step: "width: the previous position minus the current one"
abbrev pub before : Step → ℕ
before t = t.position + t.width

-- the target cut at the positions before
abbrev pub cut_before : List Step → List ℤ → List ℤ
cut_before ts cs = cut_all (λ t. t.bottom) before ts cs

-- with its signs
abbrev pub signs_before : List Step → List ℤ → List ℤ → List ℤ
signs_before ts cs ss = cut_signs_all (λ t. t.bottom) before ts cs ss

-- and at the current positions
abbrev pub cut_behind : List Step → List ℤ → List ℤ
cut_behind ts cs = cut_all (λ t. t.bottom) (λ t. t.position) ts cs

-- with its signs
abbrev pub signs_behind : List Step → List ℤ → List ℤ → List ℤ
signs_behind ts cs ss = cut_signs_all (λ t. t.bottom) (λ t. t.position) ts cs ss

-- a coefficient and a sign for each step; no position above 15, and sixteen bits
pub data Aimed : List Step → List ℤ → List ℤ → Type 0 where
  none : {cs ss : List ℤ} → Aimed [] cs ss
  aimed : {t : Step} {c s : ℤ} {ts : List Step} {cs ss : List ℤ} → before t ≤ 15 → mag c < 32768
      → Aimed ts cs ss → Aimed (t ∷ ts) (c ∷ cs) (s ∷ ss)

-- from ps with the signs ss, what is written for cs and read again brings ps' with the signs ss'
pub record Brings (ts : List Step) (cs ps ss ps' ss' : List ℤ) : Type 0 where
  -- no value is refused by 5, and no raw number has more bits than its width
  pub sent : Sent symmetric_rule ts cs ps ss
  pub coefficients : upgraded_coefficients ts (srl_bytes symmetric_rule ts cs ps ss) (raw_bytes symmetric_rule ts cs ps ss) ps ss
      ≡ ps'
  pub signs : upgraded_signs ts (srl_bytes symmetric_rule ts cs ps ss) ss ≡ ss'

-- for both streams cs' gives what cs gives
pub record Alike (ts : List Step) (cs cs' ps ss : List ℤ) : Type 0 where
  pub values : srl_differences symmetric_rule ts cs' ps ss ≡ srl_differences symmetric_rule ts cs ps ss
  pub numbers : raw_differences symmetric_rule ts cs' ps ss ≡ raw_differences symmetric_rule ts cs ps ss

-- ════ a component, from a row to another ════

-- what is asked of a target with the signs ss, and of two rows: "each is a whole number from 0 to 15 per band", none is raised
pub record CutAsked (prev curr : List ℕ) (cs ss : List ℤ) : Type 0 where
  pub coefficients_long : 4096 ≤ length cs
  pub signs_long : 4096 ≤ length ss
  pub sixteen_bits : (i : ℕ) → mag (get_or cs i (pos 0)) < 32768
  pub previous : row_in_domain prev ≡ true
  pub current : row_in_domain curr ≡ true
  pub no_raise : (b : ℕ) → position_of curr b ≤ position_of prev b

-- what the two calls give, from ps with the signs ss to ps' with the signs ss'
pub record CutCalls (e : Bool) (prev curr : List ℕ) (cs : List ℤ) (srlOut rawOut : List ℕ) (ps ss ps' ss' : List ℤ) : Type 0 where
  -- the writer refuses by 7 only, and only where an output is shorter than its stream
  pub refusal : encode_pass_refusal symmetric_rule cs ps prev curr ss e srlOut rawOut
      ≡ no_room_for (srl_bytes symmetric_rule (steps e prev curr) cs ps ss) srlOut
      (raw_bytes symmetric_rule (steps e prev curr) cs ps ss) rawOut
  -- no raw number has more bits than its width
  pub whole : Small (raw_widths (steps e prev curr) ss) (raw_differences symmetric_rule (steps e prev curr) cs ps ss)
  -- the reader comes to
  pub coefficients : decode_coefficients (srl_bytes symmetric_rule (steps e prev curr) cs ps ss)
      (raw_bytes symmetric_rule (steps e prev curr) cs ps ss) prev curr e ps ss ≡ ps'
  pub signs : decode_signs (srl_bytes symmetric_rule (steps e prev curr) cs ps ss) prev curr e ps ss ≡ ss'

-- ════ the law ════

-- -32768, 32767 and the numbers nearest to 0 in a component
abbrev pub extremes : List ℤ
extremes = negsuc 32767 ∷ pos 32767 ∷ pos 1 ∷ replicate 4093 (negsuc 0)

-- from a target's own cut to its next one
pub record CutRoundTrip : Type 0 where
  -- by every list of steps
  pub every : (ts : List Step) (cs ss xs ys : List ℤ) → Aimed ts cs ss
      → Brings ts cs
      (cut_before ts cs ++ xs) (signs_before ts cs ss ++ ys)
      (cut_behind ts cs ++ xs) (signs_behind ts cs ss ++ ys)
  -- by the two calls
  pub calls : (e : Bool) (prev curr : List ℕ) (cs ss xs ys : List ℤ) (srlOut rawOut : List ℕ) → CutAsked prev curr cs ss
      → CutCalls e prev curr cs srlOut rawOut
      (cut_component e prev cs ++ xs) (cut_component_signs e prev cs ss ++ ys)
      (cut_component e curr cs ++ xs) (cut_component_signs e curr cs ss ++ ys)
  -- the writer may be given the target, or the target cut at the current positions
  pub cut_or_not : (ts : List Step) (cs ss xs ys : List ℤ) → Aimed ts cs ss
      → Alike ts cs (cut_behind ts cs) (cut_before ts cs ++ xs) (signs_before ts cs ss ++ ys)
  -- there are such targets, also from positions 15 to 0
  pub met : CutAsked (replicate 10 15) (replicate 10 0) extremes (replicate 4096 (pos 0))
