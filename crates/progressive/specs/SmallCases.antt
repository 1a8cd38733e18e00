-- Known passes of one place, as a table: what the symmetric rule gives, with its streams, and beside it what the source's rule gives.
-- `progressive::small_cases` proves it.
use Rattle.std.specs.Prelude.{◌≡◌, Bool, true, false, List, [], ◌∷◌, ◌++◌, map, ℕ, ◌-◌, ℤ, pos, negsuc, Option, None, Some}
use Rattle.answer.specs.declared.Refusal.{Refusal}
use Rattle.answer.specs.declared.Refusal.TheVariants.{MagnitudeOutOfRange}
use Rattle.answer.specs.Answers.{unless_refused}
use Rattle.upgrade_steps.specs.Steps.{Step}
use Rattle.progressive_encoder.specs.Encode.{Rule, floor_rule, symmetric_rule, srl_differences, raw_differences, srl_bytes, raw_bytes, pass_fault}

-- what a place gives: a value for the SRL stream or a number for the raw one, and the refusal if any
pub record Given : Type 0 where
  pub values : List ℤ
  pub numbers : List ℕ
  pub refusal : Option Refusal

-- a target at a place with this sign, over the previous coefficient, from a position to another; what each rule gives, and the streams of the symmetric one
pub record SmallCase : Type 0 where
  pub bottom : Bool
  pub sign : ℤ
  pub target : ℤ
  pub over : ℤ
  pub from : ℕ
  pub to : ℕ
  pub symmetric : Given
  pub srl : List ℕ
  pub raw : List ℕ
  pub source : Given

-- an SRL value
abbrev pub value : ℤ → Given
value v = record { values = v ∷ []; numbers = []; refusal = None }

-- one that is refused by 5
abbrev pub refused : ℤ → Given
refused v = record { values = v ∷ []; numbers = []; refusal = Some MagnitudeOutOfRange }

-- a raw number
abbrev pub number : ℕ → Given
number m = record { values = []; numbers = m ∷ []; refusal = None }

-- at a zero sign outside the bottom: 7 and -7; -1; the cut of a difference, which is not the difference of cuts; differences of more than sixteen bits; -32768
abbrev pub unknown : List SmallCase
unknown =
    record { bottom = false; sign = pos 0; target = pos 7; over = pos 0; from = 3; to = 1; symmetric = value (pos 3); srl = 0x80 ∷ 0x00 ∷ []; raw = []; source = value (pos 3) }
    ∷ record { bottom = false; sign = pos 0; target = negsuc 6; over = pos 0; from = 3; to = 1; symmetric = value (negsuc 2); srl = 0xa0 ∷ 0x00 ∷ []; raw = []; source = refused (negsuc 3) }
    ∷ record { bottom = false; sign = pos 0; target = negsuc 0; over = pos 0; from = 2; to = 1; symmetric = value (pos 0); srl = 0xc0 ∷ 0x00 ∷ []; raw = []; source = value (negsuc 0) }
    ∷ record { bottom = false; sign = pos 0; target = pos 2; over = pos 1; from = 3; to = 1; symmetric = value (pos 0); srl = 0xc0 ∷ 0x00 ∷ []; raw = []; source = value (pos 1) }
    ∷ record { bottom = false; sign = pos 0; target = pos 32767; over = negsuc 32767; from = 15; to = 0; symmetric = refused (pos 65535); srl = []; raw = []; source = value (pos 32767) }
    ∷ record { bottom = false; sign = pos 0; target = pos 32767; over = negsuc 32767; from = 15; to = 14; symmetric = refused (pos 3); srl = []; raw = []; source = refused (pos 3) }
    ∷ record { bottom = false; sign = pos 0; target = negsuc 32767; over = pos 0; from = 15; to = 0; symmetric = refused (negsuc 32767); srl = []; raw = []; source = refused (negsuc 32767) }
    ∷ []

-- at another sign outside the bottom, as before
abbrev pub known : List SmallCase
known =
    record { bottom = false; sign = negsuc 0; target = negsuc 13; over = negsuc 7; from = 3; to = 1; symmetric = number 3; srl = []; raw = 0xc0 ∷ []; source = number 3 }
    ∷ []

-- in the bottom: a negative one over 0; 100, of whose 50 the low bits 10 are written; negative ones that rise
abbrev pub bottoms : List SmallCase
bottoms =
    record { bottom = true; sign = pos 0; target = negsuc 1; over = pos 0; from = 3; to = 1; symmetric = number 0; srl = []; raw = 0x00 ∷ []; source = number 1 }
    ∷ record { bottom = true; sign = pos 0; target = pos 100; over = pos 0; from = 3; to = 1; symmetric = number 50; srl = []; raw = 0x80 ∷ []; source = number 50 }
    ∷ record { bottom = true; sign = pos 0; target = negsuc 4; over = negsuc 7; from = 3; to = 1; symmetric = number 1; srl = []; raw = 0x40 ∷ []; source = number 0 }
    ∷ record { bottom = true; sign = pos 0; target = negsuc 2; over = negsuc 3; from = 1; to = 0; symmetric = number 1; srl = []; raw = 0x80 ∷ []; source = number 0 }
    ∷ []

-- the table
abbrev pub small_cases : List SmallCase
small_cases = unknown ++ known ++ bottoms

-- the pass of a case: its one step
abbrev pub steps_as : SmallCase → List Step
steps_as k = record { bottom = k.bottom; width = k.from - k.to; position = k.to } ∷ []

-- a list of one number
abbrev pub only : ℤ → List ℤ
only c = c ∷ []

-- what the definitions give for it by a rule
abbrev pub given_by : Rule → SmallCase → Given
given_by r k = record {
  values = srl_differences r (steps_as k) (only k.target) (only k.over) (only k.sign);
  numbers = raw_differences r (steps_as k) (only k.target) (only k.over) (only k.sign);
  refusal = pass_fault r (steps_as k) (only k.target) (only k.over) (only k.sign);
}

-- the bytes of the SRL stream; "a refusal gives its number, zero lengths and counts"
abbrev pub srl_as : SmallCase → List ℕ
srl_as k = unless_refused (given_by symmetric_rule k).refusal (srl_bytes symmetric_rule (steps_as k) (only k.target) (only k.over) (only k.sign)) []

-- and of the raw stream
abbrev pub raw_as : SmallCase → List ℕ
raw_as k = unless_refused (given_by symmetric_rule k).refusal (raw_bytes symmetric_rule (steps_as k) (only k.target) (only k.over) (only k.sign)) []

-- each case is what the definitions give
pub record SmallCases : Type 0 where
  pub symmetric : map (given_by symmetric_rule) small_cases ≡ map (λ k. k.symmetric) small_cases
  pub srl : map srl_as small_cases ≡ map (λ k. k.srl) small_cases
  pub raw : map raw_as small_cases ≡ map (λ k. k.raw) small_cases
  pub source : map (given_by floor_rule) small_cases ≡ map (λ k. k.source) small_cases
