-- An upgrade pass over one component, read (docs/SCOPE.md, "Upgrade pass"; MS-RDPEGFX 3.3.8.2.1.2): the coefficients and signs after it.
-- A pass is a list of steps, one for each place (`Steps` of `upgrade_steps`). Everything below holds for every list of steps; what a slice has past them stays.
use Rattle.std.specs.Prelude.{◌≡◌, Bool, true, false, ◌&&◌, ◌||◌, List, [], ◌∷◌, ℕ, zero, suc, ℤ, pos, negsuc, Option, Result}
use Rattle.fixed.specs.Fixed.{add_scaled, sub_scaled, is_one}
use Rattle.bands.specs.Positions.{row_in_domain}
use Rattle.bits.specs.Bits.{numbers}
use Rattle.bits.specs.Missing.{read_numbers, missing_in}
use Rattle.srl_decoder.specs.Srl.{start, values}
use Rattle.srl_decoder.specs.Missing.{values_missing}
use Rattle.upgrade_steps.specs.Steps.{Step, Source, skipped, srl, raw, source, steps, srl_widths, raw_widths}
use Rattle.answer.specs.Answers.{unless, first_of, long_enough, answered, unless_refused, given_or}
use Rattle.answer.specs.declared.Refusal.{Refusal}
use Rattle.answer.specs.declared.Refusal.TheVariants.{SliceTooShort, OutOfDomain}
use Rattle.progressive_decoder.specs.declared.MissingBits.{MissingBits}

-- ════ what a value does at its place ════

-- "a nonzero SRL value times 2^current is added"
abbrev pub srl_coefficient : ℕ → ℤ → ℤ → ℤ
srl_coefficient q (pos zero) c = c
srl_coefficient q (pos (suc m)) c = add_scaled c (suc m) q
srl_coefficient q (negsuc m) c = sub_scaled c (suc m) q

-- "and sets the sign"
abbrev pub srl_sign : ℤ → ℤ → ℤ
srl_sign (pos zero) s = s
srl_sign (pos (suc m)) s = pos 1
srl_sign (negsuc m) s = negsuc 0

-- "it is added in the bottom band and where the sign is 1, and subtracted for every other sign"
abbrev pub adds : Step → ℤ → Bool
adds t s = t.bottom || is_one s

-- the coefficient after raw bits that form the number m; "sums clamp to -32768..32767"
abbrev pub raw_coefficient : Bool → ℕ → ℕ → ℤ → ℤ
raw_coefficient true q m c = add_scaled c m q
raw_coefficient false q m c = sub_scaled c m q

-- ════ all places, with the SRL values and the raw numbers that were read ════

-- a place's sign, and those behind it by what is left of the values; "signs of the bottom band are neither read nor set"
abbrev pub sign_then : Source → ℤ → List ℤ → (List ℤ → List ℤ) → List ℤ
sign_then skipped s vs rest = s ∷ rest vs
sign_then raw s vs rest = s ∷ rest vs
sign_then srl s [] rest = s ∷ rest []
sign_then srl s (v ∷ vs) rest = srl_sign v s ∷ rest vs

-- all signs, by the SRL values; those past the steps stay
unfoldable pub signs_after : List Step → List ℤ → List ℤ → List ℤ
signs_after [] ss vs = ss
signs_after (t ∷ ts) [] vs = []
signs_after (t ∷ ts) (s ∷ ss) vs = sign_then (source t s) s vs (signs_after ts ss)

-- a place's coefficient, and those behind it by what is left of the values and of the numbers
abbrev pub coefficient_then : Source → Step → ℤ → ℤ → List ℤ → List ℕ → (List ℤ → List ℕ → List ℤ) → List ℤ
coefficient_then skipped t c s vs ms rest = c ∷ rest vs ms
coefficient_then srl t c s [] ms rest = c ∷ rest [] ms
coefficient_then srl t c s (v ∷ vs) ms rest = srl_coefficient t.position v c ∷ rest vs ms
coefficient_then raw t c s vs [] rest = c ∷ rest vs []
coefficient_then raw t c s vs (m ∷ ms) rest = raw_coefficient (adds t s) t.position m c ∷ rest vs ms

-- all coefficients, by the SRL values and the raw numbers; those past the steps stay
unfoldable pub coefficients_after : List Step → List ℤ → List ℤ → List ℤ → List ℕ → List ℤ
coefficients_after [] cs ss vs ms = cs
coefficients_after (t ∷ ts) [] ss vs ms = []
coefficients_after (t ∷ ts) (c ∷ cs) [] vs ms = c ∷ cs
coefficients_after (t ∷ ts) (c ∷ cs) (s ∷ ss) vs ms = coefficient_then (source t s) t c s vs ms (coefficients_after ts cs ss)

-- ════ the pass ════

-- "all SRL values are read first, band by band"
abbrev pub srl_values : List Step → List ℕ → List ℤ → List ℤ
srl_values ts srl_data ss = values srl_data (srl_widths ts ss) start

-- "raw bits run on from band to band"
abbrev pub raw_numbers : List Step → List ℕ → List ℤ → List ℕ
raw_numbers ts raw_data ss = numbers raw_data (raw_widths ts ss) 0

-- the signs after a pass
abbrev pub upgraded_signs : List Step → List ℕ → List ℤ → List ℤ
upgraded_signs ts srl_data ss = signs_after ts ss (srl_values ts srl_data ss)

-- the coefficients after it
abbrev pub upgraded_coefficients : List Step → List ℕ → List ℕ → List ℤ → List ℤ → List ℤ
upgraded_coefficients ts srl_data raw_data cs ss =
    coefficients_after ts cs ss (srl_values ts srl_data ss) (raw_numbers ts raw_data ss)

-- ════ the bits that were missing ════

-- two counts by themselves
abbrev pub missing_bits : ℕ → ℕ → MissingBits
missing_bits m n = record { srl = m; raw = n }

-- of the SRL stream; "with no SRL value due the SRL stream is not read"
abbrev pub srl_missing : List Step → List ℕ → List ℤ → ℕ
srl_missing ts srl_data ss = values_missing srl_data (srl_widths ts ss) start

-- of the raw stream
abbrev pub raw_missing : List Step → List ℕ → List ℤ → ℕ
raw_missing ts raw_data ss = missing_in (read_numbers raw_data (raw_widths ts ss) 0)

-- "a pass gives two counts"
abbrev pub pass_missing : List Step → List ℕ → List ℕ → List ℤ → MissingBits
pass_missing ts srl_data raw_data ss = missing_bits (srl_missing ts srl_data ss) (raw_missing ts raw_data ss)

-- ════ `decode_upgrade_pass` ════

-- "order: .. 1, 2"; "stream bytes never cause [a refusal]", so they are not among its arguments
abbrev pub decode_pass_refusal : List ℕ → List ℕ → List ℤ → List ℤ → Option Refusal
decode_pass_refusal prev curr cs ss =
    first_of (unless (long_enough cs && long_enough ss) SliceTooShort) (unless (row_in_domain prev && row_in_domain curr) OutOfDomain)

-- what the call answers: the counts of missing bits, or the refusal
abbrev pub decode_pass_answer : List ℕ → List ℕ → List ℕ → List ℕ → Bool → List ℤ → List ℤ → Result MissingBits Refusal
decode_pass_answer srl_data raw_data prev curr e cs ss =
    answered (decode_pass_refusal prev curr cs ss) (pass_missing (steps e prev curr) srl_data raw_data ss)

-- the coefficients then
abbrev pub decode_coefficients : List ℕ → List ℕ → List ℕ → List ℕ → Bool → List ℤ → List ℤ → List ℤ
decode_coefficients srl_data raw_data prev curr e cs ss =
    unless_refused (decode_pass_refusal prev curr cs ss) (upgraded_coefficients (steps e prev curr) srl_data raw_data cs ss) cs

-- the signs then
abbrev pub decode_signs : List ℕ → List ℕ → List ℕ → Bool → List ℤ → List ℤ → List ℤ
decode_signs srl_data prev curr e cs ss =
    unless_refused (decode_pass_refusal prev curr cs ss) (upgraded_signs (steps e prev curr) srl_data ss) ss

-- the counts of missing bits: "a refusal gives 0 for every count"
abbrev pub decode_missing : List ℕ → List ℕ → List ℕ → List ℕ → Bool → List ℤ → List ℤ → MissingBits
decode_missing srl_data raw_data prev curr e cs ss = given_or (missing_bits 0 0) (decode_pass_answer srl_data raw_data prev curr e cs ss)

-- what the call fixes: its answer, with the counts of missing bits, and both slices
pub record DecodesPass (srl_data raw_data prev curr : List ℕ) (e : Bool) (cs ss : List ℤ) (r : Result MissingBits Refusal) (cs' ss' : List ℤ) : Type 0 where
  pub answer : r ≡ decode_pass_answer srl_data raw_data prev curr e cs ss
  pub coefficients : cs' ≡ decode_coefficients srl_data raw_data prev curr e cs ss
  pub sign : ss' ≡ decode_signs srl_data prev curr e cs ss
