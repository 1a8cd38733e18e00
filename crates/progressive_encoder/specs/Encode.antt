-- An upgrade pass over one component, written (docs/SCOPE.md, "Upgrade pass"; MS-RDPEGFX 3.2.8.1.5.2): the bytes of both streams. The steps, and where a place's
-- value goes, are the reader's too (`Steps` of `upgrade_steps`).
use Rattle.std.specs.Prelude.{◌≡◌, Bool, true, false, cond, ◌&&◌, ◌||◌, List, [], ◌∷◌, ◌++◌, ℕ, ◌-◌, ◌/◌, ◌^◌, ltb, ℤ, pos, negsuc, nat_abs, ◌-ℤ◌, length, Option, None, Some, Result}
use Rattle.fixed.specs.Fixed.{clamp_i16, floor_shift, is_negative, with_sign}
use Rattle.bands.specs.Positions.{row_in_domain}
use Rattle.bits.specs.Written.{bits_of_all, pack}
use Rattle.srl_encoder.specs.Finish.{stream_bits}
use Rattle.upgrade_steps.specs.Steps.{Step, Source, skipped, srl, raw, source, steps, srl_widths, raw_widths}
use Rattle.answer.specs.declared.Refusal.{Refusal}
use Rattle.answer.specs.declared.Refusal.TheVariants.{SliceTooShort, OutOfDomain, MagnitudeOutOfRange}
use Rattle.answer.specs.Answers.{unless, first_of, long_enough, no_room, answered, stored, number_of_answer, given_or}
use Rattle.progressive_encoder.specs.declared.Written.{Written}

-- ════ a rule: what a writer gives for a place. q is the current position, c the coefficient and p the previous one ════

-- two writers differ in nothing else
pub record Rule : Type 0 where
  -- the value for the SRL stream, at a zero sign outside the bottom
  pub value : ℕ → ℤ → ℤ → ℤ
  -- the number for the raw stream, by whether the place lies in the bottom
  pub number : Bool → ℕ → ℤ → ℤ → ℕ

-- ════ the source's rule, that of `encode_upgrade_pass` ════

-- "at a zero sign: both the coefficient and the previous coefficient are shifted right by the current position with floor, subtracted and clamped"
abbrev pub srl_difference : ℕ → ℤ → ℤ → ℤ
srl_difference q c p = clamp_i16 (floor_shift c q -ℤ floor_shift p q)

-- "at other signs their magnitudes are shifted and subtracted, not below 0"
abbrev pub raw_difference : ℕ → ℤ → ℤ → ℕ
raw_difference q c p = nat_abs c / 2 ^ q - nat_abs p / 2 ^ q

-- "the source's, by floor": in the bottom as elsewhere
abbrev pub floor_rule : Rule
floor_rule = record { value = srl_difference; number = λ bottom. raw_difference }

-- ════ the symmetric rule, that of `encode_upgrade_pass_symmetric` ════

-- "at a zero sign outside the bottom: the difference of the coefficients, not clamped, with its sign kept and its magnitude shifted right by the current position"
abbrev pub cut_difference : ℕ → ℤ → ℤ → ℤ
cut_difference q c p = with_sign (is_negative (c -ℤ p)) (nat_abs (c -ℤ p) / 2 ^ q)

-- "not below 0"
abbrev pub not_below : ℤ → ℕ
not_below (pos n) = n
not_below (negsuc n) = 0

-- "in the bottom: the difference of the two floors, not below 0"
abbrev pub floors_apart : ℕ → ℤ → ℤ → ℕ
floors_apart q c p = not_below (floor_shift c q -ℤ floor_shift p q)

-- "at other signs outside the bottom as above"
abbrev pub cut_number : Bool → ℕ → ℤ → ℤ → ℕ
cut_number true q c p = floors_apart q c p
cut_number false q c p = raw_difference q c p

-- "it writes a negative coefficient as its positive twin"
abbrev pub symmetric_rule : Rule
symmetric_rule = record { value = cut_difference; number = cut_number }

-- ════ all places ════

-- the values for the SRL stream
abbrev pub srl_given : Source → ℤ → List ℤ → List ℤ
srl_given skipped v vs = vs
srl_given srl v vs = v ∷ vs
srl_given raw v vs = vs

-- of all places, where all three lists have one
unfoldable pub srl_differences : Rule → List Step → List ℤ → List ℤ → List ℤ → List ℤ
srl_differences r [] cs ps ss = []
srl_differences r (t ∷ ts) [] ps ss = []
srl_differences r (t ∷ ts) (c ∷ cs) [] ss = []
srl_differences r (t ∷ ts) (c ∷ cs) (p ∷ ps) [] = []
srl_differences r (t ∷ ts) (c ∷ cs) (p ∷ ps) (s ∷ ss) =
    srl_given (source t s) (r.value t.position c p) (srl_differences r ts cs ps ss)

-- the numbers for the raw stream
abbrev pub raw_given : Source → ℕ → List ℕ → List ℕ
raw_given skipped m ms = ms
raw_given srl m ms = ms
raw_given raw m ms = m ∷ ms

-- of all places, where all three lists have one
unfoldable pub raw_differences : Rule → List Step → List ℤ → List ℤ → List ℤ → List ℕ
raw_differences r [] cs ps ss = []
raw_differences r (t ∷ ts) [] ps ss = []
raw_differences r (t ∷ ts) (c ∷ cs) [] ss = []
raw_differences r (t ∷ ts) (c ∷ cs) (p ∷ ps) [] = []
raw_differences r (t ∷ ts) (c ∷ cs) (p ∷ ps) (s ∷ ss) =
    raw_given (source t s) (r.number t.bottom t.position c p) (raw_differences r ts cs ps ss)

-- ════ the two streams ════

-- the whole SRL stream of values with these widths. The source's `has_srl_values` is whether there is one: "where there is none, .. the writer gives no SRL bytes"
abbrev pub srl_stream : List ℕ → List ℤ → List ℕ
srl_stream ws [] = []
srl_stream ws (v ∷ vs) = pack 0 0 (stream_bits 8 0 ws (v ∷ vs)) ++ (0 ∷ [])

-- "the low width bits are written"; "the raw writer pads its last byte with zeros"
abbrev pub raw_stream : List ℕ → List ℕ → List ℕ
raw_stream ws ms = pack 0 0 (bits_of_all ws ms)

-- of a pass
abbrev pub srl_bytes : Rule → List Step → List ℤ → List ℤ → List ℤ → List ℕ
srl_bytes r ts cs ps ss = srl_stream (srl_widths ts ss) (srl_differences r ts cs ps ss)

-- and its raw stream
abbrev pub raw_bytes : Rule → List Step → List ℤ → List ℤ → List ℤ → List ℕ
raw_bytes r ts cs ps ss = raw_stream (raw_widths ts ss) (raw_differences r ts cs ps ss)

-- ════ refusals ════

-- whether a value has "a magnitude above the maximum of its width"
unfoldable pub any_too_large : List ℕ → List ℤ → Bool
any_too_large [] vs = false
any_too_large (w ∷ ws) [] = false
any_too_large (w ∷ ws) (v ∷ vs) = ltb (2 ^ w - 1) (nat_abs v) || any_too_large ws vs

-- 5 where one has
abbrev pub values_fault : List ℕ → List ℤ → Option Refusal
values_fault ws vs = cond (any_too_large ws vs) (Some MagnitudeOutOfRange) None

-- of a pass
abbrev pub pass_fault : Rule → List Step → List ℤ → List ℤ → List ℤ → Option Refusal
pass_fault r ts cs ps ss = values_fault (srl_widths ts ss) (srl_differences r ts cs ps ss)

-- "7: the answer exceeds an output slice", of either stream
abbrev pub no_room_for : List ℕ → List ℕ → List ℕ → List ℕ → Option Refusal
no_room_for srlBs srlOut rawBs rawOut =
    first_of (no_room (length srlOut) (length srlBs)) (no_room (length rawOut) (length rawBs))

-- "the writer of a pass gives 1, 2, 5 and 7", the first of them in this order
abbrev pub encode_pass_refusal : Rule → List ℤ → List ℤ → List ℕ → List ℕ → List ℤ → Bool → List ℕ → List ℕ → Option Refusal
encode_pass_refusal r cs ps prev curr ss e srlOut rawOut =
    first_of (unless (long_enough cs && (long_enough ps && long_enough ss)) SliceTooShort)
    (first_of (unless (row_in_domain prev && row_in_domain curr) OutOfDomain)
    (first_of (pass_fault r (steps e prev curr) cs ps ss)
    (no_room_for (srl_bytes r (steps e prev curr) cs ps ss) srlOut (raw_bytes r (steps e prev curr) cs ps ss) rawOut)))

-- ════ what `encode_upgrade_pass` answers, and what it leaves in the two outputs ════

-- by how many bytes each stream has
abbrev pub bytes_of : ℕ → ℕ → Written
bytes_of n m = record { srl = n; raw = m }

-- these, or the refusal
abbrev pub written : Option Refusal → ℕ → ℕ → Result Written Refusal
written refusal n m = answered refusal (bytes_of n m)

-- the answer: how many bytes of each stream, or a refusal
abbrev pub encode_pass_answer : Rule → List ℤ → List ℤ → List ℕ → List ℕ → List ℤ → Bool → List ℕ → List ℕ → Result Written Refusal
encode_pass_answer r cs ps prev curr ss e srlOut rawOut =
    written (encode_pass_refusal r cs ps prev curr ss e srlOut rawOut)
    (length (srl_bytes r (steps e prev curr) cs ps ss))
    (length (raw_bytes r (steps e prev curr) cs ps ss))

-- the SRL output then; "on acceptance, elements past the answer are untouched"
abbrev pub encode_srl_out : Rule → List ℤ → List ℤ → List ℕ → List ℕ → List ℤ → Bool → List ℕ → List ℕ → List ℕ
encode_srl_out r cs ps prev curr ss e srlOut rawOut =
    stored (encode_pass_refusal r cs ps prev curr ss e srlOut rawOut) (srl_bytes r (steps e prev curr) cs ps ss) srlOut

-- the raw output then
abbrev pub encode_raw_out : Rule → List ℤ → List ℤ → List ℕ → List ℕ → List ℤ → Bool → List ℕ → List ℕ → List ℕ
encode_raw_out r cs ps prev curr ss e srlOut rawOut =
    stored (encode_pass_refusal r cs ps prev curr ss e srlOut rawOut) (raw_bytes r (steps e prev curr) cs ps ss) rawOut

-- what the call fixes: its answer, and both outputs
pub record EncodesPass (rule : Rule) (cs ps : List ℤ) (prev curr : List ℕ) (ss : List ℤ) (e : Bool) (srlOut rawOut : List ℕ) (r : Result Written Refusal) (srlOut' rawOut' : List ℕ) : Type 0 where
  pub answer : r ≡ encode_pass_answer rule cs ps prev curr ss e srlOut rawOut
  pub srl : srlOut' ≡ encode_srl_out rule cs ps prev curr ss e srlOut rawOut
  pub raw : rawOut' ≡ encode_raw_out rule cs ps prev curr ss e srlOut rawOut

-- ════ an answer by its parts: "a refusal gives its number, zero lengths and counts" ════

-- the number, 0 where the pass was written
abbrev pub written_number : Result Written Refusal → ℕ
written_number r = number_of_answer r

-- the bytes of the SRL stream
abbrev pub srl_count : Result Written Refusal → ℕ
srl_count r = (given_or (bytes_of 0 0) r).srl

-- the bytes of the raw stream
abbrev pub raw_count : Result Written Refusal → ℕ
raw_count r = (given_or (bytes_of 0 0) r).raw
