-- The SRL encoder (docs/SCOPE.md, "SRL"; MS-RDPEGFX 3.1.8.1.5): the bits of each value, and what a call of `encode` answers and stores; `Finish` has the end of a stream.
use Rattle.std.specs.Prelude.{◌≡◌, Bool, true, false, cond, ◌&&◌, List, [], ◌∷◌, ◌++◌, ℕ, zero, suc, ◌+◌, ◌-◌, ◌/◌, ◌^◌, min, ltb, leb, ℤ, pos, negsuc, length, replicate, Option, None, Result}
use Rattle.bits.specs.Written.{bits_of, whole, after, writer}
use Rattle.bits.specs.declared.writer.BitWriter.{BitWriter}
use Rattle.answer.specs.declared.Refusal.{Refusal}
use Rattle.answer.specs.declared.Refusal.TheVariants.{InvalidBitCount, MagnitudeOutOfRange, ZeroRunTooLong, ImpossibleState}
use Rattle.answer.specs.Answers.{unless, first_of, no_room, answered, unless_refused, stored, number_of_answer, given_or}
use Rattle.srl_rules.specs.Rules.{width_ok}
use Rattle.srl_encoder.specs.declared.SrlWriter.{SrlWriter}

-- ════ bits ════

-- "a 1 unless the magnitude is the maximum"
abbrev pub stop : ℕ → ℕ → List Bool
stop w magnitude = cond (ltb magnitude (2 ^ w - 1)) (true ∷ []) []

-- "a sign bit (1 is negative), magnitude - 1 zeros, and a 1 unless ..": m is magnitude - 1
abbrev pub nonzero_bits : ℕ → Bool → ℕ → List Bool
nonzero_bits w negative m = negative ∷ (replicate m false ++ stop w (m + 1))

-- z zeros and then a nonzero value: "a bit 0 means 2^k zeros, then kp rises by 4, to at most 80. A bit 1 and k bits mean that many zeros".
-- The first argument bounds the number of steps: z + 1 is enough
abbrev pub run_bits : ℕ → ℕ → ℕ → List Bool
run_bits zero kp z = []
run_bits (suc f) kp z =
    cond (ltb z (2 ^ (kp / 8))) (true ∷ bits_of (kp / 8) z) (false ∷ run_bits f (min (kp + 4) 80) (z - 2 ^ (kp / 8)))

-- kp after it: "kp falls by 6, not below 0"
abbrev pub run_kp : ℕ → ℕ → ℕ → ℕ
run_kp zero kp z = kp
run_kp (suc f) kp z = cond (ltb z (2 ^ (kp / 8))) (kp - 6) (run_kp f (min (kp + 4) 80) (z - 2 ^ (kp / 8)))

-- what a value adds after z pending zeros: nothing where it is a zero itself, else the run and the value
abbrev pub value_bits : ℕ → ℕ → ℕ → ℤ → List Bool
value_bits w kp z (pos zero) = []
value_bits w kp z (pos (suc m)) = run_bits (suc z) kp z ++ nonzero_bits w false m
value_bits w kp z (negsuc m) = run_bits (suc z) kp z ++ nonzero_bits w true m

-- kp after it
abbrev pub value_kp : ℕ → ℕ → ℤ → ℕ
value_kp kp z (pos zero) = kp
value_kp kp z (pos (suc m)) = run_kp (suc z) kp z
value_kp kp z (negsuc m) = run_kp (suc z) kp z

-- the pending zeros after it
abbrev pub value_zeros : ℕ → ℤ → ℕ
value_zeros z (pos zero) = z + 1
value_zeros z (pos (suc m)) = 0
value_zeros z (negsuc m) = 0

-- the bits of a call's values
abbrev pub call_bits : ℕ → ℕ → ℕ → List ℤ → List Bool
call_bits w kp z [] = []
call_bits w kp z (v ∷ vs) = value_bits w kp z v ++ call_bits w (value_kp kp z v) (value_zeros z v) vs

-- kp after them
abbrev pub call_kp : ℕ → ℕ → List ℤ → ℕ
call_kp kp z [] = kp
call_kp kp z (v ∷ vs) = call_kp (value_kp kp z v) (value_zeros z v) vs

-- "zeros that are pending cross calls"
abbrev pub call_zeros : ℕ → List ℤ → ℕ
call_zeros z [] = z
call_zeros z (v ∷ vs) = call_zeros (value_zeros z v) vs

-- ════ bytes, and the state after a call ════

-- the state at the start of a stream
abbrev pub fresh_writer : SrlWriter
fresh_writer = record { kp = 8; pending_zeros = 0; current = 0; bit_count = 0 }

-- the bits that a state left unfinished, before the first byte of a call's output
abbrev pub sink : SrlWriter → BitWriter
sink st = writer 0 st.current st.bit_count

-- the bits of a call's values, from a state on
abbrev pub bits_from : ℕ → SrlWriter → List ℤ → List Bool
bits_from w st vs = call_bits w st.kp st.pending_zeros vs

-- "the whole bytes that this call completes"
abbrev pub call_bytes : ℕ → SrlWriter → List ℤ → List ℕ
call_bytes w st vs = whole st.current st.bit_count (bits_from w st vs)

-- the state after the call: the bits of an unfinished byte wait in it
abbrev pub call_after : ℕ → SrlWriter → List ℤ → SrlWriter
call_after w st vs =
    record {
      kp = call_kp st.kp st.pending_zeros vs;
      pending_zeros = call_zeros st.pending_zeros vs;
      current = (after (sink st) (bits_from w st vs)).current;
      bit_count = (after (sink st) (bits_from w st vs)).bit_count;
    }

-- ════ refusals ════

-- else refused by 8: "a coder state with kp above 80, a bit place above 7, .. more than 4,096 pending zeros (writer), or unfinished bits at or above 2^(bit place)"
abbrev pub writer_ok : SrlWriter → Bool
writer_ok st =
    leb st.kp 80 && (leb st.bit_count 7 && (leb st.pending_zeros 4096 && ltb st.current (2 ^ st.bit_count)))

-- by a value. 5: "a magnitude above the maximum of its width". 6: "more than 4,096 pending zeros"
abbrev pub value_fault : ℕ → ℕ → ℤ → Option Refusal
value_fault w z (pos zero) = unless (ltb z 4096) ZeroRunTooLong
value_fault w z (pos (suc m)) = unless (ltb m (2 ^ w - 1)) MagnitudeOutOfRange
value_fault w z (negsuc m) = unless (ltb m (2 ^ w - 1)) MagnitudeOutOfRange

-- "5 or 6 by the earlier value"
abbrev pub fault : ℕ → ℕ → List ℤ → Option Refusal
fault w z [] = None
fault w z (v ∷ vs) = first_of (value_fault w z v) (fault w (value_zeros z v) vs)

-- "order: 8, .. 4, then 5 or 6 by the earlier value, 7"; "`encode` refuses a bad width even for an empty list"
abbrev pub encode_refusal : SrlWriter → List ℤ → ℕ → ℕ → Option Refusal
encode_refusal st vs room w =
    first_of (unless (writer_ok st) ImpossibleState)
    (first_of (unless (width_ok w) InvalidBitCount)
    (first_of (fault w st.pending_zeros vs)
    (no_room room (length (call_bytes w st vs)))))

-- ════ the answer, the state after it, and what `out` holds then ════
-- "a refusal gives its number, zero lengths and counts, and the state handed in, and alters no lent element"

-- what `encode` answers
abbrev pub encode_answer : SrlWriter → List ℤ → ℕ → ℕ → Result ℕ Refusal
encode_answer st vs room w = answered (encode_refusal st vs room w) (length (call_bytes w st vs))

-- the state after it
abbrev pub encode_state : SrlWriter → List ℤ → ℕ → ℕ → SrlWriter
encode_state st vs room w = unless_refused (encode_refusal st vs room w) (call_after w st vs) st

-- what `out` holds after it
abbrev pub encode_out : SrlWriter → List ℤ → List ℕ → ℕ → List ℕ
encode_out st vs out w = stored (encode_refusal st vs (length out) w) (call_bytes w st vs) out

-- what the call fixes: its answer, the state, and the output
pub record EncodesSrl (st : SrlWriter) (vs : List ℤ) (o : List ℕ) (w : ℕ) (r : Result ℕ Refusal) (st' : SrlWriter) (o' : List ℕ) : Type 0 where
  pub answer : r ≡ encode_answer st vs (length o) w
  pub state : st' ≡ encode_state st vs (length o) w
  pub out : o' ≡ encode_out st vs o w

-- the number of an answer
abbrev pub encoded_number : Result ℕ Refusal → ℕ
encoded_number r = number_of_answer r

-- the count of bytes of an answer
abbrev pub encoded_count : Result ℕ Refusal → ℕ
encoded_count r = given_or 0 r
