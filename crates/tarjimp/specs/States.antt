-- The states of the SRL coders as numbers, as the C interface has them (docs/SCOPE.md, "Refusals": "to C a coder's state is numbers"; include/tarjimp.h).
use Rattle.std.specs.Prelude.{Bool, cond, ◌&&◌, List, [], ◌∷◌, ℕ, leb, eqb, get_or}
use Rattle.srl_decoder.specs.declared.SrlState.{SrlState}
use Rattle.srl_encoder.specs.declared.SrlWriter.{SrlWriter}

-- ════ the decoder's: byte, bit, kp, zero_run_remaining, nonzero_pending ════

-- no number "does not fit its field": a bit place and kp are bytes, and the flag is 0 or 1
abbrev pub reader_fits : List ℕ → Bool
reader_fits s = leb (get_or s 1 0) 255 && (leb (get_or s 2 0) 255 && leb (get_or s 4 0) 1)

-- the state that five numbers are
abbrev pub reader_of : List ℕ → SrlState
reader_of s =
    record {
      reader = record { byte_idx = get_or s 0 0; bit_idx = get_or s 1 0 };
      kp = get_or s 2 0;
      zero_run_remaining = get_or s 3 0;
      nonzero_pending = eqb (get_or s 4 0) 1;
    }

-- the five numbers of a state
abbrev pub reader_numbers : SrlState → List ℕ
reader_numbers st =
    st.reader.byte_idx ∷ st.reader.bit_idx ∷ st.kp ∷ st.zero_run_remaining ∷ cond st.nonzero_pending 1 0 ∷ []

-- ════ the encoder's: kp, pending_zeros, current, bit_count ════

-- no number "does not fit its field": kp, the unfinished bits and their count are bytes
abbrev pub writer_fits : List ℕ → Bool
writer_fits s = leb (get_or s 0 0) 255 && (leb (get_or s 2 0) 255 && leb (get_or s 3 0) 255)

-- the state that four numbers are
abbrev pub writer_of : List ℕ → SrlWriter
writer_of s = record { kp = get_or s 0 0; pending_zeros = get_or s 1 0; current = get_or s 2 0; bit_count = get_or s 3 0 }

-- the four numbers of a state
abbrev pub writer_numbers : SrlWriter → List ℕ
writer_numbers st = st.kp ∷ st.pending_zeros ∷ st.current ∷ st.bit_count ∷ []
