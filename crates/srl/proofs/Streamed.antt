-- Calls of `encode` in a row, and `finish`: what they write together, and the states between them. Assumes nothing.
use mathlib.Core.Path.{◌≡◌, refl, ap, sym, ◌∙◌}
use mathlib.Core.Bool.{Bool, true}
use mathlib.Core.List.{List, [], ◌∷◌, ◌++◌, append_assoc}
use Prim.Native.Nat.{ℕ}
use lib.IntN.{ℤ}
use lib.ListN.{length}
use borrow.Author.Tests.{lt-ltb, le-leb}
use Rattle.bits.specs.Written.{pack}
use Rattle.bits.proofs.Packed.{pack_append}
use Rattle.std.specs.Prelude.{None}
use Rattle.answer.specs.declared.Refusal.TheVariants.{InvalidBitCount, ImpossibleState}
use Rattle.answer.specs.Answers.{no_room}
use Rattle.answer.proofs.Refusing.{first_none, unless_none}
use Rattle.srl_rules.specs.Rules.{width_ok}
use Rattle.srl_encoder.specs.Encode.{call_bits, call_kp, call_zeros, bits_from, call_bytes, call_after, writer_ok, fault, encode_refusal}
use Rattle.srl_encoder.specs.Finish.{flush}
use Rattle.srl.specs.Laws.{EncodeCall, stream_from, EncoderResumes}
use Rattle.srl_encoder.specs.declared.SrlWriter.{SrlWriter}
use Rattle.srl_encoder.proofs.EncodedCalls.{writer_ok_good, call_good}

-- ════ the stream ════

-- the bits of some calls in a row, from kp and the pending zeros on, with those of the end
abbrev pub all_bits_of : ℕ → ℕ → List EncodeCall → List Bool
all_bits_of kp z [] = flush kp z
all_bits_of kp z (c ∷ cs) = call_bits c.width kp z c.given ++ all_bits_of (call_kp kp z c.given) (call_zeros z c.given) cs

-- the bytes of calls and of `finish`, one after another, are their bits packed, and a byte 0
pub stream_packed : (st : SrlWriter) (cs : List EncodeCall)
    → stream_from st cs ≡ pack st.current st.bit_count (all_bits_of st.kp st.pending_zeros cs) ++ (0 ∷ [])
stream_packed st [] = refl
stream_packed st (c ∷ cs) =
    let bs = bits_from c.width st c.given in
    let next = call_after c.width st c.given in
    let rest = all_bits_of next.kp next.pending_zeros cs in
    ap (λ l. call_bytes c.width st c.given ++ l) (stream_packed next cs)
    ∙ sym (append_assoc (call_bytes c.width st c.given) (pack next.current next.bit_count rest) (0 ∷ []))
    ∙ ap (λ l. l ++ (0 ∷ [])) (sym (pack_append bs rest 0 st.current st.bit_count))

-- ════ the state after an accepted call ════

-- an accepted call passed every test
pub accepted : (st : SrlWriter) (vs : List ℤ) (room w : ℕ) → encode_refusal st vs room w ≡ None
    → (writer_ok st ≡ true) × (width_ok w ≡ true) × (fault w st.pending_zeros vs ≡ None)
accepted st vs room w e =
    let state = first_none _ _ e in
    let width = first_none _ _ state.1 in
    let value = first_none (fault w st.pending_zeros vs) (no_room room (length (call_bytes w st vs))) width.1 in
    (unless_none (writer_ok st) ImpossibleState state.0, unless_none (width_ok w) InvalidBitCount width.0, value.0)

-- a state that `encode` hands back with bytes is one that it accepts
pub resumes : EncoderResumes
resumes = record {
  again = λ st vs room w e.
      let t = accepted st vs room w e in
      let g = call_good w st vs (writer_ok_good st t.0) t.2 in
      simp (le-leb _ _ g.1, le-leb _ _ g.0.0, le-leb _ _ g.2, lt-ltb _ _ g.0.1);
}
