-- The bits of an SRL stream that were missing: what a call's count says, at most how many, and none once the stream is long enough.
use mathlib.Core.Path.{◌≡◌, refl, sym, ap, ap₂, ◌∙◌}
use mathlib.Core.Bool.{Bool, true, false, not, ◌||◌, true≢false}
use mathlib.Core.List.{List, ◌++◌}
use Prim.Native.Nat.{ℕ, ◌+◌, ◌≤◌}
use native.Mathlib.Omega.{arith}
use lib.IntN.{ℤ}
use lib.ListN.{length, replicate, length-replicate}
use Rattle.bits.specs.Missing.{InStream, missing_in}
use Rattle.bits.proofs.Past.{same}
use Rattle.bits.proofs.Longer.{longer_bits, length_longer}
use Rattle.std.specs.Prelude.{Option, None, Some}
use Rattle.answer.specs.declared.Refusal.{Refusal}
use Rattle.answer.specs.declared.Refusal.TheVariants.{InvalidBitCount, ImpossibleState}
use Rattle.answer.specs.Answers.{unless, first_of, no_room, stored}
use Rattle.answer.proofs.Refusing.{first_none, unless_none, has_room}
use Rattle.srl_rules.specs.Rules.{width_ok}
use Rattle.srl_rules.proofs.Widths.{width_ok_width}
use Rattle.srl_decoder.specs.Srl.{Reader, reader_after}
use Rattle.srl_decoder.specs.Decode.{opened, missing_from, state_ok, due_among, width_fine, decode_refusal, decode_answer, decode_out, decoded, decoded_missing}
use Rattle.srl_decoder.specs.declared.SrlState.{SrlState}
use Rattle.srl_decoder.proofs.States.{state_ok_sound}
use Rattle.srl_decoder.proofs.Values.{alike}
use Rattle.srl_decoder.proofs.Missing.{values_read, values_missing_lem, values_ended, width_free_read}
use Rattle.srl_decoder.proofs.Most.{narrow_replicate, missing_most}
use Rattle.srl_decoder.proofs.Longer.{values_same, due_same}
use Rattle.srl.specs.Missing.{SrlMissingBits}
use Rattle.srl.proofs.Kept.{answers_kept}
use Rattle.srl.proofs.Back.{granted, back_reads, calls_back}

-- ════ a call ════

-- the count of an accepted call is that of its values
call_ended : (s : List ℕ) (st : SrlState) (room n w : ℕ) → decode_refusal s st room n w ≡ None
    → (decoded_missing (decode_answer s st room n w) ≡ 0 → InStream s (opened st).read (reader_after s (replicate n w) (opened st)).read)
    × (InStream s (opened st).read (reader_after s (replicate n w) (opened st)).read → decoded_missing (decode_answer s st room n w) ≡ 0)
call_ended s st room n w e =
    let m : decoded_missing (decode_answer s st room n w) ≡ missing_from s st n w = (answers_kept.decode_done s st room n w e).2 in
    let v = values_ended s (replicate n w) (opened st) in
    ((λ h. v.0 (sym m ∙ h)), λ h. m ∙ v.1 h)

-- the count of a refused one is 0
call_refused : (s : List ℕ) (st : SrlState) (room n w : ℕ) {k : Refusal} → decode_refusal s st room n w ≡ Some k → decoded_missing (decode_answer s st room n w) ≡ 0
call_refused s st room n w e = ap (λ (r : Option Refusal). decoded_missing (decoded r n (missing_from s st n w))) e

-- at a fine width, or where no nonzero value is due, and then as at width 1
missing_at : (s : List ℕ) (st : SrlState) (n w : ℕ) → state_ok st ≡ true → width_fine s st n w ≡ true → missing_from s st n w ≤ n + 32777
missing_at s st n w h = by (width_ok w) refl (due_among s (opened st) n) refl
  where
    low : (v : ℕ) → v ≤ 15 → missing_from s st n v ≤ n + 32777
    low v l = omega (arith, missing_most s (replicate n v) (opened st) (narrow_replicate n v l) (state_ok_sound st h).1, length-replicate n v)

    by : (b : Bool) → width_ok w ≡ b → (d : Bool) → due_among s (opened st) n ≡ d → (b || not d) ≡ true → missing_from s st n w ≤ n + 32777
    by true e d f g = low w (width_ok_width w e).1
    by false e false f g = omega (arith, low 1 (omega arith), ap missing_in (width_free_read s w 1 (opened st) n f))
    by false e true f g = absurd (true≢false (sym g))

call_most : (s : List ℕ) (st : SrlState) (room n w : ℕ) → decoded_missing (decode_answer s st room n w) ≤ room + 32777
call_most s st room n w = by (decode_refusal s st room n w) refl
  where
    by : (k : Option Refusal) → decode_refusal s st room n w ≡ k → decoded_missing (decoded k n (missing_from s st n w)) ≤ room + 32777
    by None e =
        let a = first_none (unless (state_ok st) ImpossibleState) _ e in
        let b = first_none (unless (width_fine s st n w) InvalidBitCount) (no_room room n) a.1 in
        omega (arith, missing_at s st n w (unless_none (state_ok st) ImpossibleState a.0) (unless_none (width_fine s st n w) InvalidBitCount b.0), has_room room n b.1)
    by (Some k) e = omega arith

-- ════ longer streams ════

-- k zero bytes behind a stream
call_longer : (s : List ℕ) (st : SrlState) (out : List ℤ) (n w k : ℕ)
    → (decode_refusal (s ++ replicate k 0) st (length out) n w ≡ decode_refusal s st (length out) n w) × (decode_out (s ++ replicate k 0) st out n w ≡ decode_out s st out n w)
call_longer s st out n w k =
    let t = s ++ replicate k 0 in
    let e : decode_refusal t st (length out) n w ≡ decode_refusal s st (length out) n w =
    ap (λ (d : Bool). first_of (unless (state_ok st) ImpossibleState) (first_of (unless (width_ok w || not d) InvalidBitCount) (no_room (length out) n))) (due_same t s (longer_bits s k) (opened st) n)
    in
    (e, ap₂ (λ (r : Option Refusal) (vs : List ℤ). stored r vs out) e (values_same t s (longer_bits s k) (replicate n w) (opened st)).0)

-- the statement, in its parts
pub missing : SrlMissingBits
missing = record {
  bits = values_read;
  closed = values_missing_lem;
  ended = values_ended;
  call = call_ended;
  refused = λ s st room n w k. call_refused s st room n w;
  in_a_row = λ s st asks g. (back_reads s asks st (opened st) g (alike (same refl))).1;
  accepted = granted;
  most = missing_most;
  most_call = call_most;
  fits = λ s st room n w h. omega (arith, call_most s st room n w);
  whole = λ cs asks a e. (calls_back cs asks a e).1;
  longer = λ s ws r k. values_same (s ++ replicate k 0) s (longer_bits s k) ws r;
  longer_call = call_longer;
  long_enough_lem = λ s ws r k h.
      let t = s ++ replicate k 0 in
      let e : (reader_after t ws r).read ≡ (reader_after s ws r).read = ap (λ (q : Reader). q.read) (values_same t s (longer_bits s k) ws r).1 in
      omega (arith, values_missing_lem t ws r, e, length_longer s k);
}
