-- Laws of a whole stream: the values' bytes, and then those of its end, which is refused where they leave too little room. Assumes nothing.
use mathlib.Core.Path.{◌≡◌, refl, sym, ap, ◌∙◌}
use mathlib.Core.Bool.{Bool, true, false}
use mathlib.Core.List.{List, ◌++◌, append_assoc, append-nil}
use Prim.Native.Nat.{ℕ, ◌+◌, ◌≤◌}
use native.Mathlib.Omega.{arith}
use lib.Dec.{ltb}
use lib.IntN.{ℤ}
use lib.ListN.{length, take, drop, length-append, length-drop, take-append-drop, drop_of_length-le}
use lib.Seq.{sets}
use borrow.Author.Tests.{lt-ltb, le-ltb, ltb-true, ltb-false, le-leb}
use Rattle.std.specs.Prelude.{Option, None, Some, Ok, Err}
use Rattle.std.proofs.lemmas.List.{drop-drop}
use Rattle.bits.proofs.Packed.{sets_start}
use Rattle.answer.specs.declared.Refusal.{Refusal}
use Rattle.answer.specs.Answers.{answered, stored}
use Rattle.srl_rules.specs.Rules.{width_ok}
use Rattle.srl_encoder.specs.Encode.{fresh_writer, writer_ok, call_bytes, call_after, fault}
use Rattle.srl_encoder.specs.Finish.{finish_bytes, finish_refusal, FinishesSrl}
use Rattle.srl_encoder.specs.Inner.{WroteCall, GoodWriter}
use Rattle.srl_encoder.specs.declared.SrlWriter.{SrlWriter}
use Rattle.srl_encoder.specs.declared.encoder.CallDone.{CallDone}
use Rattle.srl_encoder.proofs.EncodedCalls.{call_good}
use Rattle.srl_held.specs.Stream.{stream_bytes, stream_refusal, EncodesStream}

-- a state that is good passes the test
good_ok : (st : SrlWriter) → GoodWriter st → writer_ok st ≡ true
good_ok st g = simp (le-leb _ _ g.1, le-leb _ _ g.0.0, le-leb _ _ g.2, lt-ltb _ _ g.0.1)

-- the first state is good
fresh_good : GoodWriter fresh_writer
fresh_good = ((omega arith, omega arith), omega arith, omega arith)

-- bytes stored in an output of just their length
pub sets_all : (xs l : List ℕ) → length l ≡ length xs → sets l 0 xs ≡ xs
sets_all xs l h = sets_start xs l (omega arith) ∙ ap (λ (r : List ℕ). xs ++ r) (drop_of_length-le l (omega arith)) ∙ append-nil xs

module _ (w : ℕ) (vs : List ℤ) (out : List ℕ) where
  -- the bytes of the values, the state that they leave, and the room
  abbrev front : List ℕ
  front = call_bytes w fresh_writer vs

  abbrev last : SrlWriter
  last = call_after w fresh_writer vs

  abbrev rest : List ℕ
  rest = drop (length front) out

  -- what is known once the values fit and were written
  pub begun : {fresh : SrlWriter} {exceeds : Bool} {l o : List ℕ} {done : CallDone} → fresh ≡ fresh_writer → exceeds ≡ ltb (length out) (length (call_bytes w fresh vs)) → exceeds ≡ false
      → WroteCall w l fresh vs done o → (length front ≤ length out) × (done.count ≡ length front) × (done.state ≡ last)
  begun e x f d = (
    ltb-false _ _ (ap (λ (st : SrlWriter). ltb (length out) (length (call_bytes w st vs))) (sym e) ∙ sym x ∙ f),
    d.count ∙ ap (λ (st : SrlWriter). length (call_bytes w st vs)) e,
    d.state ∙ ap (λ (st : SrlWriter). call_after w st vs) e,
  )

  module _ (wide : width_ok w ≡ true) (none : fault w 0 vs ≡ None) (fits : length front ≤ length out) where
    -- the stream has room where its end has
    exceeds : ltb (length out) (length (stream_bytes w vs)) ≡ ltb (length rest) (length (finish_bytes last))
    exceeds = by (ltb (length rest) (length (finish_bytes last))) refl
      where
        by : (e : Bool) → ltb (length rest) (length (finish_bytes last)) ≡ e → ltb (length out) (length (stream_bytes w vs)) ≡ e
        by true q = lt-ltb _ _ (omega (arith, length-append front (finish_bytes last), length-drop (length front) out, ltb-true _ _ q))
        by false q = le-ltb _ _ (omega (arith, length-append front (finish_bytes last), length-drop (length front) out, ltb-false _ _ q))

    -- past the tests of the values the refusal is that of the end
    refusal_is : stream_refusal vs (length out) w ≡ finish_refusal last (length rest)
    refusal_is = simp (wide, none, good_ok last (call_good w fresh_writer vs fresh_good none), exceeds)

    -- a stream whose end is refused
    pub end_refused : {e : Refusal} {st : SrlWriter} {l o : List ℕ} → st ≡ last → l ≡ rest → FinishesSrl st l (Err e) o → EncodesStream vs out w (Err e) (take (length front) out ++ o)
    end_refused {e} {o = o} a b c = let f = rw (a, b) at c in by (finish_refusal last (length rest)) refusal_is f.answer f.out
      where
        by : (q : Option Refusal) → stream_refusal vs (length out) w ≡ q → Err e ≡ answered q (length (finish_bytes last)) → o ≡ stored q (finish_bytes last) rest
            → EncodesStream vs out w (Err e) (take (length front) out ++ o)
        by None s a b = absurd (cc)
        by (Some r) s a b = record {
          answer = a ∙ ap (λ (x : Option Refusal). answered x (length (stream_bytes w vs))) (sym s);
          out = ap (λ (l : List ℕ). take (length front) out ++ l) b ∙ take-append-drop (length front) out ∙ ap (λ (x : Option Refusal). stored x (stream_bytes w vs) out) (sym s);
        }

    -- and one whose end was stored
    pub end_stored : {m : ℕ} {st : SrlWriter} {l o : List ℕ} → st ≡ last → l ≡ rest → FinishesSrl st l (Ok m) o → EncodesStream vs out w (Ok (length front + m)) (front ++ o)
    end_stored {m} {o = o} a b c = let f = rw (a, b) at c in by (finish_refusal last (length rest)) refusal_is f.answer f.out
      where
        by : (q : Option Refusal) → stream_refusal vs (length out) w ≡ q → Ok m ≡ answered q (length (finish_bytes last)) → o ≡ stored q (finish_bytes last) rest
            → EncodesStream vs out w (Ok (length front + m)) (front ++ o)
        by None s a b =
            let long : m ≡ length (finish_bytes last) = cc in
            let all : length front + m ≡ length (stream_bytes w vs) = omega (arith, long, length-append front (finish_bytes last)) in
            record {
              answer = ap Ok all ∙ ap (λ (x : Option Refusal). answered x (length (stream_bytes w vs))) (sym s);
              out = ap (λ (l : List ℕ). front ++ l) (b ∙ ap (λ (l : List ℕ). finish_bytes last ++ l) (drop-drop (length (finish_bytes last)) (length front) out))
                  ∙ sym (append_assoc front (finish_bytes last) (drop (length front + length (finish_bytes last)) out))
                  ∙ ap (λ (n : ℕ). stream_bytes w vs ++ drop n out) (sym (length-append front (finish_bytes last)))
                  ∙ ap (λ (x : Option Refusal). stored x (stream_bytes w vs) out) (sym s);
            }
        by (Some r) s a b = absurd (cc)
