-- A state that `decode` hands back passes the decoder's test.
use mathlib.Core.Path.{◌≡◌}
use mathlib.Core.Bool.{true}
use mathlib.Core.List.{List}
use Prim.Native.Nat.{ℕ}
use Rattle.std.specs.Prelude.{Option, None, Some}
use Rattle.answer.specs.declared.Refusal.{Refusal}
use Rattle.answer.specs.Answers.{unless_refused}
use lib.ListN.{replicate}
use Rattle.srl_decoder.specs.Decode.{state_after, state_ok, decode_refusal}
use Rattle.srl.specs.Laws.{DecoderResumes}
use Rattle.srl_decoder.specs.declared.SrlState.{SrlState}
use Rattle.srl_decoder.proofs.States.{closed_ok}

-- a state that `decode` hands back is one that it accepts, where the one handed in was
pub resumes : DecoderResumes
resumes = record { again = λ s st room n w h. by (decode_refusal s st room n w) s st n w h }
  where
    by : (k : Option Refusal) (s : List ℕ) (st : SrlState) (n w : ℕ) → state_ok st ≡ true → state_ok (unless_refused k (state_after s st n w) st) ≡ true
    by None s st n w h = closed_ok s st (replicate n w) h
    by (Some k) s st n w h = h
