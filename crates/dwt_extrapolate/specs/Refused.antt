-- What a refusal of `decode` leaves, as a statement (docs/SCOPE.md, "Refusals").
use Rattle.std.specs.Prelude.{◌≡◌, List, ℤ, Some}
use Rattle.answer.specs.declared.Refusal.{Refusal}
use Rattle.answer.specs.Answers.{number_of_answer, number as number_of_refusal}
use Rattle.dwt_extrapolate.specs.Transform.{inverse_refusal, inverse_answer, inverse_buffer, inverse_scratch}

-- "a refusal gives its number .. and alters no lent element"
pub record InverseRefusals : Type 0 where
  pub number : (b t : List ℤ) → number_of_answer (inverse_answer b t) ≡ number_of_refusal (inverse_refusal b t)
  pub kept : (b t : List ℤ) (refusal : Refusal) → inverse_refusal b t ≡ Some refusal → (inverse_buffer b t ≡ b) × (inverse_scratch b t ≡ t)
