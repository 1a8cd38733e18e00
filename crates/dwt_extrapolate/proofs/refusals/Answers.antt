-- `dwt_extrapolate::refusals` meets its contract. Assumes nothing.
use Rattle.answer.proofs.Refusing.{number_answered, kept}
use Rattle.dwt_extrapolate.specs.Transform.{inverse, scratched, inverse_refusal}
use Rattle.dwt_extrapolate.proofs.refusals.Goals as goal

pub returns : goal.returns
returns c = record {
  number = λ b t. number_answered (inverse_refusal b t) tt;
  kept = λ b t k e. (kept (inverse b) b e, kept (scratched b t) t e);
}
