-- The inverse wavelet of a component (docs/SCOPE.md, "Inverse wavelet").
use Rattle.std.specs.Prelude.{◌≡◌, ◌&&◌, List, ℤ, ⊤, Option, Result}
use Rattle.answer.specs.declared.Refusal.{Refusal}
use Rattle.answer.specs.declared.Refusal.TheVariants.{SliceTooShort}
use Rattle.answer.specs.Answers.{unless, long_enough, answered, unless_refused}
use Rattle.dwt_extrapolate.specs.Block.{scratch, block_at}

-- "three blocks of low/high samples, 9/8, 17/16 and 33/31, at offsets 3807, 3007 and 0": the first two
unfoldable pub inner : List ℤ → List ℤ
inner b = block_at 3007 17 16 (block_at 3807 9 8 b)

-- all three; what stands past 4,096 stays
unfoldable pub inverse : List ℤ → List ℤ
inverse b = block_at 0 33 31 (inner b)

-- "the scratch ends as the last block's rows"; what stands past them stays
unfoldable pub scratched : List ℤ → List ℤ → List ℤ
scratched b t = scratch 33 31 (inner b) t

-- ════ `decode` ════

-- 1: "a coefficient, sign or scratch slice under 4,096 elements"
abbrev pub inverse_refusal : List ℤ → List ℤ → Option Refusal
inverse_refusal b t = unless (long_enough b && long_enough t) SliceTooShort

-- the answer
abbrev pub inverse_answer : List ℤ → List ℤ → Result ⊤ Refusal
inverse_answer b t = answered (inverse_refusal b t) tt

-- the buffer then
abbrev pub inverse_buffer : List ℤ → List ℤ → List ℤ
inverse_buffer b t = unless_refused (inverse_refusal b t) (inverse b) b

-- the scratch then
abbrev pub inverse_scratch : List ℤ → List ℤ → List ℤ
inverse_scratch b t = unless_refused (inverse_refusal b t) (scratched b t) t

-- what the call fixes: its answer, and both slices
pub record Inverts (b t : List ℤ) (r : Result ⊤ Refusal) (b' t' : List ℤ) : Type 0 where
  pub answer : r ≡ inverse_answer b t
  pub buffer : b' ≡ inverse_buffer b t
  pub scratch : t' ≡ inverse_scratch b t
