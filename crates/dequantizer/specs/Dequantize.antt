-- Dequantizing a component (docs/SCOPE.md, "Dequantizing").
use Rattle.std.specs.Prelude.{◌≡◌, Bool, cond, List, [], ◌∷◌, ℕ, ◌-◌, ltb, ℤ, get_or, ⊤, Option, Result}
use Rattle.fixed.specs.Fixed.{round_shift, shift_left_clamp}
use Rattle.bands.specs.Bands.{per_place}
use Rattle.bands.specs.Positions.{row_in_domain}
use Rattle.answer.specs.declared.Refusal.{Refusal}
use Rattle.answer.specs.declared.Refusal.TheVariants.{SliceTooShort, OutOfDomain}
use Rattle.answer.specs.Answers.{unless, first_of, long_enough, answered, unless_refused}

-- "a quantizer q above 6 shifts left q - 6 places and clamps; below 6 it adds 2^(5-q) and shifts right 6 - q places with floor; 6 leaves the value"
abbrev pub dequantized : ℕ → ℤ → ℤ
dequantized q c = cond (ltb 6 q) (shift_left_clamp c (q - 6)) (cond (ltb q 6) (round_shift c (6 - q)) c)

-- each coefficient by its own quantizer; what stands past the quantizers stays
unfoldable pub dequantized_all : List ℕ → List ℤ → List ℤ
dequantized_all [] cs = cs
dequantized_all (q ∷ qs) [] = []
dequantized_all (q ∷ qs) (c ∷ cs) = dequantized q c ∷ dequantized_all qs cs

-- the quantizer of each place
abbrev pub quantizers : Bool → List ℕ → List ℕ
quantizers e quant = per_place e (λ b. get_or quant b 0)

-- ════ `dequantize_component_ccq` ════

-- "order: .. 1, 2"
abbrev pub dequantize_refusal : List ℕ → List ℤ → Option Refusal
dequantize_refusal quant cs = first_of (unless (long_enough cs) SliceTooShort) (unless (row_in_domain quant) OutOfDomain)

-- the answer
abbrev pub dequantize_answer : List ℕ → List ℤ → Result ⊤ Refusal
dequantize_answer quant cs = answered (dequantize_refusal quant cs) tt

-- the coefficients then
abbrev pub dequantize_out : Bool → List ℕ → List ℤ → List ℤ
dequantize_out e quant cs = unless_refused (dequantize_refusal quant cs) (dequantized_all (quantizers e quant) cs) cs

-- what the call fixes: its answer, and the slice
pub record Dequantizes (e : Bool) (quant : List ℕ) (cs : List ℤ) (r : Result ⊤ Refusal) (cs' : List ℤ) : Type 0 where
  pub answer : r ≡ dequantize_answer quant cs
  pub coefficients : cs' ≡ dequantize_out e quant cs
