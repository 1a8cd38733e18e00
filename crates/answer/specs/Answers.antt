-- Answers and refusals (docs/SCOPE.md, "Refusals"). A definition of each call says which refusal it gives, if any; the rest follows from that.
use Rattle.std.specs.Prelude.{◌≡◌, ◌≢◌, Bool, cond, List, [], ◌∷◌, ◌++◌, ℕ, leb, ltb, ◌<◌, length, drop, get_or, Option, None, Some, Result, Ok, Err, MatchResult}
use Rattle.answer.specs.declared.Refusal.{Refusal}
use Rattle.answer.specs.declared.Refusal.TheVariants.{SliceTooShort, OutOfDomain, StandardLayout, InvalidBitCount, MagnitudeOutOfRange, ZeroRunTooLong, OutputTooShort, ImpossibleState}
use Rattle.answer.specs.declared.UnknownNumber.{UnknownNumber}

-- ════ the numbers ════

-- the number of each refusal, by the table: "number | word"
abbrev pub number_of : Refusal → ℕ
number_of SliceTooShort = 1
number_of OutOfDomain = 2
number_of StandardLayout = 3
number_of InvalidBitCount = 4
number_of MagnitudeOutOfRange = 5
number_of ZeroRunTooLong = 6
number_of OutputTooShort = 7
number_of ImpossibleState = 8

-- back, by the same table: "number | word", and no refusal for 0
abbrev pub refusal_of : ℕ → Option Refusal
refusal_of n = get_or (None
    ∷ Some SliceTooShort ∷ Some OutOfDomain ∷ Some StandardLayout ∷ Some InvalidBitCount
    ∷ Some MagnitudeOutOfRange ∷ Some ZeroRunTooLong ∷ Some OutputTooShort ∷ Some ImpossibleState ∷ []) n None

-- the refusal that has a number, or that no refusal has it
abbrev pub Numbered : ℕ → Result Refusal UnknownNumber → Type 0
Numbered n r = MatchResult r (λ refusal. number_of refusal ≡ n) (λ e. (e.0 ≡ n) × ((refusal : Refusal) → number_of refusal ≢ n))

-- ════ which of them, if any ════

-- a refusal, unless a test holds
abbrev pub unless : Bool → Refusal → Option Refusal
unless b refusal = cond b None (Some refusal)

-- the first of two: "order: 8, 1, 2, 3, 4, then 5 or 6 by the earlier value, 7"
abbrev pub first_of : Option Refusal → Option Refusal → Option Refusal
first_of None other = other
first_of (Some refusal) other = Some refusal

-- whether a slice has a component's elements
abbrev pub long_enough : {A : Type 0} → List A → Bool
long_enough l = leb 4096 (length l)

-- 7 for an answer of n elements in an output with some room
abbrev pub no_room : ℕ → ℕ → Option Refusal
no_room room n = cond (ltb room n) (Some OutputTooShort) None

-- its number, 0 where there is none
abbrev pub number : Option Refusal → ℕ
number None = 0
number (Some refusal) = number_of refusal

-- ════ what follows from it ════

-- the answer: what the call gives, or the refusal
abbrev pub answered : {A : Type 0} → Option Refusal → A → Result A Refusal
answered None given = Ok given
answered (Some refusal) given = Err refusal

-- what a lent slice or state holds then: "a refusal gives .. the state handed in, and alters no lent element"
abbrev pub unless_refused : {A : Type 0} → Option Refusal → A → A → A
unless_refused None new old = new
unless_refused (Some refusal) new old = old

-- an output with the answer at its start: "on acceptance, elements past the answer are untouched"
abbrev pub stored : {A : Type 0} → Option Refusal → List A → List A → List A
stored None xs out = xs ++ drop (length xs) out
stored (Some refusal) xs out = out

-- the number of an answer: 0 where accepted
abbrev pub number_of_answer : {A : Type 0} → Result A Refusal → ℕ
number_of_answer (Ok given) = 0
number_of_answer (Err refusal) = number_of refusal

-- what the call gives, or where it refuses something else: "zero lengths and counts"
abbrev pub given_or : {A : Type 0} → A → Result A Refusal → A
given_or other (Ok given) = given
given_or other (Err refusal) = other

-- what is answered has the number of the rules, whatever a call gives where it accepts, and so by each number of the table; two refusals with the
-- same number are the same
pub record AnswerNumbers (A : Type 0) : Type 0 where
  pub number : (refusal : Option Refusal) (given : A) → number_of_answer (answered refusal given) ≡ number refusal
  pub of_number : (n : ℕ) → n < 9 → (given : A) → number_of_answer (answered (refusal_of n) given) ≡ n
  pub apart : (a b : Refusal) → number_of a ≡ number_of b → a ≡ b
