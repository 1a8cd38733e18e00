-- Laws of refusals and of answers. Assumes nothing.
use mathlib.Core.Path.{◌≡◌, refl, sym, ap, ◌∙◌}
use mathlib.Core.Bool.{Bool, true, false, cond}
use mathlib.Core.List.{List}
use Prim.Native.Nat.{ℕ, zero, suc, ◌≤◌, ◌<◌}
use native.Mathlib.Omega.{arith}
use lib.Dec.{ltb}
use borrow.Author.Tests.{le-ltb, ltb-true, ltb-false}
use Rattle.std.specs.Prelude.{Option, None, Some, Ok, Err}
use Rattle.std.proofs.lemmas.Option.{none-some}
use Rattle.answer.specs.declared.Refusal.{Refusal}
use Rattle.answer.specs.declared.Refusal.TheVariants.{SliceTooShort, OutOfDomain, StandardLayout, InvalidBitCount, MagnitudeOutOfRange, ZeroRunTooLong, OutputTooShort, ImpossibleState}
use Rattle.answer.specs.Answers.{unless, first_of, no_room, answered, unless_refused, stored, number_of, refusal_of, number, number_of_answer}

-- ════ which of them ════

-- there is no refusal where there is one
pub some_not_none : {r : Refusal} → Some r ≡ None → ⊥
some_not_none {r = r} e = none-some r (sym e)

-- a test that gives no refusal, whichever it would give, holds
pub unless_none : (b : Bool) (r : Refusal) → unless b r ≡ None → b ≡ true
unless_none true r e = refl
unless_none false r e = absurd (some_not_none e)

-- the same of a bound
pub passes : (m n : ℕ) (r : Refusal) → unless (ltb m n) r ≡ None → m < n
passes m n r e = ltb-true m n (unless_none (ltb m n) r e)

-- neither of two refusals
pub first_none : (n f : Option Refusal) → first_of n f ≡ None → (n ≡ None) × (f ≡ None)
first_none None f e = (refl, e)
first_none (Some r) f e = absurd (some_not_none e)

-- n elements have room in an output of n
pub room_for : (n : ℕ) → no_room n n ≡ None
room_for n = simp (le-ltb n n (omega arith))

-- an output that has room for n elements
pub has_room : (room n : ℕ) → no_room room n ≡ None → n ≤ room
has_room room n = by (ltb room n) refl
  where
    by : (b : Bool) → ltb room n ≡ b → cond b (Some OutputTooShort) None ≡ None → n ≤ room
    by true e h = absurd (some_not_none h)
    by false e h = ltb-false room n e

-- ════ what follows from it ════

-- the number of what a refusal answers
pub number_answered : {A : Type 0} (r : Option Refusal) (given : A) → number_of_answer (answered r given) ≡ number r
number_answered None given = refl
number_answered (Some r) given = refl

-- that of what each number of the table answers
pub number_of_table : {A : Type 0} (n : ℕ) → n < 9 → (given : A) → number_of_answer (answered (refusal_of n) given) ≡ n
number_of_table zero h given = refl
number_of_table (suc zero) h given = refl
number_of_table (suc (suc zero)) h given = refl
number_of_table (suc (suc (suc zero))) h given = refl
number_of_table (suc (suc (suc (suc zero)))) h given = refl
number_of_table (suc (suc (suc (suc (suc zero))))) h given = refl
number_of_table (suc (suc (suc (suc (suc (suc zero)))))) h given = refl
number_of_table (suc (suc (suc (suc (suc (suc (suc zero))))))) h given = refl
number_of_table (suc (suc (suc (suc (suc (suc (suc (suc zero)))))))) h given = refl
number_of_table (suc (suc (suc (suc (suc (suc (suc (suc (suc n))))))))) h given = absurd (omega arith)

-- what was there before a refusal is there after it
pub kept : {A : Type 0} (new old : A) {o : Option Refusal} {r : Refusal} → o ≡ Some r → unless_refused o new old ≡ old
kept new old e = ap (λ (n : Option Refusal). unless_refused n new old) e

-- a refusal stores nothing
pub stored_some : {A : Type 0} (xs out : List A) {o : Option Refusal} {r : Refusal} → o ≡ Some r → stored o xs out ≡ out
stored_some xs out e = ap (λ (n : Option Refusal). stored n xs out) e

-- back from its number a refusal is itself
found : (a : Refusal) → refusal_of (number_of a) ≡ Some a
found SliceTooShort = refl
found OutOfDomain = refl
found StandardLayout = refl
found InvalidBitCount = refl
found MagnitudeOutOfRange = refl
found ZeroRunTooLong = refl
found OutputTooShort = refl
found ImpossibleState = refl

-- two refusals with the same number are the same
pub same_number : (a b : Refusal) → number_of a ≡ number_of b → a ≡ b
same_number a b e = let same : Some a ≡ Some b = sym (found a) ∙ ap refusal_of e ∙ found b in cc

-- what is answered says whether there is a refusal, and which
pub none_given : {A : Type 0} (o : Option Refusal) (given : A) {x : A} → Ok x ≡ answered o given → o ≡ None
none_given None given e = refl
none_given (Some r) given e = cc

pub some_given : {A : Type 0} (o : Option Refusal) (given : A) {r : Refusal} → Err r ≡ answered o given → o ≡ Some r
some_given None given e = cc
some_given (Some r) given e = cc
