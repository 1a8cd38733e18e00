-- For inner functions only: a number of a state taken for a field.
use Rattle.std.specs.Prelude.{Bool, true, false, ℕ, zero, suc, Option, None, Some}

-- the flag that a number is, if any
abbrev pub flag_of : ℕ → Option Bool
flag_of zero = Some false
flag_of (suc zero) = Some true
flag_of (suc (suc n)) = None
