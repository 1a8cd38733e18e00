-- Counting zeros before a 1 as a loop that gives up where the bytes are spent, with the number of its turns (docs/SCOPE.md, "Spent bytes").
use Rattle.std.specs.Prelude.{cond, List, ℕ, zero, suc, ◌+◌, ◌-◌, ◌*◌, ◌/◌, min, length}
use Rattle.bits.specs.Bits.{zeros_length}
use Rattle.bits.specs.Missing.{read_bit}

-- how many bits "the stream still holds" from bit n on
abbrev pub still_held : List ℕ → ℕ → ℕ
still_held s n = 8 * length s - n

-- what the loop finds: the zeros, how many bits they take, how many of these are missing; and how often it turned
pub record Counted : Type 0 where
  pub zeros : ℕ
  pub taken : ℕ
  pub missing : ℕ
  pub turns : ℕ

-- a turn at a bit that is missing ends the loop, which "gives up where the bytes are spent": "all zeros up to the limit are read", and missing
abbrev pub given_up : ℕ → Counted
given_up limit = record { zeros = limit; taken = limit; missing = limit; turns = 1 }

-- so does a turn at a 1
abbrev pub stopped : Counted
stopped = record { zeros = 0; taken = 1; missing = 0; turns = 1 }

-- a turn at a 0, and those behind it
abbrev pub gone_on : Counted → Counted
gone_on c = record { zeros = suc c.zeros; taken = suc c.taken; missing = c.missing; turns = suc c.turns }

-- the loop from bit n on, a bit in each turn: `zeros`, given up where the bytes are spent
unfoldable pub count_zeros : List ℕ → ℕ → ℕ → Counted
count_zeros s n zero = record { zeros = 0; taken = 0; missing = 0; turns = 0 }
count_zeros s n (suc limit) =
    cond (read_bit s n).missing (given_up (suc limit)) (cond (read_bit s n).bit stopped (gone_on (count_zeros s (suc n) limit)))

-- ════ the code's loop, up to 56 bits in each turn ════

-- how many turns take b bits
abbrev pub words_of : ℕ → ℕ
words_of b = (b + 55) / 56

-- its turns: for the zeros and the 1 behind them; or, where the bytes are spent before, for the bits still held and once more
abbrev pub word_turns : List ℕ → ℕ → ℕ → ℕ
word_turns s n limit = min (words_of (zeros_length s n limit)) (words_of (still_held s n) + 1)
