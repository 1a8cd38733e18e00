-- Where the bytes are spent the decoder's loops end, as a statement: how often they turn, and that they find the same.
use Rattle.std.specs.Prelude.{◌≡◌, List, ℕ, ◌+◌, ◌≤◌, min, length}
use Rattle.fixed.specs.Fixed.{with_sign}
use Rattle.bits.specs.Bits.{bit_of, bit_at, zeros_length}
use Rattle.bits.specs.Missing.{read_bit, missing_in}
use Rattle.bits.specs.Turns.{still_held, word_turns}
use Rattle.srl_decoder.specs.Srl.{Reader, most_zeros, nonzero, behind}
use Rattle.srl_decoder.specs.Missing.{read_nonzero}
use Rattle.srl_decoder.specs.Decode.{due_among}
use Rattle.srl_decoder.specs.Turns.{nonzero_count, values_turns, dry_run}

-- `nonzero_count s n w` is the loop that counts the zeros of a value of width w whose sign bit is bit n of the stream s
pub record SrlBoundedTurns : Type 0 where
  -- it turns at most once for each bit that the stream still holds from where it begins, behind the sign bit, and once more
  pub spent : (s : List ℕ) (n w : ℕ) → (nonzero_count s n w).turns ≤ still_held s (n + 1) + 1
  -- and not more often than the zeros take bits, with the 1 behind them: it is the lesser of both
  pub turns : (s : List ℕ) (n w : ℕ) → (nonzero_count s n w).turns ≡ min (zeros_length s (n + 1) (most_zeros w)) (still_held s (n + 1) + 1)
  -- at width 1 it does not turn
  pub narrow : (s : List ℕ) (n : ℕ) → (nonzero_count s n 1).turns ≡ 0
  -- the code's loop, which takes up to 56 bits in a turn, turns no more often (`CountsZeros` fixes its turns)
  pub words : (s : List ℕ) (n w : ℕ) → word_turns s (n + 1) (most_zeros w) ≤ (nonzero_count s n w).turns
  -- the value, the place behind it and the count of its missing bits are those of the definitions, which go bit by bit to the limit
  pub value : (s : List ℕ) (n w : ℕ) → with_sign (bit_at s n) ((nonzero_count s n w).zeros + 1) ≡ nonzero s n w
  pub place : (s : List ℕ) (n w : ℕ) → n + 1 + (nonzero_count s n w).taken ≡ behind s n w
  pub missing : (s : List ℕ) (n w : ℕ) → bit_of (read_bit s n).missing + (nonzero_count s n w).missing ≡ missing_in (read_nonzero s n w)
  -- for some values together it turns at most once for each bit that the stream still holds, and once more for each value, whatever the widths
  pub values : (s ws : List ℕ) (r : Reader) → values_turns s ws r ≤ still_held s r.read + length ws
  -- the dry run over code words finds whether a nonzero value is due
  pub dry : (s : List ℕ) (r : Reader) (n : ℕ) → (dry_run s r n).due ≡ due_among s r n
  -- it turns at most once for each bit that the stream still holds
  pub dry_spent : (s : List ℕ) (r : Reader) (n : ℕ) → (dry_run s r n).turns ≤ still_held s r.read
  -- and at most once for each value
  pub dry_few : (s : List ℕ) (r : Reader) (n : ℕ) → (dry_run s r n).turns ≤ n
