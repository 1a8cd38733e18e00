-- `srl::bounded_turns` meets its contract: each field is a law of `bits` or of `srl_decoder`. Assumes nothing.
use mathlib.Core.Path.{◌≡◌, refl, ap}
use mathlib.Core.List.{List}
use Prim.Native.Nat.{ℕ, ◌+◌}
use native.Mathlib.Omega.{arith}
use Rattle.fixed.specs.Fixed.{with_sign}
use Rattle.bits.specs.Bits.{bit_of, bit_at}
use Rattle.bits.specs.Missing.{read_bit, missing_in}
use Rattle.bits.specs.Turns.{Counted, count_zeros}
use Rattle.bits.proofs.Turns.{at_once, count_is, words_fewer}
use Rattle.srl_decoder.specs.Srl.{most_zeros}
use Rattle.srl_decoder.specs.Turns.{nonzero_count}
use Rattle.srl_decoder.proofs.Turns.{dry_due, dry_spent, dry_few, values_turns_lem}
use Rattle.srl.proofs.bounded_turns.Goals as goal

-- the loop in closed form
is : (s : List ℕ) (n w : ℕ) → nonzero_count s n w ≡ at_once s (n + 1) (most_zeros w)
is s n w = count_is s (n + 1) (most_zeros w)

pub returns : goal.returns
unfolding count_zeros missing_in
returns c = record {
  spent = λ s n w. omega (arith, ap (λ (k : Counted). k.turns) (is s n w));
  turns = λ s n w. ap (λ (k : Counted). k.turns) (is s n w);
  narrow = λ s n. refl;
  words = λ s n w. words_fewer s (n + 1) (most_zeros w);
  value = λ s n w. ap (λ (k : Counted). with_sign (bit_at s n) (k.zeros + 1)) (is s n w);
  place = λ s n w. ap (λ (k : Counted). n + 1 + k.taken) (is s n w);
  missing = λ s n w. ap (λ (k : Counted). bit_of (read_bit s n).missing + k.missing) (is s n w);
  values = values_turns_lem;
  dry = dry_due;
  dry_spent = dry_spent;
  dry_few = dry_few;
}
