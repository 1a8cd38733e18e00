-- How many zeros a pass can have pending while it is written, as a statement (docs/SCOPE.md, "SRL", "Upgrade pass").
use Rattle.std.specs.Prelude.{Bool, List, ℕ, ◌≤◌, ℤ, length, take}
use Rattle.srl_encoder.specs.Encode.{call_zeros}
use Rattle.upgrade_steps.specs.Steps.{steps, srl_widths}
use Rattle.upgrade_steps.specs.Counts.{most_srl_values}
use Rattle.progressive_encoder.specs.Encode.{Rule, srl_differences}

-- never more than the pass can have SRL values, and so fewer than the 4,096 that an SRL writer holds
pub record FewPendingZeros : Type 0 where
  -- after the first n values of any writer of a pass, whatever values it gives to the places that have one
  pub any_writer : (e : Bool) (prev curr : List ℕ) (ss vs : List ℤ) (n : ℕ) → length vs ≤ length (srl_widths (steps e prev curr) ss)
      → call_zeros 0 (take n vs) ≤ most_srl_values e
  -- after the first n values of a writer by any rule
  pub any_rule : (r : Rule) (e : Bool) (prev curr : List ℕ) (cs ps ss : List ℤ) (n : ℕ)
      → call_zeros 0 (take n (srl_differences r (steps e prev curr) cs ps ss)) ≤ most_srl_values e
