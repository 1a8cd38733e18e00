-- How many zeros a pass can have pending: no more than it has values. Assumes nothing.
use mathlib.Core.List.{List, [], ◌∷◌}
use Prim.Native.Nat.{ℕ, zero, suc, ◌+◌, ◌≤◌}
use native.Mathlib.Omega.{arith}
use lib.IntN.{ℤ}
use lib.ListN.{length, take}
use Rattle.srl_encoder.specs.Encode.{value_zeros, call_zeros}
use Rattle.srl_encoder.proofs.EncodedValues.{value_zeros_lem}
use Rattle.upgrade_steps.specs.Steps.{Step, Source, skipped, srl, raw, source, steps, srl_width, srl_widths}
use Rattle.upgrade_steps.proofs.Counts.{few_srl_values_lem}
use Rattle.progressive_encoder.specs.Encode.{Rule, srl_given, srl_differences}
use Rattle.progressive_encoder.specs.Pending.{FewPendingZeros}

-- each value adds at most one
zeros_few : (z n : ℕ) (vs : List ℤ) → call_zeros z (take n vs) ≤ z + length vs
zeros_few z zero vs = omega arith
zeros_few z (suc n) [] = omega arith
zeros_few z (suc n) (v ∷ vs) = omega (arith, value_zeros_lem z v, zeros_few (value_zeros z v) n vs)

-- there is a width for each value
values_few : (r : Rule) (ts : List Step) (cs ps ss : List ℤ) → length (srl_differences r ts cs ps ss) ≤ length (srl_widths ts ss)
unfolding srl_differences srl_widths
values_few r [] cs ps ss = omega arith
values_few r (t ∷ ts) [] ps ss = omega arith
values_few r (t ∷ ts) (c ∷ cs) [] ss = omega arith
values_few r (t ∷ ts) (c ∷ cs) (p ∷ ps) [] = omega arith
values_few r (t ∷ ts) (c ∷ cs) (p ∷ ps) (s ∷ ss) = by (source t s) (values_few r ts cs ps ss)
  where
    by : (x : Source) → length (srl_differences r ts cs ps ss) ≤ length (srl_widths ts ss)
        → length (srl_given x (r.value t.position c p) (srl_differences r ts cs ps ss)) ≤ length (srl_width x t.width (srl_widths ts ss))
    by skipped h = h
    by srl h = omega (arith, h)
    by raw h = h

-- the law, in both its parts
pub few_pending_zeros_lem : FewPendingZeros
few_pending_zeros_lem =
    record {
      any_writer = λ e prev curr ss vs n h. omega (arith, h, zeros_few 0 n vs, few_srl_values_lem.most e prev curr ss);
      any_rule =
          λ r e prev curr cs ps ss n.
          let ts = steps e prev curr in
          omega (arith, values_few r ts cs ps ss, zeros_few 0 n (srl_differences r ts cs ps ss), few_srl_values_lem.most e prev curr ss);
    }
