-- `zero_signs::few_zeros` meets its contract. Assumes nothing.
use mathlib.Core.Path.{◌≡◌}
use Prim.Native.Nat.{◌+◌, ◌≤◌}
use lib.ListN.{drop}
use Rattle.zero_signs.specs.ZeroSigns.{zeros_in}
use Rattle.zero_signs.proofs.few_zeros.Given as goal

-- with those that are left there are as many as in all
abbrev pub invariant-loop-sign : goal.invariant-loop-sign
invariant-loop-sign l = (l.n ≤ l.sign-index) × (l.n + zeros_in (drop l.sign-index l.signs) ≡ zeros_in l.signs)
