-- One place of a pass: what a nonzero SRL value does there.
use mathlib.Core.Path.{◌≡◌}
use mathlib.Core.Bool.{Bool, true, false, not}
use Prim.Native.Nat.{ℕ, ◌+◌}
use native.Mathlib.Numerals.{add-one}
use lib.IntN.{ℤ}
use Rattle.fixed.specs.Fixed.{with_sign}
use Rattle.progressive_decoder.specs.Upgrade.{srl_coefficient, srl_sign, raw_coefficient}
use Rattle.progressive_decoder.specs.Inner.{sign_by}

-- it is added or subtracted as a raw number is
pub moved_by : (b : Bool) (q z : ℕ) (c : ℤ) → srl_coefficient q (with_sign b (z + 1)) c ≡ raw_coefficient (not b) q (z + 1) c
moved_by true q z c = rw (add-one z)
moved_by false q z c = rw (add-one z)

-- and sets the sign
pub sign_by_lem : (b : Bool) (z : ℕ) (s : ℤ) → srl_sign (with_sign b (z + 1)) s ≡ sign_by b
sign_by_lem true z s = rw (add-one z)
sign_by_lem false z s = rw (add-one z)
