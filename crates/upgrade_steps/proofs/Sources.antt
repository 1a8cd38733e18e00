-- Where a place's value comes from, as the code tells the cases apart.
use mathlib.Core.Path.{◌≡◌, refl, sym}
use mathlib.Core.Bool.{Bool, true, false, cond, not, true≢false}
use Prim.Native.Nat.{ℕ, zero, suc, ◌≤◌}
use native.Mathlib.Omega.{arith}
use lib.IntN.{ℤ}
use Rattle.fixed.specs.Fixed.{is_zero}
use Rattle.upgrade_steps.specs.Steps.{Step, skipped, srl, raw, source_of, source}
use Rattle.upgrade_steps.specs.Inner.{from_srl}

-- in a band that is not skipped

from_srl_lem : (b : Bool) (w : ℕ) (z : Bool) → 1 ≤ w → cond b false z ≡ true → source_of b w z ≡ srl
from_srl_lem b zero z h e = absurd (omega arith)
from_srl_lem true (suc w) z h e = absurd (true≢false (sym e))
from_srl_lem false (suc w) true h e = refl
from_srl_lem false (suc w) false h e = absurd (true≢false (sym e))

from_raw : (b : Bool) (w : ℕ) (z : Bool) → 1 ≤ w → cond b false z ≡ false → source_of b w z ≡ raw
from_raw b zero z h e = absurd (omega arith)
from_raw true (suc w) z h e = refl
from_raw false (suc w) true h e = absurd (true≢false e)
from_raw false (suc w) false h e = refl

pub source_srl : (t : Step) (s : ℤ) → 1 ≤ t.width → from_srl t s ≡ true → source t s ≡ srl
source_srl t s = from_srl_lem t.bottom t.width (is_zero s)

pub source_raw : (t : Step) (s : ℤ) → 1 ≤ t.width → from_srl t s ≡ false → source t s ≡ raw
source_raw t s = from_raw t.bottom t.width (is_zero s)

-- a skipped one
none : (b : Bool) (w : ℕ) (z : Bool) → w ≡ 0 → source_of b w z ≡ skipped
none b zero z e = refl
none b (suc w) z e = absurd (omega (arith, e))

pub source_none : (t : Step) (s : ℤ) → t.width ≡ 0 → source t s ≡ skipped
source_none t s = none t.bottom t.width (is_zero s)

-- no place of the bottom has an SRL value: r is what is answered there
pub bottom_from_raw : (r b z : Bool) → not b ≡ false → r ≡ false → r ≡ cond b false z
bottom_from_raw r true z e f = f
bottom_from_raw r false z e f = absurd (true≢false e)
