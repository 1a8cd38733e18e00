-- Laws of widths. Assumes nothing.
use mathlib.Core.Path.{◌≡◌, refl}
use mathlib.Core.Bool.{Bool, true, false, ◌&&◌, false≢true}
use Prim.Native.Nat.{ℕ, ◌^◌, ◌≤◌}
use lib.Dec.{leb}
use lib.Pow.{pow_mono}
use borrow.Author.Tests.{leb-true}
use Rattle.srl_rules.specs.Rules.{width_ok}
use Rattle.srl_rules.specs.Inner.{Width}

-- both of two tests
pub both : (a b : Bool) → (a && b) ≡ true → (a ≡ true) × (b ≡ true)
both true b h = (refl, h)
both false b h = absurd (false≢true h)

-- what the test of a width says
pub width_ok_width : (w : ℕ) → width_ok w ≡ true → Width w
width_ok_width w h = let b = both (leb 1 w) (leb w 15) h in (leb-true 1 w b.0, leb-true w 15 b.1)

-- 2^w is at least 2
pub pow_low : (w : ℕ) → Width w → 2 ≤ 2 ^ w
pow_low w h = pow_mono {i = 1} {j = w} h.0

-- 2^w is at most 32,768
pub pow_high : (w : ℕ) → Width w → 2 ^ w ≤ 32768
pow_high w h = pow_mono {i = w} {j = 15} h.1
