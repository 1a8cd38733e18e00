-- `panel_picture::cut::low_bits` meets its contract. Assumes nothing.
use mathlib.Core.Path.{◌≡◌, sym, ap}
use native.Mathlib.Nat.{mod-eq_of_lt}
use lib.Pow.{pow_pos, pow_mono}
use Rattle.std.proofs.Common.{arith, ℕ, ◌%◌, ◌*◌, ◌^◌, ◌≤◌}
use Rattle.fixed.proofs.Shift.{power_small}
use Rattle.panel_picture.proofs.cut.low_bits.Goals as goal

-- 1 << k loses nothing at sixteen bits
power : (k : ℕ) → k ≤ 15 → (1 * 2 ^ k) % 65536 ≡ 2 ^ k
power k h = omega (arith, power_small h)

-- past sixteen bits nothing is left
far : (k : ℕ) → 16 ≤ k → 65536 ≤ 2 ^ k
far k h = pow_mono h

pub returns-then-position-gt15 : goal.returns-then-position-gt15
returns-then-position-gt15 c = sym (mod-eq_of_lt (omega (arith, far c.args.position (omega arith))))

pub nonzero_rem-result : goal.nonzero_rem-result
nonzero_rem-result c = omega (arith, power c.args.position (omega arith), pow_pos c.args.position)

pub returns-else-position-gt15 : goal.returns-else-position-gt15
returns-else-position-gt15 c = ap (λ (d : ℕ). c.args.magnitude % d) (power c.args.position (omega arith))
