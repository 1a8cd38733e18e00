-- `bits::reader::eight_or_zero` meets its contract: past the end all bits are 0, and each turn adds the 8 bits of a byte. Assumes nothing.
use mathlib.Core.Path.{◌≡◌, sym, ap, ◌∙◌}
use Prim.Native.Nat.{◌+◌, ◌*◌, ◌<◌, ◌^◌}
use native.Mathlib.Omega.{arith}
use lib.Pow.{pow_mono}
use Rattle.bits.specs.Bits.{num}
use Rattle.bits.proofs.Numbers.{num_none, num_lt, num_past, num_byte}
use Rattle.bits.proofs.reader.eight_or_zero.Goals as goal

pub returns-then-src-i : goal.returns-then-src-i
returns-then-src-i c = sym (num_past _ _ _ (omega arith))

pub loop-j-init : goal.loop-j-init
loop-j-init c = (omega arith, sym (num_none _ _))

pub overflow_mul-bits : goal.overflow_mul-bits
overflow_mul-bits c =
    let few : c.loop-j.bits < 2 ^ 56 = let l = c.loop-j in
    let a = c.args in
    omega (arith, l.invariant.1, num_lt a.src.now (8 * a.i) (8 * l.j), pow_mono {i = 8 * l.j} {j = 56} (omega arith)) in
    record { fits = omega (arith, few) }

pub overflow_add-bits : goal.overflow_add-bits
overflow_add-bits c =
    let few : c.loop-j.bits < 2 ^ 56 = let l = c.loop-j in
    let a = c.args in
    omega (arith, l.invariant.1, num_lt a.src.now (8 * a.i) (8 * l.j), pow_mono {i = 8 * l.j} {j = 56} (omega arith)) in
    record { fits = omega (arith, few, c.byte_or_zero.ensures.1) }

pub loop-j-preserved : goal.loop-j-preserved
loop-j-preserved c = let l = c.loop-j in
    let a = c.args in
    let k = c.shared_slice_known-1 in
    let n : 8 * l.j + 8 ≡ 8 * (l.j + 1) = omega arith in
    let b = num_byte a.src.now a.i l.j (λ i. (k.given i).fits) in
    (omega arith, omega (arith, l.invariant.1, c.byte_or_zero.ensures.0, b) ∙ ap (num a.src.now (8 * a.i)) n)

pub returns : goal.returns
returns c = let l = c.loop-j in
    let a = c.args in
    let n : 8 * l.j ≡ 64 = omega arith in
    l.invariant.1 ∙ ap (num a.src.now (8 * a.i)) n
