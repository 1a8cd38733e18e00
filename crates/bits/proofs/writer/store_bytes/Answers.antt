-- `bits::writer::store_bytes` meets its contract. The invariant: all bits are written as those that are left are from here. Assumes nothing.
use mathlib.Core.Path.{refl, sym, ap, ◌∙◌}
use Prim.Native.Nat.{◌+◌, ◌-◌}
use native.Mathlib.Omega.{arith}
use lib.ListN.{length, set, length-set}
use Rattle.bits.specs.Written.{bits_of, writer}
use Rattle.bits.specs.Inner.{write}
use Rattle.bits.proofs.Puts.{waits, byte_then}
use Rattle.bits.proofs.writer.store_bytes.Goals as goal

pub loop-left-init : goal.loop-left-init
loop-left-init c = (refl, refl, omega arith, refl)

pub overflow_add-next : goal.overflow_add-next
overflow_add-next c = let p = c.requires in
    omega (arith, c.loop-left.invariant.1, p.0, p.1, c.loop-left-test.true)

pub loop-left-preserved : goal.loop-left-preserved
loop-left-preserved c = let a = c.args in
    let left = c.loop-left.left - 8 in
    let e = c.store.ensures ∙ ap (set c.loop-left.out c.loop-left.next) c.low_byte.ensures in
    let z = byte_then c.loop-left.out c.loop-left.next c.loop-left.left left a.x (omega (arith, c.loop-left-test.true)) (refl, refl) in (
      ap length e ∙ length-set c.loop-left.out c.loop-left.next _ ∙ c.loop-left.invariant.0,
      omega (arith, c.loop-left.invariant.1, c.loop-left-test.true),
      omega (arith, c.loop-left.invariant.2),
      c.loop-left.invariant.3 ∙ sym z.1 ∙ ap (λ o. write o (writer (c.loop-left.next + 1) 0 0) (bits_of left a.x)) (sym e),
    )

pub returns : goal.returns
returns c = let w = waits c.loop-left.out c.loop-left.next c.loop-left.left c.args.x (omega (arith, c.loop-left-test.false)) in
    w.1 ∙ sym c.loop-left.invariant.3
