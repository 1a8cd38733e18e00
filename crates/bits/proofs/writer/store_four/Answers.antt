-- `bits::writer::store_four` meets its contract. Assumes nothing.
use mathlib.Core.Path.{refl}
use Prim.Native.Nat.{◌+◌}
use native.Mathlib.Omega.{arith}
use lib.ListN.{set, length-set}
use Rattle.bits.proofs.writer.store_four.Goals as goal

pub bounds-out-at-2 : goal.bounds-out-at-2
bounds-out-at-2 c = let a = c.args in
    omega (arith, length-set a.out.now a.at c.low_byte.result, c.requires)

pub bounds-out-at-3 : goal.bounds-out-at-3
bounds-out-at-3 c = let a = c.args in
    let x = c.low_byte.result in
    let o = set a.out.now a.at x in
    omega (arith, length-set a.out.now a.at x, length-set o (a.at + 1) c.low_byte-2.result, c.requires)

pub bounds-out-at-4 : goal.bounds-out-at-4
bounds-out-at-4 c = let a = c.args in
    let x = c.low_byte.result in
    let y = c.low_byte-2.result in
    let o = set a.out.now a.at x in
    let p = set o (a.at + 1) y in
    omega (arith, length-set a.out.now a.at x, length-set o (a.at + 1) y, length-set p (a.at + 2) c.low_byte-3.result, c.requires)

pub returns : goal.returns
returns c = rw (c.low_byte-4.ensures, c.low_byte-3.ensures, c.low_byte-2.ensures, c.low_byte.ensures) refl
