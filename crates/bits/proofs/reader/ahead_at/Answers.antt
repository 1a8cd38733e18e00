-- `bits::reader::ahead_at` meets its contract. Assumes nothing.
use mathlib.Core.Path.{ap, subst}
use Prim.Native.Nat.{◌-◌, ◌%◌}
use native.Mathlib.Omega.{arith}
use Rattle.bits.specs.Bits.{bits_read}
use Rattle.bits.specs.Inner.{Top}
use Rattle.bits.specs.declared.reader.BitReader.{BitReader}
use Rattle.bits.proofs.Places.{read_place}
use Rattle.bits.proofs.reader.ahead_at.Goals as goal

pub ahead-requires : goal.ahead-requires
ahead-requires c = omega (arith, ap (λ (r : BitReader). r.bit_idx) c.place.ensures)

pub returns : goal.returns
returns c = let a = c.args in
    let n = a.count in
    let h = c.ahead.result in
    subst (Top (64 - n % 8) h a.src.now) (read_place n) (subst (λ (r : BitReader). Top (64 - r.bit_idx) h a.src.now (bits_read r)) c.place.ensures c.ahead.ensures)
