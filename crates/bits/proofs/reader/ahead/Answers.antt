-- `bits::reader::ahead` meets its contract: the shift drops the bits before the place. Assumes nothing.
use Prim.Native.Nat.{◌*◌}
use Rattle.bits.proofs.Tops.{top_window}
use Rattle.bits.proofs.reader.ahead.Goals as goal

pub returns : goal.returns
returns c = let a = c.args in
    top_window _ a.src.now (8 * a.r.byte_idx) a.r.bit_idx c.window.ensures c.requires
