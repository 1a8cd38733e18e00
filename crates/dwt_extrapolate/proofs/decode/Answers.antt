-- `dwt_extrapolate::decode` meets its contract: what passes both tests has room. Assumes nothing.
use native.Mathlib.Omega.{arith}
use Rattle.dwt_extrapolate.proofs.decode.Goals as goal

pub decode_blocks-requires : goal.decode_blocks-requires
decode_blocks-requires c = (omega arith, omega arith)
