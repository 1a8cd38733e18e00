-- `progressive_decoder::split::split` meets its contract: eight places a turn, and then what is left. Assumes nothing.
use mathlib.Core.Path.{refl}
use Rattle.progressive_decoder.proofs.Places.{split_none}
use Rattle.progressive_decoder.proofs.split.split.Goals as goal

pub loop-k-init : goal.loop-k-init
loop-k-init c = (refl, refl, split_none _ _ _ _)
