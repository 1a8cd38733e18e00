-- `progressive_encoder::few_pending_zeros` meets its contract: the law is proved in `Pending`. Assumes nothing.
use Rattle.progressive_encoder.proofs.Pending.{few_pending_zeros_lem}
use Rattle.progressive_encoder.proofs.few_pending_zeros.Goals as goal

pub returns : goal.returns
returns c = few_pending_zeros_lem
