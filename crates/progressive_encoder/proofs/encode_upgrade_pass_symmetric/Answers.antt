-- `progressive_encoder::encode_upgrade_pass_symmetric` meets its contract: it is `encode_by` with that rule. Assumes nothing.
use Rattle.progressive_encoder.proofs.encode_upgrade_pass_symmetric.Goals as goal

pub returns : goal.returns
returns c = c.encode_by.ensures
