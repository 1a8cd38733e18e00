-- `srl_encoder::encoder::run_length` meets its contract. Assumes nothing.
use mathlib.Core.Path.{sym}
use Rattle.srl_encoder.proofs.Runs.{length_plan}
use Rattle.srl_encoder.proofs.encoder.run_length.Goals as goal

pub returns : goal.returns
returns c = sym (length_plan c.args.r)
