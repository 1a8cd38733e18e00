-- `srl::encoder_resumes` meets its contract: the statement is proved in `Streamed.antt`. Assumes nothing.
use Rattle.srl.proofs.Streamed.{resumes}
use Rattle.srl.proofs.encoder_resumes.Goals as goal

pub returns : goal.returns
returns c = resumes
