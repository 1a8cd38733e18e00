-- `srl::decoder_resumes` meets its contract: the statement is proved in `States.antt`. Assumes nothing.
use Rattle.srl.proofs.Resumed.{resumes}
use Rattle.srl.proofs.decoder_resumes.Goals as goal

pub returns : goal.returns
returns c = resumes
