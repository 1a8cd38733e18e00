-- `srl_encoder::encoder::put_end` meets its contract. Assumes nothing.
use Rattle.srl_encoder.proofs.EncodedCalls.{end_out}
use Rattle.srl_encoder.proofs.encoder.put_end.Goals as goal

pub returns : goal.returns
returns c =
    end_out c.args.st c.args.out.now c.requires.0 c.call_start.ensures c.put_last.ensures
