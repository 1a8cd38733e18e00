-- `progressive_encoder::classes::at_most` meets its contract. Assumes nothing.
use Rattle.progressive_encoder.proofs.Classed.{eight_or}
use Rattle.progressive_encoder.proofs.classes.at_most.Goals as goal

pub returns : goal.returns
returns c =
    eight_or c.args.classes.now c.args.i
