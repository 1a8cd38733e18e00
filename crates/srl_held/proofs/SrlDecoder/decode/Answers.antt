-- `srl_held::SrlDecoder::decode` meets its contract: what `srl_decoder::decode` left is the held state. Assumes nothing.
use mathlib.Core.Path.{ap}
use Rattle.srl_held.specs.Held.{decoder_at}
use Rattle.srl_held.proofs.SrlDecoder.decode.Goals as goal

pub returns : goal.returns
returns c =
    let e = c.decode.ensures in
    record { answer = e.answer; decoder = ap (decoder_at c.args.self.now.src) e.state; out = e.out }
