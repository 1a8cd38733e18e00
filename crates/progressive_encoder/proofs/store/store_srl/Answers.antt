-- `progressive_encoder::store::store_srl` meets its contract: no byte where there is no value, else the events and the end. Assumes nothing.
use Rattle.progressive_encoder.specs.Inner.{looked_by}
use Rattle.progressive_encoder.proofs.StoredStreams.{srl_none, srl_stored}
use Rattle.progressive_encoder.proofs.store.store_srl.Goals as goal

pub returns-then-found-eq0 : goal.returns-then-found-eq0
returns-then-found-eq0 c = λ l raws f.
    let a = c.args in
    srl_none l (looked_by raws a.words.now a.found) a.out.now f c.if-found-eq0.true

pub returns : goal.returns
returns c = λ l raws f.
    let a = c.args in
    srl_stored l (looked_by raws a.words.now a.found) a.out.now f c.requires.2 c.if-found-eq0.false c.store_events-c.ensures c.put_last.ensures
