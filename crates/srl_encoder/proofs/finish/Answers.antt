-- `srl_encoder::finish` meets its contract: the tests are those of `finish_refusal`. Assumes nothing.
use Rattle.std.proofs.Common.{◌≡◌, ◌≤◌, true, length, Ok, ap, sym, ◌∙◌}
use borrow.Author.Tests.{le-ltb}
use Rattle.bits.proofs.Packed.{sets_start}
use Rattle.srl_encoder.specs.Encode.{writer_ok}
use Rattle.srl_encoder.specs.Finish.{finish_bytes}
use Rattle.srl_encoder.proofs.finish.Goals as goal

pub returns : goal.returns
returns c =
    let bytes = finish_bytes c.args.state.now in
    let good : writer_ok c.args.state.now ≡ true = sym c.writer_ok.ensures ∙ c.if-not-writer_ok.false in
    let need = c.end_length-need.ensures in
    let fits : length bytes ≤ length c.args.out.now = rw need at c.if-out-need.false in
    let room = le-ltb _ _ fits in
    record { answer = simp (good, room) (ap Ok need); out = simp (good, room) (c.put_end.ensures ∙ sets_start bytes c.args.out.now fits) }
