-- `bits::writer::end_words` meets its contract. Assumes nothing.
use mathlib.Core.Path.{ap, ◌∙◌}
use native.Mathlib.Omega.{arith}
use Rattle.bits.specs.Inner.{pad_count, pad_out}
use Rattle.bits.proofs.Words.{settled_at, settled_sound}
use Rattle.bits.proofs.writer.end_words.Goals as goal

pub put_pad-requires : goal.put_pad-requires
put_pad-requires c = let k = c.args.k in
    rw c.settle-last.ensures.0 (settled_sound k, omega (arith, settled_at k, c.requires.0.0, c.requires.1))

pub returns : goal.returns
returns c = let pad = c.put_pad.ensures in
    let s = c.settle-last in
    (pad.0 ∙ ap pad_count s.ensures.0, pad.1 ∙ ap (λ o. pad_out o s.result) s.ensures.1 ∙ ap (pad_out _) s.ensures.0)
