-- `bits::writer::store_word` meets its contract. Assumes nothing.
use mathlib.Core.Path.{◌∙◌}
use Rattle.bits.proofs.Words.{word_stored_lem}
use Rattle.bits.proofs.writer.store_word.Goals as goal

pub returns-then-at-out : goal.returns-then-at-out
returns-then-at-out c = let a = c.args in
    c.store_four.ensures ∙ (word_stored_lem a.out.now a.at a.x).1
