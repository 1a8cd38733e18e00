-- `bits::reader::zeros_ahead` meets its contract: the leading zeros of the word are the zeros before a 1. Assumes nothing.
use mathlib.Core.Path.{◌∙◌}
use native.Mathlib.Omega.{arith}
use Rattle.bits.proofs.Tops.{top_zeros}
use Rattle.bits.proofs.reader.zeros_ahead.Goals as goal

pub returns : goal.returns
returns c = let p = c.requires in
    c.lead.ensures ∙ top_zeros _ _ _ _ _ c.ahead.ensures (omega arith)
