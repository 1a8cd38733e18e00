-- `bits::reader::zeros_length` meets its contract: the test is that of the definition. Assumes nothing.
use borrow.Author.Tests.{lt-ltb, le-ltb}
use Rattle.bits.proofs.reader.zeros_length.Goals as goal

pub returns-then-z-limit : goal.returns-then-z-limit
returns-then-z-limit c = simp (lt-ltb _ _ c.if-z-limit.true)

pub returns : goal.returns
returns c = simp (le-ltb _ _ c.if-z-limit.false)
