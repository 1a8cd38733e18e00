-- `fixed::t` meets its contract. Assumes nothing.
use Rattle.fixed.proofs.Wrap.{wrap_shifts, wrap_under}
use Rattle.fixed.proofs.Machine.{signed}
use Rattle.fixed.proofs.t.Goals as goal

pub overflow_cast-result : goal.overflow_cast-result
overflow_cast-result c = rw (wrap_shifts c.args.value c.ranges.value.sfits) (search (signed, wrap_under))

pub returns : goal.returns
returns c = rw (wrap_shifts c.args.value c.ranges.value.sfits) (search (signed, wrap_under))
