-- `bits::writer::settle` meets its contract. Assumes nothing.
use mathlib.Core.Path.{sym, ap, ◌∙◌}
use Prim.Native.Nat.{◌+◌, ◌/◌, ◌%◌}
use native.Mathlib.Omega.{arith}
use Rattle.bits.specs.Written.{writer}
use Rattle.bits.proofs.Powers.{low_small}
use Rattle.bits.proofs.Words.{settled_is}
use Rattle.bits.proofs.writer.settle.Goals as goal

pub overflow_cast-result : goal.overflow_cast-result
overflow_cast-result c =
    let k = c.args.k in
    rw c.low_bits.ensures (record { fits = low_small k.word (k.held % 8) 8 (omega arith) })

pub returns : goal.returns
returns c =
    let k = c.args.k in
    (ap (λ b. writer (k.at + b) c.low_bits.result (k.held % 8)) c.from.ensures ∙ ap (λ x. writer (k.at + k.held / 8) x (k.held % 8)) c.low_bits.ensures ∙ sym (settled_is k), c.store_bytes.ensures)
