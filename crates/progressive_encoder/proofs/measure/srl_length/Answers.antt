-- `progressive_encoder::measure::srl_length` meets its contract. Assumes nothing.
use Prim.Native.Nat.{◌≤◌}
use native.Mathlib.Omega.{arith}
use Rattle.srl_encoder.proofs.Runs.{length_flush}
use borrow.Author.Rules.{rules}
use Rattle.progressive_encoder.proofs.measure.srl_length.Goals as goal

pub overflow_add-result : goal.overflow_add-result
overflow_add-result c =
    let small : c.flush_length-n.result ≤ 4107 = omega (arith, c.flush_length-n.ensures, length_flush c.args.measured.kp c.args.events.zeros c.requires.0, c.requires.2) in
    search (rules, small)

pub overflow_add-result-2 : goal.overflow_add-result-2
overflow_add-result-2 c =
    let small : c.flush_length-n.result ≤ 4107 = omega (arith, c.flush_length-n.ensures, length_flush c.args.measured.kp c.args.events.zeros c.requires.0, c.requires.2) in
    search (rules, small)
