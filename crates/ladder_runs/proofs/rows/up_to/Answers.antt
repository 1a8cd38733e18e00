-- `ladder_runs::rows::up_to` meets its contract. Assumes nothing.
use Rattle.std.proofs.Common.{ℕ, ◌+◌, ◌%◌, ◌<◌, ◌≤◌, mod-lt, arith}
use Rattle.ladder_runs.proofs.rows.up_to.Goals as goal

-- what a division by one more leaves
small : (m w : ℕ) → w % (m + 1) ≤ m
small m w =
    let h : w % (m + 1) < m + 1 = mod-lt w (omega arith) in
    omega (arith, h)

pub overflow_cast-result-2 : goal.overflow_cast-result-2
overflow_cast-result-2 c = omega (arith, small c.args.most c.args.word)

pub returns : goal.returns
returns c = small c.args.most c.args.word
