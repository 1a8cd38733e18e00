-- `srl_encoder::encoder::put_planned` meets its contract: one number, or the run and then the value. Assumes nothing.
use mathlib.Core.Path.{◌≡◌, ap, ◌∙◌}
use mathlib.Core.Bool.{true}
use Prim.Native.Nat.{◌+◌, ◌-◌, ◌/◌, ◌≤◌}
use native.Mathlib.Omega.{arith}
use Rattle.bits.specs.Written.{bits_of}
use Rattle.bits.proofs.Words.{words_then, words_renamed}
use Rattle.srl_encoder.specs.Encode.{nonzero_bits}
use Rattle.srl_encoder.specs.Inner.{plan_bits}
use Rattle.srl_encoder.proofs.Nonzeros.{stop_le, length_planned, both_word, both_small}
use Rattle.srl_encoder.proofs.Runs.{length_plan}
use Rattle.srl_encoder.proofs.encoder.put_planned.Goals as goal

pub put_word-requires : goal.put_word-requires
put_word-requires c =
    let ends : c.stop_count.result ≤ 1 = let a = c.args in rw c.stop_count.ensures (stop_le a.num_bits a.m) in
    let total : c.planned_length-n.result ≡ c.args.plan.steps + (c.args.plan.kp / 8 + 1) + (c.args.m + c.stop_count.result) = let a = c.args in
    c.planned_length-n.ensures ∙ length_planned a.plan a.num_bits a.m c.stop_count.result true c.stop_count.ensures c.requires.3 in
    let a = c.args in
    (c.requires.0, omega (arith, c.requires.1), c.if-n-le32.true, both_small a.plan a.m c.stop_count.result a.negative c.requires.2 ends c.requires.3 c.planned_word-word.ensures (omega (arith, total)))

pub returns-then-n-le32 : goal.returns-then-n-le32
returns-then-n-le32 c =
    let total : c.planned_length-n.result ≡ c.args.plan.steps + (c.args.plan.kp / 8 + 1) + (c.args.m + c.stop_count.result) = let a = c.args in
    c.planned_length-n.ensures ∙ length_planned a.plan a.num_bits a.m c.stop_count.result true c.stop_count.ensures c.requires.3 in
    let a = c.args in
    let s = c.stop_count in
    words_renamed a.out.now a.k (ap (λ j. bits_of j c.planned_word-word.result) total ∙ both_word a.plan a.num_bits a.m s.result a.negative c.requires.2 s.ensures c.requires.3 c.planned_word-word.ensures)
    c.put_word.ensures

pub put_nonzero-requires : goal.put_nonzero-requires
put_nonzero-requires c =
    let a = c.args in
    let e = c.put_run-run.ensures in
    (e.sound, omega (arith, c.requires.0.0, c.requires.1, e.near, length_plan a.plan, c.requires.2.0), c.requires.3, c.requires.4)

pub returns : goal.returns
returns c =
    let a = c.args in
    words_then a.out.now a.k (plan_bits a.plan) (nonzero_bits a.num_bits a.negative (a.m - 1)) c.put_run-run.ensures c.put_nonzero.ensures
