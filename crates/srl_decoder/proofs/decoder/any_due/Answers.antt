-- `srl_decoder::decoder::any_due` meets its contract: after each turn the dry run from the start is the turns so far and the dry run of the values left. Assumes nothing.
use mathlib.Core.Path.{◌≡◌, sym, ap, ◌∙◌}
use Prim.Native.Nat.{suc, ◌+◌, ◌-◌}
use native.Mathlib.Omega.{arith}
use Rattle.bits.specs.Bits.{bits_read}
use Rattle.srl_decoder.specs.Srl.{Reader, code_word}
use Rattle.srl_decoder.specs.Decode.{opened}
use Rattle.srl_decoder.specs.Turns.{dry_run}
use Rattle.srl_decoder.specs.declared.SrlState.{SrlState}
use Rattle.srl_decoder.specs.declared.decoder.DryRun.{DryRun}
use Rattle.srl_decoder.proofs.Codes.{code_near}
use Rattle.srl_decoder.proofs.Values.{opened_shut}
use Rattle.srl_decoder.proofs.Turns.{dry_due, dry_few, dry_spent, dry_step, dry_stop}
use Rattle.srl_decoder.proofs.decoder.any_due.Goals as goal
use Rattle.srl_decoder.proofs.decoder.any_due.Invariants.{after}

pub overflow_add-turns : goal.overflow_add-turns
overflow_add-turns c =
    let s = c.args.src.now in
    let l = c.loop-turns in
    let step = dry_step s l.cur l.left l.invariant.bit_idx (sym c.reads_on.ensures ∙ c.loop-turns-test.true) in
    record { fits = omega (arith, ap (λ (d : DryRun). d.turns) l.invariant.done, ap (λ (d : DryRun). d.turns) step.2, dry_few s (opened c.args.st) c.args.num_values) }

pub loop-turns-preserved : goal.loop-turns-preserved
loop-turns-preserved c =
    let s = c.args.src.now in
    let l = c.loop-turns in
    let t = l.cur in
    let step = dry_step s t l.left l.invariant.bit_idx (sym c.reads_on.ensures ∙ c.loop-turns-test.true) in
    let next = code_word s (bits_read t.reader) t.kp in
    let e = c.code_word-cur.ensures in
    let left = l.left - t.zero_run_remaining in
    let d = dry_run s next left in
    let one : l.turns + suc d.turns ≡ l.turns + 1 + d.turns = omega arith in
    record {
      bit_idx = omega (arith, ap (λ (q : SrlState). q.reader.bit_idx) e);
      kp = omega (arith, ap (λ (q : SrlState). q.kp) e, (code_near s (bits_read t.reader) t.kp l.invariant.kp).kp_low);
      done = l.invariant.done
          ∙ ap (after l.turns) step.2
          ∙ (λ i. record { due = d.due; turns = one i })
          ∙ ap (λ (r : Reader). after (l.turns + 1) (dry_run s r left)) (sym (ap opened e ∙ opened_shut next));
    }

pub returns : goal.returns
returns c =
    let s = c.args.src.now in
    let r = opened c.args.st in
    let n = c.args.num_values in
    let l = c.loop-turns in
    let e = c.due.ensures in
    let stop = dry_stop s l.cur l.left c.due.result (sym c.reads_on.ensures ∙ c.loop-turns-test.false) e.0 e.1 in
    let done = l.invariant.done ∙ ap (after l.turns) stop in
    let turns = ap (λ (d : DryRun). d.turns) done in
    record {
      found = sym (ap (λ (d : DryRun). d.due) done) ∙ dry_due s r n;
      turns = omega (arith, turns);
      spent = omega (arith, turns, dry_spent s r n);
    }
