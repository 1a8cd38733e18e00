-- `srl_decoder::decode` meets its contract: where no nonzero value is due the width does not matter. Assumes nothing.
use mathlib.Core.Path.{◌≡◌, sym, ◌∙◌}
use mathlib.Core.Bool.{true, false}
use Rattle.srl_decoder.specs.Decode.{state_ok, due_among, opened}
use Rattle.srl_rules.specs.Rules.{width_ok}
use Rattle.srl_decoder.proofs.Due.{width_free}
use Rattle.srl_decoder.proofs.Missing.{width_free_read}
use Rattle.srl_decoder.proofs.decode.Goals as goal

pub returns : goal.returns
returns c =
    let s = c.args.src.now in
    let st = c.args.state.now in
    let n = c.args.num_values in
    let w = c.args.num_bits in
    let ok : state_ok st ≡ true = sym c.state_ok.ensures ∙ c.if-not-state_ok.false in
    let bad : width_ok w ≡ false = sym c.width_ok.ensures ∙ c.if-width_ok.false in
    let none : due_among s (opened st) n ≡ false = sym c.any_due.ensures.found ∙ c.if-any_due.false in
    let same = width_free s w 1 (opened st) n none in
    let e = c.store_if_room-2.ensures in
    record {
      answer = simp (ok, bad, none) (rw (width_free_read s w 1 (opened st) n none) e.answer);
      state = simp (ok, bad, none) (rw same.1 e.state);
      out = simp (ok, bad, none) (rw same.0 e.out);
    }
