-- `srl_encoder::encode` meets its contract: each test is one of `encode_refusal`, and the bytes stored are those measured. Assumes nothing.
use Rattle.std.proofs.Common.{◌≡◌, true, false, length, None, Ok, ap, sym, ◌∙◌}
use lib.Dec.{ltb}
use borrow.Author.Tests.{ltb-false}
use Rattle.bits.proofs.Packed.{sets_start}
use Rattle.answer.proofs.Refusing.{none_given}
use Rattle.srl_rules.specs.Rules.{width_ok}
use Rattle.srl_encoder.specs.Encode.{writer_ok, call_bytes, fault}
use Rattle.srl_encoder.proofs.encode.Goals as goal

pub returns : goal.returns
returns c =
    let st = c.args.state.now in
    let vs = c.args.values.now in
    let w = c.args.num_bits in
    let bytes = call_bytes w st vs in
    let good : writer_ok st ≡ true = sym c.writer_ok.ensures ∙ c.if-not-writer_ok.false in
    let wide : width_ok w ≡ true = sym c.width_ok.ensures ∙ c.if-not-width_ok.false in
    let none : fault w st.pending_zeros vs ≡ None = none_given (fault w st.pending_zeros vs) tt c.in_ok-values_fault.ensures in
    let room : ltb (length c.args.out.now) (length bytes) ≡ false = sym c.exceeds.ensures ∙ c.if-exceeds.false in
    let done = c.put_call-done.ensures in record {
      answer = simp (good, wide, none, room) (ap Ok done.count);
      state = simp (good, wide, none, room) done.state;
      out = simp (good, wide, none, room) (done.out ∙ sets_start bytes c.args.out.now (ltb-false _ _ room));
    }
