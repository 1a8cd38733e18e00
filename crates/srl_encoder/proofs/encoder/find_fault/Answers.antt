-- `srl_encoder::encoder::find_fault` meets its contract. Assumes nothing.
use Rattle.std.proofs.Common.{rules, ◌∙◌, arith, pos}
use Rattle.answer.proofs.Refusing.{none_given}
use Rattle.srl_encoder.specs.Encode.{value_fault}
use Rattle.srl_encoder.proofs.EncodedCalls.{value_few, fault_next}
use Rattle.srl_encoder.proofs.encoder.find_fault.Goals as goal

pub loop-v-preserved : goal.loop-v-preserved
loop-v-preserved c =
    let w = c.args.num_bits in
    let l = c.loop-v in
    let m = c.magnitude-m in
    let zeros = c.zeros_after-pending.ensures in
    let none = none_given (value_fault w l.pending (pos m.result)) tt c.in_ok-value_fault.ensures in record {
      few = rw zeros (value_few w l.pending (pos m.result) l.invariant.few none);
      rest = l.invariant.rest ∙ fault_next w l.pending c.args.values.now l.v-index (omega arith) (search rules) m.ensures none zeros;
    }
