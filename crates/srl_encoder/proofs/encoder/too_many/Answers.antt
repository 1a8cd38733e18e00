-- `srl_encoder::encoder::too_many` meets its contract. Assumes nothing.
use Rattle.std.proofs.Common.{rules, ◌∙◌, arith}
use Rattle.srl_encoder.proofs.EncodedCalls.{count_next, measured_good}
use Rattle.srl_encoder.proofs.encoder.too_many.Goals as goal

pub loop-v-preserved : goal.loop-v-preserved
loop-v-preserved c =
    let l = c.loop-v in
    let good = measured_good c.args.num_bits l.cur c.magnitude.result c.measure_value-cur.ensures l.invariant.good in record {
      good = good.0;
      few = omega (arith, good.1, l.invariant.few);
      fits = c.if-limit-cur.false;
      rest = l.invariant.rest ∙ count_next c.args.num_bits l.cur c.args.values.now l.v-index (omega arith) (search rules) c.magnitude.ensures c.measure_value-cur.ensures;
    }
