-- `srl_encoder::encoder::put_values` meets its contract. Assumes nothing.
use Rattle.std.proofs.Common.{rules, arith}
use Rattle.srl_encoder.proofs.EncodedCalls.{wrote_next, wrote_good, call_part}
use Rattle.srl_encoder.proofs.encoder.put_values.Goals as goal

pub put_next-done-requires : goal.put_next-done-requires
put_next-done-requires c =
    let a = c.args in
    let l = c.loop-v in
    let wrote = l.invariant.wrote.bits in
    ((wrote.sound, l.invariant.kp), omega (arith, wrote.near, call_part a.num_bits a.c.kp a.c.zeros l.v-index a.values.now, c.requires.0.0.0, c.requires.3, l.invariant.few, c.well_formed), c.requires.2)

pub loop-v-preserved : goal.loop-v-preserved
loop-v-preserved c =
    let a = c.args in
    let l = c.loop-v in
    let good = wrote_good a.num_bits l.out l.done c.put_next-done.ensures l.invariant.kp in record {
      kp = good.0;
      few = omega (arith, good.1, l.invariant.few);
      wrote = wrote_next a.num_bits a.out.now a.c a.values.now l.v-index (omega arith) (search rules) l.invariant.wrote c.put_next-done.ensures;
    }
