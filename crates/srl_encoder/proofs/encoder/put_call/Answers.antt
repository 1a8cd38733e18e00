-- `srl_encoder::encoder::put_call` meets its contract: the values are written, and the whole bytes that wait are stored. Assumes nothing.
use native.Mathlib.Omega.{arith}
use Rattle.bits.proofs.Words.{word_of_sound}
use Rattle.srl_encoder.specs.Encode.{sink}
use Rattle.srl_encoder.proofs.EncodedCalls.{wrote_from, call_count_lem, call_wrote}
use Rattle.srl_encoder.proofs.encoder.put_call.Goals as goal

pub put_values-done-requires : goal.put_values-done-requires
put_values-done-requires c =
    let a = c.args in
    let g = c.requires.0 in
    rw c.call_start.ensures
    ((word_of_sound (sink a.st) g.0, g.1), g.2, c.requires.1, omega (arith, call_count_lem a.num_bits a.st a.values.now g.0.0, c.requires.2))

pub settle-last-requires : goal.settle-last-requires
settle-last-requires c =
    let a = c.args in
    let e = wrote_from a.num_bits a.out.now a.values.now c.call_start.ensures c.put_values-done.ensures in
    (e.bits.sound, omega (arith, e.bits.near, call_count_lem a.num_bits a.st a.values.now c.requires.0.0.0, c.requires.2))

pub returns : goal.returns
returns c =
    let s = c.settle-last.ensures in
    let a = c.args in
    rw c.call_done.ensures (call_wrote a.num_bits a.out.now a.st a.values.now c.requires.0.0 c.call_start.ensures c.put_values-done.ensures s.0 s.1)
