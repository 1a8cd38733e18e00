-- `srl_encoder::encoder::put_last` meets its contract. Assumes nothing.
use Prim.Native.Nat.{◌+◌, ◌<◌, ◌^◌}
use native.Mathlib.Omega.{arith}
use Rattle.bits.specs.Inner.{settled}
use Rattle.bits.proofs.Packed.{pad_le}
use Rattle.bits.proofs.Words.{settled_at}
use Rattle.srl_encoder.proofs.Runs.{length_flush}
use Rattle.srl_encoder.proofs.encoder.put_last.Goals as goal

pub end_words-n-requires : goal.end_words-n-requires
end_words-n-requires c =
    let room : c.put_flush-flushed.result.at + 100 < 2 ^ 64 = let k = c.args.c in
    let e = c.put_flush-flushed.ensures in
    omega (arith, c.requires.0.0.0, c.requires.1, e.near, length_flush k.kp k.zeros c.requires.0.1) in
    (c.put_flush-flushed.ensures.sound, omega (arith, room))

pub overflow_add-result : goal.overflow_add-result
overflow_add-result c =
    let room : c.put_flush-flushed.result.at + 100 < 2 ^ 64 = let k = c.args.c in
    let e = c.put_flush-flushed.ensures in
    omega (arith, c.requires.0.0.0, c.requires.1, e.near, length_flush k.kp k.zeros c.requires.0.1) in
    let x = c.put_flush-flushed.result in
    omega (arith, c.end_words-n.ensures.0, pad_le (settled x), settled_at x, c.put_flush-flushed.ensures.sound.0, room)
