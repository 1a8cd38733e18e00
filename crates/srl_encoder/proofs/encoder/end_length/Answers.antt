-- `srl_encoder::encoder::end_length` meets its contract. Assumes nothing.
use mathlib.Core.List.{[], ◌∷◌}
use Prim.Native.Nat.{◌≤◌}
use native.Mathlib.Omega.{arith}
use lib.ListN.{length-append}
use Rattle.bits.specs.Written.{pack}
use Rattle.srl_encoder.specs.Finish.{flush}
use Rattle.bits.proofs.Packed.{length_pack}
use Rattle.srl_encoder.proofs.Runs.{length_flush}
use Rattle.srl_encoder.proofs.encoder.end_length.Goals as goal

pub overflow_add-result : goal.overflow_add-result
overflow_add-result c =
    let few : c.flush_length-n.result ≤ 4107 = let st = c.args.st in
    omega (arith, c.flush_length-n.ensures, length_flush st.kp st.pending_zeros c.requires.1, c.requires.2) in
    omega (arith, few, c.requires.0)

pub overflow_add-result-2 : goal.overflow_add-result-2
overflow_add-result-2 c =
    let few : c.flush_length-n.result ≤ 4107 = let st = c.args.st in
    omega (arith, c.flush_length-n.ensures, length_flush st.kp st.pending_zeros c.requires.1, c.requires.2) in
    omega (arith, few, c.requires.0)

pub returns : goal.returns
returns c =
    let st = c.args.st in
    let bs = flush st.kp st.pending_zeros in
    omega (arith, c.flush_length-n.ensures, length-append (pack st.current st.bit_count bs) (0 ∷ []), length_pack bs st.current st.bit_count c.requires.0.0)
