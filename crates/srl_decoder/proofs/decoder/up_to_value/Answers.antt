-- `srl_decoder::decoder::up_to_value` meets its contract: with no code word the reader stays. Assumes nothing.
use mathlib.Core.Path.{◌≡◌, sym, ◌∙◌, subst}
use mathlib.Core.Bool.{true≢false}
use Prim.Native.Nat.{◌+◌}
use native.Mathlib.Omega.{arith}
use Rattle.srl_decoder.specs.Srl.{reader}
use Rattle.srl_decoder.specs.Inner.{Same}
use Rattle.srl_decoder.proofs.Chains.{same_refl}
use Rattle.srl_decoder.proofs.decoder.up_to_value.Goals as goal

pub returns-then-pending : goal.returns-then-pending
returns-then-pending c = λ s n v t h.
    let a = c.args in
    let e : n ≡ n + 0 = omega arith in
    record {
      same = subst (Same s a.left (reader n a.kp 0 a.pending)) (λ i. reader (e i) a.kp 0 a.pending) (same_refl s a.left (reader n a.kp 0 a.pending));
      kp_low = c.requires.0;
      run_low = omega arith;
      near = omega arith;
      moves = λ f. absurd (true≢false (sym c.if-pending.true ∙ f));
    }
