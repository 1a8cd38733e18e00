-- `srl_decoder::decoder::one_code` meets its contract: the first bit says which case of `code_word` holds. Assumes nothing.
use mathlib.Core.Path.{◌≡◌, sym, ◌∙◌}
use mathlib.Core.Bool.{true, false}
use Prim.Native.Nat.{◌+◌, ◌-◌, ◌/◌}
use native.Mathlib.Omega.{arith}
use Rattle.bits.specs.Inner.{Top}
use Rattle.bits.proofs.Tops.{top_skip, top_take, first_zero, first_one}
use Rattle.srl_decoder.specs.Srl.{reader}
use Rattle.srl_decoder.proofs.Codes.{code_zero, code_one}
use Rattle.srl_decoder.proofs.decoder.one_code.Goals as goal

pub returns-then-a-lt9223372036854775808 : goal.returns-then-a-lt9223372036854775808
returns-then-a-lt9223372036854775808 c =
    let a = c.args in (
      λ s n v t h. (λ i. reader (n + 1) (c.raised.ensures i) (c.run_size.ensures i) false) ∙ sym (code_zero s n a.kp (first_zero v a.a s n t (omega arith) c.if-a-lt9223372036854775808.true)),
      omega arith,
    )

pub returns-else-a-lt9223372036854775808 : goal.returns-else-a-lt9223372036854775808
returns-else-a-lt9223372036854775808 c =
    let a = c.args in
    let r = c.behind in (
      λ s n v t h.
          let b = first_one v a.a s n t (omega arith) c.if-a-lt9223372036854775808.false in
          let t' : Top (v - 1) r.result s (n + 1) = rw r.ensures (top_skip v 1 a.a s n t (omega arith)) in
          let z = c.top-zeros.ensures ∙ top_take (v - 1) (a.kp / 8) r.result s (n + 1) t' (omega (arith, c.requires)) in
          let q : n + (1 + c.from.result) ≡ n + 1 + a.kp / 8 = omega (arith, c.from.ensures) in
          (λ i. reader (q i) (c.lowered.ensures i) (z i) true) ∙ sym (code_one s n a.kp b),
      omega (arith, c.requires),
    )
