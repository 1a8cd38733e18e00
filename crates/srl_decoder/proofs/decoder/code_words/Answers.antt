-- `srl_decoder::decoder::code_words` meets its contract: the leading zeros of the word are code words 0, and the 1 behind them begins the last. Assumes nothing.
use mathlib.Core.Path.{◌≡◌, refl, sym, ap, ◌∙◌, subst}
use mathlib.Core.Bool.{true, false, true≢false}
use mathlib.Core.List.{List}
use Prim.Native.Nat.{ℕ, ◌+◌, ◌-◌, ◌*◌, ◌/◌, ◌^◌, ◌≤◌, ◌<◌}
use native.Mathlib.Nat.{mod-lt}
use native.Mathlib.Omega.{arith}
use lib.Pow.{pow_pos, pow_mono, shr_lt}
use Rattle.std.specs.Int.Count.{count_leading_zeros}
use Rattle.bits.specs.Bits.{num}
use Rattle.bits.specs.Inner.{Top}
use Rattle.bits.proofs.Tops.{top_skip, top_take, top_one}
use Rattle.srl_decoder.specs.Srl.{reader}
use Rattle.srl_decoder.specs.Inner.{Same}
use Rattle.srl_decoder.proofs.Chains.{brought, brought_is, below_small, same_chain, one_code}
use Rattle.srl_decoder.proofs.decoder.code_words.Goals as goal

pub returns-then-high-gt80 : goal.returns-then-high-gt80
returns-then-high-gt80 c =
    λ s n v t h. one_code s n c.args.kp c.args.left c.one_code.result c.requires.0 c.requires.1 (c.one_code.ensures.0 s n v t h)

pub overflow_sub-zeros : goal.overflow_sub-zeros
overflow_sub-zeros c =
    let sum : brought c.args.kp (count_leading_zeros 64 c.args.a) + c.below-2.result ≡ c.below.result = omega (arith, brought_is (count_leading_zeros 64 c.args.a) c.args.kp, c.below-2.ensures, (rw c.from.ensures at c.below.ensures)) in
    omega (arith, sum)

pub overflow_add-zeros : goal.overflow_add-zeros
overflow_add-zeros c =
    let low : c.args.kp + 4 * count_leading_zeros 64 c.args.a ≤ 80 = omega (arith, c.if-high-gt80.false) in
    let last_low : c.top-last.result < 1024 = let d = count_leading_zeros 64 c.args.a in
    let k = (c.args.kp + 4 * d) / 8 in
    let few : k ≤ 10 = omega (arith, low) in
    let e : k + (64 - k) ≡ 64 = omega (arith, few) in
    let b : c.behind.result < 2 ^ (k + (64 - k)) = rw (e, c.behind.ensures) (mod-lt (c.args.a * 2 ^ (d + 1)) (pow_pos 64)) in
    omega (arith, (rw c.from.ensures at c.top-last.ensures), shr_lt {n = c.behind.result} k (64 - k) b, pow_mono {i = k} {j = 10} few) in
    let high = c.args.kp + 4 * count_leading_zeros 64 c.args.a in
    record { fits = omega (arith, (rw c.from.ensures at c.below.ensures), below_small high low, last_low) }

pub returns-then-left-zeros : goal.returns-then-left-zeros
returns-then-left-zeros c =
    λ s n v t h. one_code s n c.args.kp c.args.left c.one_code-then-left-zeros.result c.requires.0 c.requires.1 (c.one_code-then-left-zeros.ensures.0 s n v t h)

pub returns : goal.returns
returns c =
    let low : c.args.kp + 4 * count_leading_zeros 64 c.args.a ≤ 80 = omega (arith, c.if-high-gt80.false) in
    let sum : brought c.args.kp (count_leading_zeros 64 c.args.a) + c.below-2.result ≡ c.below.result = omega (arith, brought_is (count_leading_zeros 64 c.args.a) c.args.kp, c.below-2.ensures, (rw c.from.ensures at c.below.ensures)) in
    let last : (s : List ℕ) (n v : ℕ) → Top v c.args.a s n → 57 ≤ v → c.top-last.result ≡ num s (n + count_leading_zeros 64 c.args.a + 1) ((c.args.kp + 4 * count_leading_zeros 64 c.args.a) / 8) = λ s n v t h.
    let a = c.args in
    let d = count_leading_zeros 64 c.args.a in
    let r = c.behind in
    let k = (a.kp + 4 * d) / 8 in
    let small = low in
    let m : n + (d + 1) ≡ n + d + 1 = omega arith in
    let t' : Top (v - (d + 1)) r.result s (n + (d + 1)) = rw r.ensures (top_skip v (d + 1) a.a s n t (omega (arith, small))) in
    (rw c.from.ensures at c.top-last.ensures) ∙ top_take (v - (d + 1)) k r.result s (n + (d + 1)) t' (omega (arith, small)) ∙ ap (λ (n : ℕ). num s n k) m in
    λ s n v t h.
    let a = c.args in
    let d = count_leading_zeros 64 c.args.a in
    let small = low in
    let b = top_one v a.a d s n t refl (omega (arith, small)) in
    let z = c.below.result - c.below-2.result + c.top-last.result in
    let e : z ≡ brought a.kp d + num s (n + d + 1) ((a.kp + 4 * d) / 8) = omega (arith, sum, last s n v t h) in
    let q : n + d + 1 + (a.kp + 4 * d) / 8 ≡ n + (d + 1 + c.from-2.result) = omega (arith, (rw c.from.ensures at c.from-2.ensures)) in
    let f = rw c.from.ensures at c.lowered.ensures in
    record {
      same = subst (Same s a.left (reader n a.kp 0 false)) (λ i. reader (q i) (sym f i) z true) (same_chain s d n a.kp a.left z b.0 b.1 small e (omega (arith, c.if-left-zeros.false)));
      kp_low = omega (arith, f, small);
      run_low = omega (arith, c.if-left-zeros.false);
      near = omega (arith, small, c.from-2.ensures);
      moves = λ q. absurd (true≢false q);
    }
