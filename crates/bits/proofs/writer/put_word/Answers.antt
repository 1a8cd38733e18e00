-- `bits::writer::put_word` meets its contract: what waits and the new bits are one number. Assumes nothing.
use mathlib.Core.Path.{◌≡◌, refl, ap, ◌∙◌}
use mathlib.Core.List.{◌++◌}
use Prim.Native.Nat.{◌+◌, ◌-◌, ◌*◌, ◌^◌, ◌%◌, ◌<◌}
use native.Mathlib.Nat.{mod-lt, lt_of_lt_of_le}
use native.Mathlib.Omega.{arith}
use lib.Pow.{shl_exact, pow_pos, pow_mono}
use Rattle.bits.specs.Written.{bits_of}
use Rattle.bits.specs.Inner.{waiting}
use Rattle.bits.proofs.Powers.{joined_small}
use Rattle.bits.proofs.Puts.{length_bits_of, bits_join}
use Rattle.bits.proofs.Words.{word_then, words_wrote}
use Rattle.bits.proofs.writer.put_word.Goals as goal

pub overflow_add-word : goal.overflow_add-word
overflow_add-word c =
    let exact : (c.args.k.word * 2 ^ c.args.n) % 2 ^ 64 ≡ c.args.k.word * 2 ^ c.args.n = shl_exact c.args.k.held c.args.n 64 c.requires.0.1 (omega (arith, c.requires.0.0, c.requires.2)) in
    let small : c.args.k.word * 2 ^ c.args.n + c.args.value < 2 ^ (c.args.k.held + c.args.n) = joined_small c.args.k.held c.args.n c.requires.0.1 c.requires.3 in
    rw exact (record { fits = lt_of_lt_of_le small (pow_mono {i = c.args.k.held + c.args.n} {j = 64} (omega (arith, c.requires.0.0, c.requires.2))) })

pub returns-then-held-lt32 : goal.returns-then-held-lt32
returns-then-held-lt32 c =
    let exact : (c.args.k.word * 2 ^ c.args.n) % 2 ^ 64 ≡ c.args.k.word * 2 ^ c.args.n = shl_exact c.args.k.held c.args.n 64 c.requires.0.1 (omega (arith, c.requires.0.0, c.requires.2)) in
    let word_is : (c.args.k.word * 2 ^ c.args.n) % 2 ^ 64 + c.args.value ≡ c.args.k.word * 2 ^ c.args.n + c.args.value = ap (λ x. x + c.args.value) exact in
    let bits : bits_of (c.args.k.held + c.args.n) ((c.args.k.word * 2 ^ c.args.n) % 2 ^ 64 + c.args.value) ≡ waiting c.args.k ++ bits_of c.args.n c.args.value = let k = c.args.k in
    ap (bits_of (k.held + c.args.n)) word_is ∙ bits_join k.held c.args.n k.word c.args.value c.requires.3 in
    let small : c.args.k.word * 2 ^ c.args.n + c.args.value < 2 ^ (c.args.k.held + c.args.n) = joined_small c.args.k.held c.args.n c.requires.0.1 c.requires.3 in
    let a = c.args in
    let few : a.k.held + a.n < 32 = c.if-held-lt32.true in
    words_wrote a.out.now a.k (bits_of a.n a.value) _ bits (refl, refl) (omega (arith, few), rw exact small) (omega (arith, length_bits_of a.n a.value))

pub returns : goal.returns
returns c =
    let exact : (c.args.k.word * 2 ^ c.args.n) % 2 ^ 64 ≡ c.args.k.word * 2 ^ c.args.n = shl_exact c.args.k.held c.args.n 64 c.requires.0.1 (omega (arith, c.requires.0.0, c.requires.2)) in
    let word_is : (c.args.k.word * 2 ^ c.args.n) % 2 ^ 64 + c.args.value ≡ c.args.k.word * 2 ^ c.args.n + c.args.value = ap (λ x. x + c.args.value) exact in
    let bits : bits_of (c.args.k.held + c.args.n) ((c.args.k.word * 2 ^ c.args.n) % 2 ^ 64 + c.args.value) ≡ waiting c.args.k ++ bits_of c.args.n c.args.value = let k = c.args.k in
    ap (bits_of (k.held + c.args.n)) word_is ∙ bits_join k.held c.args.n k.word c.args.value c.requires.3 in
    let a = c.args in
    let k = a.k in
    let word = (k.word * 2 ^ a.n) % 2 ^ 64 + a.value in
    let left = k.held + a.n - 32 in
    words_wrote a.out.now k (bits_of a.n a.value) (bits_of (k.held + a.n) word) bits
    (word_then a.out.now k.at (k.held + a.n) left word _ (omega (arith, c.if-held-lt32.false)) refl refl c.low_bits.ensures c.store_word.ensures)
    (omega (arith, c.requires.0.0, c.requires.2), rw c.low_bits.ensures (mod-lt word (pow_pos left)))
    (omega (arith, c.if-held-lt32.false, length_bits_of a.n a.value))
