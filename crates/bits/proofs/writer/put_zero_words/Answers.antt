-- `bits::writer::put_zero_words` meets its contract. The invariant: what the turns so far wrote is so many zeros. Assumes nothing.
use mathlib.Core.Path.{◌≡◌, refl, sym, ap, ◌∙◌}
use mathlib.Core.Bool.{false}
use mathlib.Core.List.{◌++◌}
use Prim.Native.Nat.{◌+◌, ◌-◌, ◌^◌, ◌<◌}
use native.Mathlib.Omega.{arith}
use lib.ListN.{replicate, length-replicate}
use lib.Pow.{pow_pos}
use Rattle.bits.specs.Written.{bits_of}
use Rattle.bits.proofs.Puts.{bits_zero, zeros_two}
use Rattle.bits.proofs.Words.{words_none, words_then, words_renamed}
use Rattle.bits.proofs.writer.put_zero_words.Goals as goal

pub loop-left-init : goal.loop-left-init
loop-left-init c = let a = c.args in
    let none : 0 ≡ a.n - a.n = omega arith in
    (refl, omega arith, words_renamed a.out.now a.k (ap (λ j. replicate j false) none) (words_none a.out.now a.k c.requires.0))

pub put_word-next-requires : goal.put_word-next-requires
put_word-next-requires c =
    let room : c.loop-left.at + 8 < 2 ^ 64 = let w = c.loop-left.invariant.2 in
    omega (arith, c.requires.0.0, c.requires.1, w.near, length-replicate (c.args.n - c.loop-left.left) false) in
    (c.loop-left.invariant.2.sound, room, omega arith, omega arith)

pub loop-left-preserved : goal.loop-left-preserved
loop-left-preserved c = let a = c.args in
    let done = a.n - c.loop-left.left in
    let zeros : replicate (a.n - (c.loop-left.left - 32)) false ≡ replicate done false ++ replicate 32 false = zeros_two (a.n - (c.loop-left.left - 32)) done 32 (omega (arith, c.loop-left-test.true, c.loop-left.invariant.1)) in (
      c.put_word-next.auto.out ∙ c.loop-left.invariant.0,
      omega (arith, c.loop-left.invariant.1),
      words_renamed a.out.now a.k (ap (λ z. replicate done false ++ z) (bits_zero 32) ∙ sym zeros) (words_then a.out.now a.k (replicate done false) (bits_of 32 0) c.loop-left.invariant.2 c.put_word-next.ensures),
    )

pub put_word-requires : goal.put_word-requires
put_word-requires c =
    let room : c.loop-left.at + 8 < 2 ^ 64 = let w = c.loop-left.invariant.2 in
    omega (arith, c.requires.0.0, c.requires.1, w.near, length-replicate (c.args.n - c.loop-left.left) false) in
    (c.loop-left.invariant.2.sound, room, omega (arith, c.loop-left-test.false), pow_pos c.loop-left.left)

pub returns : goal.returns
returns c = let a = c.args in
    let done = a.n - c.loop-left.left in
    let zeros : replicate a.n false ≡ replicate done false ++ replicate c.loop-left.left false = zeros_two a.n done c.loop-left.left (omega (arith, c.loop-left.invariant.1)) in
    words_renamed a.out.now a.k (ap (λ z. replicate done false ++ z) (bits_zero c.loop-left.left) ∙ sym zeros)
    (words_then a.out.now a.k (replicate done false) (bits_of c.loop-left.left 0) c.loop-left.invariant.2 c.put_word.ensures)
