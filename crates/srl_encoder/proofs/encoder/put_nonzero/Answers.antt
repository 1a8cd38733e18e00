-- `srl_encoder::encoder::put_nonzero` meets its contract: the value's parts follow each other. Assumes nothing.
use mathlib.Core.Path.{ap, ◌∙◌}
use mathlib.Core.Bool.{false}
use mathlib.Core.List.{[], ◌∷◌, ◌++◌}
use Prim.Native.Nat.{◌-◌}
use lib.ListN.{replicate}
use Rattle.bits.specs.Written.{bits_of}
use Rattle.bits.specs.Inner.{WroteWords}
use Rattle.bits.proofs.Words.{words_then, words_renamed}
use Rattle.srl_encoder.proofs.Nonzeros.{sign_bit, nonzero_parts}
use Rattle.srl_encoder.proofs.encoder.put_nonzero.Goals as goal

pub returns : goal.returns
returns c =
    let signed : WroteWords c.args.out.now c.args.k (c.args.negative ∷ []) c.put_word-sign.result c.put_word-sign.new.out = let a = c.args in
    words_renamed a.out.now a.k (ap (bits_of 1) c.bit_of.ensures ∙ sign_bit a.negative) c.put_word-sign.ensures in
    let a = c.args in
    let s = c.stop_count-stop in
    let zs = replicate (a.m - 1) false in
    let end = bits_of s.result s.result in
    words_renamed a.out.now a.k (nonzero_parts a.num_bits a.m s.result a.negative s.ensures c.requires.2)
    (words_then a.out.now a.k (a.negative ∷ []) (zs ++ end) signed
    (words_then c.put_word-sign.new.out c.put_word-sign.result zs end c.put_zero_words-zeros.ensures c.put_word.ensures))
