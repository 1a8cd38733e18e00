-- `progressive_encoder::store::store_raw` meets its contract: after each turn the numbers so far are stored. Assumes nothing.
use mathlib.Core.Path.{◌≡◌, subst}
use native.Mathlib.Omega.{arith}
use lib.ListN.{get_or, take}
use Rattle.std.proofs.lemmas.List.{take_all}
use Rattle.progressive_encoder.specs.Inner.{number_bits, NumberWord, StoresRaw}
use Rattle.progressive_encoder.proofs.Held.{each_at}
use Rattle.progressive_encoder.proofs.StreamLengths.{number_length}
use Rattle.progressive_encoder.proofs.StoredStreams.{numbers_none, numbers_more, words_near, raw_stored}
use Rattle.progressive_encoder.proofs.store.store_raw.Goals as goal

pub loop-x-init : goal.loop-x-init
unfolding number_bits
loop-x-init c =
    let a = c.args in (omega arith, rw c.fresh_sink-sink.ensures (numbers_none a.raws.now a.out.now))

pub overflow_cast-width_of : goal.overflow_cast-width_of
overflow_cast-width_of c =
    let number : NumberWord (get_or c.args.raws.now c.loop-x.x-index 0) = each_at c.args.raws.now c.loop-x.x-index c.requires.1 c.loop-x-test.true in
    omega (arith, c.width_of.ensures, number.narrow)

pub put_word-sink-requires : goal.put_word-sink-requires
put_word-sink-requires c =
    let number : NumberWord (get_or c.args.raws.now c.loop-x.x-index 0) = each_at c.args.raws.now c.loop-x.x-index c.requires.1 c.loop-x-test.true in
    let l = c.loop-x in (
      l.invariant.1.sound,
      omega (arith, words_near c.args.out.now _ l.invariant.1, l.invariant.0),
      omega (arith, c.width_of.ensures, number.narrow),
      (rw (c.width_of.ensures, c.number_of-number.ensures) number.small),
    )

pub loop-x-preserved : goal.loop-x-preserved
loop-x-preserved c =
    let number : NumberWord (get_or c.args.raws.now c.loop-x.x-index 0) = each_at c.args.raws.now c.loop-x.x-index c.requires.1 c.loop-x-test.true in
    let a = c.args in
    let l = c.loop-x in (
      omega (arith, number_length a.raws.now l.x-index c.loop-x-test.true, number.narrow, l.invariant.0),
      numbers_more a.raws.now a.out.now l.x-index c.loop-x-test.true c.number_of-number.ensures c.width_of.ensures l.invariant.1 c.put_word-sink.ensures,
    )

pub returns : goal.returns
returns c =
    let a = c.args in
    let l = c.loop-x in
    let e : take l.x-index a.raws.now ≡ a.raws.now = take_all l.x-index a.raws.now (omega arith) in
    let u = c.end_words in
    subst (λ xs. StoresRaw (number_bits xs) a.out.now u.result u.new.out) e (raw_stored a.out.now (number_bits (take l.x-index a.raws.now)) l.invariant.1 u.ensures.0 u.ensures.1)
