-- `zero_signs::zeros` meets its contract. Assumes nothing.
use mathlib.Core.Path.{◌≡◌, ap, ◌∙◌}
use Prim.Native.Nat.{◌+◌}
use native.Mathlib.Omega.{arith}
use lib.ListN.{length, length-append, drop_of_length-le}
use Rattle.std.specs.Slice.Iter.{chunks_rest, chunks_size}
use Rattle.zero_signs.specs.ZeroSigns.{zeros_in}
use Rattle.zero_signs.proofs.Counted.{zeros_append}
use Rattle.zero_signs.proofs.zeros.Goals as goal

pub few_zeros-requires : goal.few_zeros-requires
few_zeros-requires c = omega (arith, c.in-Some.ensures.steps.1.1, c.loop-part.invariant.size)

pub overflow_add-n : goal.overflow_add-n
overflow_add-n c = record { fits = omega (arith, c.from-n.ensures, c.few_zeros.ensures.1, c.in-Some.ensures.steps.1.1, c.loop-part.invariant.size, c.loop-part.invariant.most) }

pub loop-part-init : goal.loop-part-init
loop-part-init c =
    let it = c.into_iter-part-iterator in
    let whole : chunks_rest it.result ≡ c.args.signs.now = ap chunks_rest it.ensures.into_iter_gives ∙ c.chunks-part-items.ensures.rest in
    record {
      size = ap chunks_size it.ensures.into_iter_gives ∙ c.chunks-part-items.ensures.size;
      most = omega (arith, ap length whole);
      all = omega (arith, ap zeros_in whole);
    }

pub loop-part-preserved : goal.loop-part-preserved
loop-part-preserved c =
    let step = c.in-Some.ensures.steps in
    let left = chunks_rest c.next.new.self in
    let long : length (chunks_rest c.loop-part.part-iterator) ≡ length c.in-Some.part.now + length left = ap length step.1.0 ∙ length-append c.in-Some.part.now left in
    let parts : zeros_in (chunks_rest c.loop-part.part-iterator) ≡ zeros_in c.in-Some.part.now + zeros_in left = ap zeros_in step.1.0 ∙ zeros_append c.in-Some.part.now left in
    record {
      size = step.0 ∙ c.loop-part.invariant.size;
      most = omega (arith, long, c.from-n.ensures, c.few_zeros.ensures.1, c.loop-part.invariant.most);
      all = omega (arith, parts, c.from-n.ensures, c.few_zeros.ensures.0, c.loop-part.invariant.all);
    }

pub returns : goal.returns
unfolding zeros_in
returns c =
    let left = chunks_rest c.loop-part.part-iterator in
    let none : zeros_in left ≡ 0 = ap zeros_in (drop_of_length-le left {i = 0} (omega (arith, c.in-None.ensures.steps.1.0))) in
    omega (arith, none, c.loop-part.invariant.all)
