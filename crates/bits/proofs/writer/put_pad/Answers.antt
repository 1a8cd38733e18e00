-- `bits::writer::put_pad` meets its contract: the shift loses nothing, since fewer than 8 bits wait. Assumes nothing.
use mathlib.Core.Path.{ap, ◌∙◌}
use Prim.Native.Nat.{◌-◌}
use native.Mathlib.Omega.{arith}
use lib.ListN.{set}
use lib.Pow.{shl_exact}
use borrow.Author.Tests.{eq-eqb, ne_eqb}
use Rattle.bits.proofs.writer.put_pad.Goals as goal

pub returns-then-k-eq0 : goal.returns-then-k-eq0
returns-then-k-eq0 c = (simp (eq-eqb _ _ c.if-k-eq0.true), simp (eq-eqb _ _ c.if-k-eq0.true))

pub returns : goal.returns
returns c = let k = c.args.k in
    let more = ne_eqb _ _ c.if-k-eq0.false in (
      simp more,
      simp more
          (c.store.ensures ∙ ap (set c.args.out.now k.at) (shl_exact {a = k.current} k.bit_count (8 - k.bit_count) 8 c.requires.0.1 (omega (arith, c.requires)))),
    )
