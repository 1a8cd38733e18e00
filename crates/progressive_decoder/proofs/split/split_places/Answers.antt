-- `progressive_decoder::split::split_places` meets its contract: a place is stored in both lists, and counts in one. Assumes nothing.
use mathlib.Core.Path.{◌∙◌}
use Prim.Native.Nat.{◌-◌}
use native.Mathlib.Omega.{arith}
use lib.ListN.{length-set}
use Rattle.upgrade_steps.specs.Inner.{band_step}
use Rattle.progressive_decoder.proofs.Places.{split_next}
use Rattle.progressive_decoder.proofs.split.split_places.Goals as goal

pub loop-i-preserved : goal.loop-i-preserved
loop-i-preserved c =
    let l = c.loop-i in
    let p = c.requires in (
      length-set l.zeros l.n l.i ∙ l.invariant.0,
      length-set l.others (l.i - l.n) l.i ∙ l.invariant.1,
      split_next (band_step c.args.t) c.args.sign.now l.i l.n c.srl_count-n.result l.zeros l.others (omega (arith, c.loop-i-test.true, p.2))
          (omega (arith, c.loop-i-test.true, l.invariant.0, p.2, p.4)) (omega (arith, c.loop-i-test.true, l.invariant.1, p.2, p.5)) c.srl_count-n.ensures l.invariant.2,
    )
