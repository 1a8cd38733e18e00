-- `progressive_decoder::split::split_eight` meets its contract. Assumes nothing.
use native.Mathlib.Omega.{arith}
use Rattle.progressive_decoder.proofs.Places.{split_eight_lem}
use Rattle.progressive_decoder.proofs.split.split_eight.Goals as goal

pub put_ones-requires-2 : goal.put_ones-requires-2
put_ones-requires-2 c =
    (c.requires.5, c.eight_mask-m.ensures.1, omega (arith, c.requires.1, c.requires.2), omega (arith, c.requires.0, c.requires.1, c.requires.3))

pub returns : goal.returns
returns c =
    let a = c.args in
    λ t b s. split_eight_lem t a.sign.now a.i a.n _ _ _ a.zeros.now _ a.others.now _ b c.requires.1 (omega (arith, c.requires.1, c.requires.3)) (omega (arith, c.requires.1, c.requires.4)) c.eight_mask-m.ensures.0 c.put_ones-2.ensures c.put_ones.ensures s
