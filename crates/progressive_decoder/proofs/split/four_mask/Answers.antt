-- `progressive_decoder::split::four_mask` meets its contract. Assumes nothing.
use Rattle.progressive_decoder.proofs.Places.{mask_four}
use Rattle.progressive_decoder.proofs.split.four_mask.Goals as goal

pub returns : goal.returns
returns c =
    let a = c.args in
    mask_four a.sign.now a.i _ _ _ _ c.zero_count-a.ensures.0 c.zero_count-b.ensures.0 c.zero_count-c.ensures.0 c.zero_count-d.ensures.0
