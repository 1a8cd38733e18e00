-- `pixels::write_pixels` meets its contract. Assumes nothing.
use borrow.Author.Rules.{rules}
use Rattle.pixels.proofs.Sampled.{pictured}
use Rattle.pixels.proofs.write_pixels.Goals as goal

pub returns : goal.returns
returns c =
    let a = c.args in
    pictured a.quants a.coefficients (search rules) _ a.pixels.now _ c.all_samples.ensures c.write_samples.ensures
