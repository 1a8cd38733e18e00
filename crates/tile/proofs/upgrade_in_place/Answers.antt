-- `tile::upgrade_in_place` meets its contract. Assumes nothing.
use mathlib.Core.Path.{ap, ◌∙◌}
use Rattle.zero_signs.specs.ZeroSigns.{zero_signs_of}
use Rattle.tile.proofs.upgrade_in_place.Goals as goal

pub returns : goal.returns
returns c =
    let done = c.upgrade_components-missing.ensures in
    record {
      coefficients = done.coefficients;
      sign = done.sign;
      numbers = c.count.ensures ∙ ap (zero_signs_of _) done.sign;
      positions = c.flat_rows.ensures;
      pass = c.next_pass.ensures;
      missing = done.missing;
    }
