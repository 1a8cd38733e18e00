-- `places::place_rows` meets its contract: the rule gives each of the 2,304 numbers. Assumes nothing.
use mathlib.Core.Path.{refl}
use Rattle.places.specs.Inner.{ones_of, rows_from}
use Rattle.places.proofs.place_rows.Goals as goal

pub returns : goal.returns
unfolding rows_from ones_of
returns c = refl
