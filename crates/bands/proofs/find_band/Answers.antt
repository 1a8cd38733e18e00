-- `bands::find_band` meets its contract: the entry of the table. Assumes nothing.
use Rattle.std.proofs.Common.{◌∙◌, ap, List, ℕ}
use Rattle.std.specs.List.{slice_get}
use Rattle.bands.proofs.Places.{item_get, entry_get}
use Rattle.bands.proofs.find_band.Goals as goal

pub returns : goal.returns
returns c =
    let a = c.args in
    c.copied.ensures ∙ item_get c.bands_of_places.result a.place c.get.result c.get.ensures.lookup
    ∙ ap (λ (l : List ℕ). slice_get l a.place) c.bands_of_places.ensures ∙ entry_get a.use_reduce_extrapolate a.place
