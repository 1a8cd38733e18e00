-- `fitting::fits_tested` meets its contract. Assumes nothing.
use Rattle.fitting.proofs.Tested.{fits_tested_lem}
use Rattle.fitting.proofs.fits_tested.Goals as goal

pub returns : goal.returns
returns c = fits_tested_lem
