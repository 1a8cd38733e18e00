-- `tarjimp::answers::hand_on_written` meets its contract. Assumes nothing.
use mathlib.Core.Path.{ap}
use mathlib.Core.List.{[], ◌∷◌}
use native.Mathlib.Omega.{arith}
use Rattle.progressive_encoder.specs.declared.Written.{Written}
use Rattle.tarjimp.proofs.answers.hand_on_written.Goals as goal

pub returns : goal.returns
returns c = (omega arith, ap (λ (w : Written). w.srl ∷ w.raw ∷ []) c.hand_on-number.ensures.1)
