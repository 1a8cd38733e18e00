-- `upgrade_steps::stretch_at` meets its contract: by the table and the ends of a layout. Assumes nothing.
use mathlib.Core.Path.{◌≡◌, ap, ◌∙◌}
use mathlib.Core.List.{List}
use Prim.Native.Nat.{ℕ}
use lib.ListN.{get_or}
use Rattle.upgrade_steps.specs.Steps.{step_at, step_of}
use Rattle.upgrade_steps.specs.Inner.{band_step}
use Rattle.upgrade_steps.proofs.Stretches.{same_step}
use Rattle.upgrade_steps.proofs.stretch_at.Goals as goal

pub returns : goal.returns
returns c = λ e table ends.
    let a = c.args in
    let b : ℕ = c.from-b.result in
    let by_table = c.from-b.ensures ∙ ap (λ (l : List ℕ). get_or l a.place 0) table in
    let step : band_step c.band_step.result ≡ step_at b (get_or a.prev b 0) (get_or a.curr b 0) = c.band_step.ensures in
    same_step e a.prev a.curr a.place _ _ c.requires.0 (λ i. get_or (ends i) (by_table i) 0)
    (step ∙ ap (step_of a.prev a.curr) by_table)
