-- `planes::row_at` meets its contract. It closes by itself: by hand, the row that is given is printed where it is another. Assumes nothing.
use mathlib.Core.Path.{◌≡◌, ap, ◌∙◌}
use Prim.Native.Nat.{ℕ, ◌+◌, ◌-◌}
use native.Mathlib.Omega.{arith}
use lib.ListN.{take, drop}
use Rattle.planes.proofs.row_at.Goals as goal

pub returns : goal.returns
returns c =
    let a = c.args in
    let ten : a.at + 10 - a.at ≡ 10 = omega arith in
    c.copy_from_slice.ensures.after ∙ ap (λ (n : ℕ). take n (drop a.at a.rows)) ten
