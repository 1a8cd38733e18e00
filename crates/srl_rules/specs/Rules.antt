-- What the calls of both SRL coders share: the widths that a nonzero value can have (docs/SCOPE.md, "SRL", "Refusals").
use Rattle.std.specs.Prelude.{Bool, ◌&&◌, ℕ, leb}

-- 4 is refused where it does not hold: "an SRL width outside 1..15"
abbrev pub width_ok : ℕ → Bool
width_ok w = leb 1 w && leb w 15
