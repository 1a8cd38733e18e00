-- For inner functions only: what they require of a width.
use Rattle.std.specs.Prelude.{ℕ, ◌≤◌}

-- a width that a nonzero value can have
abbrev pub Width : ℕ → Type 0
Width w = (1 ≤ w) × (w ≤ 15)
