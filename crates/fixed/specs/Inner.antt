-- For an inner function only.
use Rattle.std.specs.Prelude.{cond, ℕ, ◌*◌, ◌^◌, leb, eqb}

-- m * 2 ^ k for k up to 15. A longer shift of anything but 0 leaves the sixteen-bit range from every coefficient, and so does 65536, which stands for it
unfoldable pub step : ℕ → ℕ → ℕ
step m k = cond (leb k 15) (m * 2 ^ k) (cond (eqb m 0) 0 65536)
