-- Every value that is read is 0 or has a magnitude of 1 to 2^w - 1.
use mathlib.Core.Path.{◌≡◌, refl}
use mathlib.Core.Bool.{Bool, true, false}
use mathlib.Core.List.{List}
use Prim.Native.Nat.{ℕ, zero, suc, ◌+◌, ◌^◌, ◌<◌}
use native.Mathlib.Omega.{arith}
use lib.IntN.{nat_abs}
use lib.Pow.{pow_pos, pow_mono}
use Rattle.fixed.specs.Fixed.{with_sign}
use Rattle.bits.specs.Bits.{bit_at, zeros}
use Rattle.bits.proofs.Ones.{zeros_le}
use Rattle.srl_decoder.specs.Srl.{Reader, most_zeros, value, readied, next_reader, values}
use Rattle.srl.specs.Laws.{Wide, wide, Legal, legal, DecodedMagnitudes}

abs_with : (b : Bool) (m : ℕ) → nat_abs (with_sign b m) ≡ m
abs_with false m = refl
abs_with true zero = refl
abs_with true (suc m) = refl

value_legal : (s : List ℕ) (w n run : ℕ) → 0 < w → nat_abs (value s w n run) < 2 ^ w
value_legal s w n (suc run) h = pow_pos w
value_legal s w n zero h =
    omega (arith, abs_with (bit_at s n) (zeros s (n + 1) (most_zeros w) + 1), zeros_le s (n + 1) (most_zeros w), pow_mono {i = 1} {j = w} h)

values_legal : (s : List ℕ) {ws : List ℕ} (r : Reader) → Wide ws → Legal ws (values s ws r)
unfolding values
values_legal s r Wide.none = Legal.none
values_legal s r (wide {w = w} h l) = legal (value_legal s w (readied s r).read (readied s r).run h) (values_legal s (next_reader s w r) l)

-- every value that is read is legal at its width
pub magnitudes : DecodedMagnitudes
magnitudes = record { bounded = λ s ws r h. values_legal s r h }
