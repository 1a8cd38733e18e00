-- The streams that a writer makes are bytes, and not too many.
use mathlib.Core.Path.{◌≡◌}
use mathlib.Core.Bool.{Bool, true, false}
use mathlib.Core.List.{List, [], ◌∷◌}
use Prim.Native.Nat.{ℕ, zero, suc, ◌+◌, ◌-◌, ◌*◌, ◌≤◌}
use native.Mathlib.Omega.{arith}
use lib.IntN.{ℤ, pos, negsuc, nat_abs}
use lib.ListN.{length}
use Rattle.bits.specs.Written.{pack, bits_of_all}
use Rattle.bits.proofs.Numbers.{Bytes}
use Rattle.bits.proofs.Packed.{length_pack, bytes_none, bytes_cons, bytes_append, pack_bytes}
use Rattle.srl_encoder.specs.Encode.{nonzero_bits}
use Rattle.srl_encoder.specs.Finish.{stream_bits}
use Rattle.srl_encoder.proofs.Nonzeros.{nonzero_le}
use Rattle.progressive_encoder.specs.Encode.{srl_stream, raw_stream}
use Rattle.progressive.proofs.Lengths.{value_takes, values_take, srl_length_lem}

-- the sum of the magnitudes of some values
abbrev pub magnitudes : List ℤ → ℕ
magnitudes [] = 0
magnitudes (v ∷ vs) = nat_abs v + magnitudes vs

-- values take at most two bits each and a bit for each one of their magnitudes
takes_few : (ws : List ℕ) (vs : List ℤ) → values_take ws vs ≤ magnitudes vs + 2 * length vs
unfolding values_take
takes_few ws [] = omega arith
takes_few [] (v ∷ vs) = omega arith
takes_few (w ∷ ws) (v ∷ vs) = omega (arith, one v, takes_few ws vs)
  where
    nonzero : (b : Bool) (m : ℕ) → length (nonzero_bits w b m) ≤ m + 2
    nonzero b m = let n : m + 1 - 1 ≡ m = omega arith in omega (arith, rw n at (nonzero_le w (m + 1) b (omega arith)))

    one : (v : ℤ) → value_takes w v ≤ nat_abs v + 2
    one (pos zero) = omega arith
    one (pos (suc m)) = omega (arith, nonzero false m)
    one (negsuc m) = omega (arith, nonzero true m)

-- bytes for n places, at most 4,098 for each and a few more
pub record Stream (s : List ℕ) (n : ℕ) : Type 0 where
  pub bytes : Bytes s
  pub short : length s ≤ 4098 * n + 6

-- the SRL stream of values that are not too large together
pub srl_stream_lem : (ws : List ℕ) (vs : List ℤ) (n : ℕ) → length vs ≤ n → magnitudes vs ≤ 32768 * n → Stream (srl_stream ws vs) n
srl_stream_lem ws vs n h l = record { bytes = by vs; short = omega (arith, srl_length_lem ws vs, takes_few ws vs) }
  where
    by : (vs : List ℤ) → Bytes (srl_stream ws vs)
    by [] = bytes_none
    by (v ∷ vs) =
        let bits = stream_bits 8 0 ws (v ∷ vs) in
        bytes_append (pack 0 0 bits) (0 ∷ []) (pack_bytes bits 0 0 (omega arith) (omega arith)) (bytes_cons 0 [] (omega arith) bytes_none)

-- the raw stream of at most fifteen bits a place
pub raw_stream_lem : (us ms : List ℕ) (n : ℕ) → length (bits_of_all us ms) ≤ 15 * n → Stream (raw_stream us ms) n
raw_stream_lem us ms n h =
    let bits = bits_of_all us ms in
    record { bytes = pack_bytes bits 0 0 (omega arith) (omega arith); short = omega (arith, length_pack bits 0 0 (omega arith)) }
