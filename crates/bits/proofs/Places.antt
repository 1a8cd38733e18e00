-- Places in a stream, and the counts of bits read that they stand for.
use mathlib.Core.Path.{◌≡◌}
use Prim.Native.Nat.{ℕ, ◌+◌, ◌*◌, ◌/◌, ◌%◌, ◌≤◌}
use native.Mathlib.Omega.{arith}
use Rattle.bits.specs.Bits.{bits_read, place_of}
use Rattle.bits.specs.declared.reader.BitReader.{BitReader}

-- a byte and a bit of it are the place of the count 8 × byte + bit
pub place_is : (byte bit n : ℕ) → bit ≤ 7 → 8 * byte + bit ≡ n → ◌≡◌ {A = BitReader} (record { byte_idx = byte; bit_idx = bit }) (place_of n)
place_is byte bit n h e =
    let a : byte ≡ n / 8 = omega arith in
    let b : bit ≡ n % 8 = omega arith in
    λ i. record { byte_idx = a i; bit_idx = b i }

-- and the count of a count's place is the count
pub read_place : (n : ℕ) → bits_read (place_of n) ≡ n
read_place n = omega arith
