-- Shifts by a variable, and low bits. Assumes nothing.
use mathlib.Core.Path.{◌≡◌, ◌∙◌}
use Prim.Native.Nat.{ℕ, ◌+◌, ◌*◌, ◌%◌, ◌^◌, ◌≤◌, ◌<◌}
use native.Mathlib.Nat.{one-mul, mod-lt, lt_of_lt_of_le, mul-le-mul_right, suc-mul}
use native.Mathlib.Omega.{arith}
use lib.Pow.{shl_exact, shl_lt, pow_pos, pow_mono, pow-add}

-- 1 << n loses nothing at w bits
pub shl_one : (n w : ℕ) → n < w → (1 * 2 ^ n) % 2 ^ w ≡ 2 ^ n
shl_one n w h = shl_exact {a = 1} 1 n w (omega arith) (omega arith) ∙ one-mul (2 ^ n)

-- the low n bits are below 2^w where n is at most w
pub low_small : (x n w : ℕ) → n ≤ w → x % 2 ^ n < 2 ^ w
low_small x n w h = lt_of_lt_of_le (mod-lt x (pow_pos n)) (pow_mono h)

-- c bits, shifted by n, are below 2^w where c + n is at most w
pub shl_small : {a : ℕ} (c n w : ℕ) → a < 2 ^ c → c + n ≤ w → a * 2 ^ n < 2 ^ w
shl_small c n w h l = lt_of_lt_of_le (shl_lt c n h) (pow_mono l)

-- c bits and n bits side by side are c + n bits
pub joined_small : {a b : ℕ} (c n : ℕ) → a < 2 ^ c → b < 2 ^ n → a * 2 ^ n + b < 2 ^ (c + n)
joined_small {a = a} c n h l =
    rw (pow-add 2 c n) (omega (arith, l, mul-le-mul_right (2 ^ n) h, suc-mul a (2 ^ n)))
