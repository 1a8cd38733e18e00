-- `srl_decoder::decoder::decode_nonzero` meets its contract: the zeros behind the sign bit, at most 2^w - 2. Assumes nothing.
use mathlib.Core.Path.{◌≡◌, sym, ap, ◌∙◌}
use mathlib.Core.Bool.{cond}
use mathlib.Core.List.{List}
use Prim.Native.Nat.{ℕ, ◌+◌, ◌-◌, ◌^◌, ◌<◌}
use native.Mathlib.Omega.{arith}
use lib.Dec.{ltb}
use Rattle.bits.specs.Bits.{zeros, bits_read}
use Rattle.bits.proofs.Tops.{first_bit}
use Rattle.srl_decoder.specs.Srl.{most_zeros}
use Rattle.srl_rules.specs.Inner.{Width}
use Rattle.srl_rules.proofs.Widths.{pow_low, pow_high}
use Rattle.srl_decoder.proofs.Codes.{few_zeros_lem, behind_near}
use Rattle.srl_decoder.proofs.decoder.decode_nonzero.Goals as goal

-- the zeros counted are those of the definition, and few
counted : (s : List ℕ) (n : ℕ) {w m z : ℕ} → Width w → m ≡ 2 ^ w - 1 → z ≡ zeros s n (m - 1) → (z ≡ zeros s n (most_zeros w)) × (z + 1 < 32768)
counted s n {w} {m} {z} h e f =
    let most : m - 1 ≡ most_zeros w = omega arith in
    let found = f ∙ ap (zeros s n) most in
    (found, omega (arith, found, few_zeros_lem s n w h))

pub overflow_sub-limit : goal.overflow_sub-limit
overflow_sub-limit c = omega (arith, c.max_magnitude.ensures, pow_low c.args.num_bits c.requires.2)

pub overflow_add-result : goal.overflow_add-result
overflow_add-result c = record { fits = omega (arith, (counted _ _ c.requires.2 c.max_magnitude.ensures c.zeros_behind_first-zeros.ensures).1) }

pub overflow_cast-result : goal.overflow_cast-result
overflow_cast-result c = record { fits = omega (arith, (counted _ _ c.requires.2 c.max_magnitude.ensures c.zeros_behind_first-zeros.ensures).1) }

pub returns : goal.returns
returns c =
    let s = c.args.src.now in
    let n = bits_read c.args.reader in
    let w = c.args.num_bits in
    let z = (counted s (n + 1) c.requires.2 c.max_magnitude.ensures c.zeros_behind_first-zeros.ensures).0 in
    let m : c.max_magnitude.result - 1 ≡ most_zeros w = omega (arith, c.max_magnitude.ensures) in
    let e : n + (1 + c.zeros_length-taken.result) ≡ n + 1 + cond (ltb (zeros s (n + 1) (most_zeros w)) (most_zeros w)) (zeros s (n + 1) (most_zeros w) + 1) (most_zeros w) =
    omega (arith, rw (m, z) at c.zeros_length-taken.ensures) in
    (sym (first_bit c.requires.4.all c.args.a s n c.requires.4.top (omega (arith, c.requires.3, c.requires.4.enough))), omega (arith, z), e, omega (arith, e, behind_near s n w, pow_high w c.requires.2))
