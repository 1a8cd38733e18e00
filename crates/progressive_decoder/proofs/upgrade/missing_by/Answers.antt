-- `progressive_decoder::upgrade::missing_by` meets its contract. Assumes nothing.
use mathlib.Core.Path.{◌≡◌, ap, ap₂, ◌∙◌}
use Prim.Native.Nat.{ℕ, ◌-◌, ◌*◌}
use native.Mathlib.Omega.{arith}
use lib.ListN.{length}
use Rattle.bits.specs.Bits.{bits_read}
use Rattle.bits.specs.declared.reader.BitReader.{BitReader}
use Rattle.bits.proofs.Places.{read_place}
use Rattle.progressive_decoder.specs.Upgrade.{missing_bits}
use Rattle.progressive_decoder.proofs.upgrade.missing_by.Goals as goal

pub past_end-raw-requires : goal.past_end-raw-requires
past_end-raw-requires c =
    let read : bits_read c.place.result ≡ c.args.ends.raw = ap bits_read c.place.ensures ∙ read_place _ in
    (omega (arith, ap (λ (r : BitReader). r.bit_idx) c.place.ensures), omega (arith, read, c.requires.2))

pub overflow_cast-result : goal.overflow_cast-result
overflow_cast-result c =
    let read : bits_read c.place.result ≡ c.args.ends.raw = ap bits_read c.place.ensures ∙ read_place _ in
    record { fits = omega (arith, c.past_end-raw.ensures, read, c.requires.2) }

pub returns : goal.returns
returns c =
    let read : bits_read c.place.result ≡ c.args.ends.raw = ap bits_read c.place.ensures ∙ read_place _ in
    let a = c.args in
    let srl : c.past_end-srl.result ≡ bits_read a.ends.srl.reader - 8 * length a.srl_data.now = c.past_end-srl.ensures in
    let raw : c.past_end-raw.result ≡ bits_read c.place.result - 8 * length a.raw_data.now = c.past_end-raw.ensures in
    ap₂ missing_bits srl (raw ∙ ap (λ (n : ℕ). n - 8 * length a.raw_data.now) read)
