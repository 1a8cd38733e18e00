-- `progressive_decoder::upgrade::value_behind` meets its contract: the place is that of the count. Assumes nothing.
use mathlib.Core.Path.{◌≡◌, sym, ap, ◌∙◌}
use Prim.Native.Nat.{ℕ, ◌+◌}
use native.Mathlib.Omega.{arith}
use Rattle.bits.specs.Bits.{bit_at, zeros, bits_read}
use Rattle.bits.specs.declared.reader.BitReader.{BitReader}
use Rattle.bits.proofs.Places.{read_place}
use Rattle.srl_decoder.specs.Srl.{most_zeros, behind}
use Rattle.progressive_decoder.proofs.upgrade.value_behind.Goals as goal

pub decode_nonzero-requires : goal.decode_nonzero-requires
decode_nonzero-requires c =
    let read : bits_read c.place-place.result ≡ c.args.at = ap bits_read c.place-place.ensures ∙ read_place c.args.at in
    let p = c.requires in
    (omega (arith, ap (λ (r : BitReader). r.bit_idx) c.place-place.ensures), omega (arith, read, p.2), p.0, omega (arith, p.1), rw (read, c.behind-rest.ensures) p.3)

pub returns : goal.returns
returns c =
    let read : bits_read c.place-place.result ≡ c.args.at = ap bits_read c.place-place.ensures ∙ read_place c.args.at in
    let a = c.args in
    let s = a.srl_data.now in
    let v = c.decode_nonzero in
    let n = read in
    (v.ensures.0 ∙ ap (bit_at s) n, v.ensures.1 ∙ ap (λ (m : ℕ). zeros s (m + 1) (most_zeros a.width) + 1) n, ap (λ (m : ℕ). m + v.result.taken) (sym n) ∙ v.ensures.2 ∙ ap (λ (m : ℕ). behind s m a.width) n, v.ensures.3)
