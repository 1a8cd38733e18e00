-- `bits::reader::zeros_behind_first` meets its contract: a 1 in the word, or the limit, ends the zeros; else they are counted from the next bit on. Assumes nothing.
use mathlib.Core.Path.{◌≡◌, ap, ◌∙◌}
use Prim.Native.Nat.{ℕ, ◌+◌, ◌-◌}
use native.Mathlib.Omega.{arith}
use Rattle.bits.specs.Bits.{zeros, bits_read}
use Rattle.bits.specs.Inner.{Top}
use Rattle.bits.specs.declared.reader.BitReader.{BitReader}
use Rattle.bits.proofs.Ones.{zeros_min}
use Rattle.bits.proofs.Tops.{top_skip, top_zeros}
use Rattle.bits.proofs.Places.{read_place}
use Rattle.bits.proofs.reader.zeros_behind_first.Goals as goal

pub returns-then-z-part : goal.returns-then-z-part
returns-then-z-part c =
    let found : c.lead-z.result ≡ zeros c.args.src.now (bits_read c.args.r + 1) c.min-part.result = let a = c.args in
    let f = c.requires.3 in
    let b = c.behind in
    let t : Top (f.all - 1) b.result a.src.now (bits_read a.r + 1) = rw b.ensures (top_skip f.all 1 a.a a.src.now (bits_read a.r) f.top (omega (arith, c.requires.2, f.enough))) in
    c.lead-z.ensures ∙ top_zeros (f.all - 1) c.min-part.result b.result a.src.now (bits_read a.r + 1) t (omega (arith, c.min-part.ensures, f.enough)) in
    let a = c.args in
    let p = c.min-part in
    omega (arith, c.if-z-part.true, found, zeros_min a.src.now (bits_read a.r + 1) p.result a.limit (omega (arith, p.ensures)))

pub returns-then-limit-part : goal.returns-then-limit-part
returns-then-limit-part c =
    let found : c.lead-z.result ≡ zeros c.args.src.now (bits_read c.args.r + 1) c.min-part.result = let a = c.args in
    let f = c.requires.3 in
    let b = c.behind in
    let t : Top (f.all - 1) b.result a.src.now (bits_read a.r + 1) = rw b.ensures (top_skip f.all 1 a.a a.src.now (bits_read a.r) f.top (omega (arith, c.requires.2, f.enough))) in
    c.lead-z.ensures ∙ top_zeros (f.all - 1) c.min-part.result b.result a.src.now (bits_read a.r + 1) t (omega (arith, c.min-part.ensures, f.enough)) in
    let a = c.args in
    let p = c.min-part in
    let e : p.result ≡ a.limit = omega (arith, p.ensures, c.if-limit-part.true) in
    found ∙ ap (zeros a.src.now (bits_read a.r + 1)) e

pub count_zeros-requires : goal.count_zeros-requires
count_zeros-requires c = let b = ap (λ (q : BitReader). q.bit_idx) c.skip.ensures in
    let y = ap (λ (q : BitReader). q.byte_idx) c.skip.ensures in
    (omega (arith, b), omega (arith, y))

pub returns : goal.returns
returns c = let a = c.args in
    c.count_zeros.ensures.count ∙ ap (λ (n : ℕ). zeros a.src.now n a.limit) (ap bits_read c.skip.ensures ∙ read_place _)
