-- `bits::reader::count_zeros` meets its contract: after each turn z bits are known to be zeros, and every turn but one that gives up began in the stream. Assumes nothing.
use mathlib.Core.Path.{◌≡◌, refl, sym, ap, ◌∙◌}
use Prim.Native.Nat.{ℕ, ◌+◌, ◌*◌, ◌≤◌, ◌<◌}
use native.Mathlib.Omega.{arith}
use lib.ListN.{length}
use Rattle.bits.specs.Bits.{zeros, bits_read}
use Rattle.bits.specs.declared.reader.BitReader.{BitReader}
use Rattle.bits.proofs.Ones.{zeros_end, zeros_stop, zeros_go, length_all, length_some}
use Rattle.bits.proofs.Turns.{counts}
use Rattle.bits.proofs.Places.{read_place}
use Rattle.bits.proofs.reader.count_zeros.Goals as goal

pub loop-z-init : goal.loop-z-init
unfolding zeros
loop-z-init c = (refl, omega arith, omega arith, omega arith)

pub returns-then-src-at : goal.returns-then-src-at
returns-then-src-at c =
    let on : bits_read c.skip-at.result ≡ bits_read c.args.r + c.loop-z.z = ap bits_read c.skip-at.ensures ∙ read_place _ in
    let a = c.args in
    let s = a.src.now in
    let n = bits_read a.r in
    let l = c.loop-z in
    let spent : 8 * length s ≤ n + l.z = omega (arith, on, c.if-src-at.true, ap (λ (q : BitReader). q.bit_idx) c.skip-at.ensures) in
    let all : zeros s n a.limit ≡ a.limit = zeros_end s n l.z a.limit l.invariant.0 (omega (arith, l.invariant.1)) spent in
    counts s n a.limit _ (sym all) (omega (arith, l.invariant, length_all s n a.limit all, spent, c.loop-z-test.true))

pub zeros_ahead-found-requires : goal.zeros_ahead-found-requires
zeros_ahead-found-requires c =
    let b = ap (λ (q : BitReader). q.bit_idx) c.skip-at.ensures in
    (omega (arith, b), omega (arith, c.min-part.ensures))

pub returns-then-found-part : goal.returns-then-found-part
returns-then-found-part c =
    let on : bits_read c.skip-at.result ≡ bits_read c.args.r + c.loop-z.z = ap bits_read c.skip-at.ensures ∙ read_place _ in
    let found : c.zeros_ahead-found.result ≡ zeros c.args.src.now (bits_read c.args.r + c.loop-z.z) c.min-part.result = c.zeros_ahead-found.ensures ∙ ap (λ (n : ℕ). zeros c.args.src.now n c.min-part.result) on in
    let a = c.args in
    let s = a.src.now in
    let n = bits_read a.r in
    let l = c.loop-z in
    let e = found in
    let part = c.min-part in
    let some : l.z + c.zeros_ahead-found.result ≡ zeros s n a.limit =
    ap (λ (m : ℕ). l.z + m) e ∙ zeros_stop s n l.z part.result a.limit l.invariant.0 (omega (arith, part.ensures, l.invariant.1)) (omega (arith, e, c.if-found-part.true)) in
    let takes = length_some s n a.limit (omega (arith, some, part.ensures, c.if-found-part.true, c.loop-z-test.true)) in
    counts s n a.limit _ some (omega (arith, l.invariant, takes, some, part.ensures, c.if-found-part.true, c.loop-z-test.true))

pub loop-z-preserved : goal.loop-z-preserved
loop-z-preserved c =
    let on : bits_read c.skip-at.result ≡ bits_read c.args.r + c.loop-z.z = ap bits_read c.skip-at.ensures ∙ read_place _ in
    let found : c.zeros_ahead-found.result ≡ zeros c.args.src.now (bits_read c.args.r + c.loop-z.z) c.min-part.result = c.zeros_ahead-found.ensures ∙ ap (λ (n : ℕ). zeros c.args.src.now n c.min-part.result) on in
    let a = c.args in
    let s = a.src.now in
    let n = bits_read a.r in
    let l = c.loop-z in
    let e = found in
    let part = c.min-part in
    let inside : c.skip-at.result.byte_idx < length s = c.if-src-at.false in
    let in-stream : n + l.z < 8 * length s = omega (arith, on, inside, ap (λ (q : BitReader). q.bit_idx) c.skip-at.ensures) in (
      zeros_go s n l.z part.result l.invariant.0 (omega (arith, e, c.if-found-part.false)),
      omega (arith, l.invariant, part.ensures, c.loop-z-test.true),
      omega (arith, l.invariant, part.ensures, c.loop-z-test.true),
      omega (arith, l.invariant, in-stream, c.loop-z-test.true),
    )

pub returns : goal.returns
returns c =
    let a = c.args in
    let s = a.src.now in
    let n = bits_read a.r in
    let l = c.loop-z in
    let end : l.z ≡ a.limit = omega (arith, l.invariant.1, c.loop-z-test.false) in
    let all : zeros s n a.limit ≡ a.limit = rw end at l.invariant.0 in
    counts s n a.limit _ (sym all) (omega (arith, l.invariant, end, length_all s n a.limit all))
