-- `srl_decoder::decoder::store_values` meets its contract: a turn reads code words and a nonzero value behind them, and what is left to store stays the same. Assumes nothing.
use mathlib.Core.Path.{◌≡◌, refl, sym, ap, ◌∙◌}
use Prim.Native.Nat.{ℕ, ◌+◌, ◌-◌, ◌*◌}
use native.Mathlib.Omega.{arith}
use lib.ListN.{length, replicate}
use mir.Syntax.{w16}
use mir.Val.{to_z, of_z}
use Rattle.fixed.specs.Fixed.{clamp_i16, with_sign}
use Rattle.fixed.proofs.Machine.{got}
use Rattle.bits.specs.Bits.{bit_at, zeros, bits_read}
use Rattle.bits.specs.declared.reader.BitReader.{BitReader}
use Rattle.bits.proofs.Places.{place_is, read_place}
use Rattle.bits.proofs.Tops.{front_skip}
use Rattle.srl_decoder.specs.Srl.{reader, most_zeros, nonzero, behind, values, reader_after}
use Rattle.srl_decoder.specs.Decode.{opened}
use Rattle.srl_decoder.specs.Inner.{shut, Brought}
use Rattle.srl_decoder.proofs.Codes.{shut_parts, nonzero_is}
use Rattle.srl_decoder.proofs.Filled.{Filled, filled, fill_all, clear_zeros, rest, rest_start, Turned, turn_codes, turn_value, rest_bound, rest_end}
use Rattle.srl_decoder.proofs.decoder.store_values.Goals as goal
use Rattle.srl_decoder.proofs.decoder.store_values.Goals.{then-due, else-due}

pub loop-j-init : goal.loop-j-init
loop-j-init c =
    let clear = clear_zeros c.fill.new.self (length c.args.out.now) (c.fill.ensures.after (λ y e. e)) in
    record {
      bit_idx = c.requires.0;
      kp = omega arith;
      near = omega arith;
      clear = λ i a b. clear i (omega arith) (omega (arith, c.fill.ensures.len));
      left = rest_start c.args.src.now c.args.num_bits (length c.fill.new.self) _ _ _ _ c.fill.new.self (λ i a b. clear i a (omega (arith, c.fill.ensures.len)));
      turns_done = omega arith;
      turns = omega arith;
    }

pub decode_nonzero-v-requires : goal.decode_nonzero-v-requires
decode_nonzero-v-requires c =
    let l = c.loop-j in
    let n = 8 * l.byte_idx + l.bit_idx in
    let v = 64 - l.bit_idx in
    let m = c.up_to_value-c.result.taken in
    let near = (c.up_to_value-c.ensures c.args.src.now n v c.ahead-a.ensures (omega arith)).near in
    let at : bits_read c.skip-at.result ≡ n + m = ap bits_read c.skip-at.ensures ∙ read_place _ in (
      omega (arith, ap (λ (r : BitReader). r.bit_idx) c.skip-at.ensures),
      omega (arith, at, near),
      c.requires.3,
      omega (arith, near),
      rw (at, c.behind.ensures) (front_skip v m _ c.ahead-a.result c.args.src.now n c.ahead-a.ensures (omega (arith, near))),
    )

pub loop-j-preserved : goal.loop-j-preserved
loop-j-preserved c =
    let s = c.args.src.now in
    let w = c.args.num_bits in
    let n = length c.fill.new.self in
    let l = c.loop-j in
    let at = 8 * l.byte_idx + l.bit_idx in
    let r = c.up_to_value-c.result in
    let brings : Brought s at l.kp l.pending (n - l.j) r = c.up_to_value-c.ensures s at (64 - l.bit_idx) c.ahead-a.ensures (omega arith) in
    let q = c.if-due in
    let turned : Turned s w n l.j at l.kp l.pending l.out q.j r.kp (at + q.taken) q.pending q.out = elim q.branch [
      | then-due p ↦
          let here = bits_read p.skip-at.result in
          let e : here ≡ at + r.taken = ap bits_read p.skip-at.ensures ∙ read_place _ in
          let v = p.decode_nonzero-v in
          let made = p.with_sign in
          let value : to_z w16 (of_z w16 made.result) ≡ nonzero s (at + r.taken) w =
          got w16 made.type_inv (made.ensures ∙ (λ i. clamp_i16 (with_sign (v.ensures.0 i) (v.ensures.1 i))) ∙ nonzero_is s here w (zeros s (here + 1) (most_zeros w)) (bit_at s here) c.requires.3 refl refl ∙ ap (λ (m : ℕ). nonzero s m w) e) in
          let ends : at + (r.taken + v.result.taken) ≡ behind s (at + r.taken) w = omega (arith, e, v.ensures.2) ∙ ap (λ (m : ℕ). behind s m w) e in
          rw (p.out-is, p.pending-is, p.j-is, p.taken-is) (turn_value s w n l.j at l.kp l.pending l.out r (at + (r.taken + v.result.taken)) (to_z w16 (of_z w16 made.result)) l.invariant.clear brings (c.due.ensures.0 p.if-due.true) value ends)
      | else-due p ↦ rw (p.out-is, p.pending-is, p.j-is, p.taken-is) (turn_codes s w n l.j at l.kp l.pending l.out r c.loop-j-test.true l.invariant.clear brings (c.due.ensures.1 p.if-due.false))
    ] in
    let read : at + q.taken ≡ bits_read c.skip-next.result = sym (ap bits_read c.skip-next.ensures ∙ read_place _) in
    let left = l.invariant.left ∙ turned.left ∙ ap (λ (m : ℕ). rest s w n q.j m r.kp q.pending q.out) read in
    record {
      bit_idx = omega (arith, ap (λ (p : BitReader). p.bit_idx) c.skip-next.ensures);
      kp = brings.kp_low;
      near = rest_bound s w n _ _ _ _ _ _ _ _ _ _ c.requires.3.1 (omega arith) c.requires.2 left;
      clear = turned.clear;
      left = left;
      turns_done = omega (arith, turned.nearer);
      turns = omega arith;
    }

pub returns : goal.returns
returns c =
    let s = c.args.src.now in
    let w = c.args.num_bits in
    let n = length c.fill.new.self in
    let l = c.loop-j in
    let at = 8 * l.byte_idx + l.bit_idx in
    let done : filled (values s (replicate n w) (opened c.args.st)) (reader_after s (replicate n w) (opened c.args.st)) ≡ filled l.out (reader at l.kp (l.j - n) l.pending) =
    sym (fill_all s w (opened c.args.st) c.fill.new.self) ∙ l.invariant.left ∙ rest_end s w n l.j at l.kp l.pending l.out (omega arith) in
    rw (← c.fill.ensures.len)
    record {
      state = shut_parts at l.kp (l.j - n) l.pending (place_is l.byte_idx l.bit_idx at l.invariant.bit_idx refl) refl refl ∙ ap shut (sym (ap (λ (f : Filled). f.after) done));
      turns = l.invariant.turns;
      out = sym (ap (λ (f : Filled). f.out) done);
    }
