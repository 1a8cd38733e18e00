-- `progressive_decoder::upgrade::srl_list` meets its contract: a turn reads code words and a nonzero value behind them, and what is left of the list stays the same. Assumes nothing.
use mathlib.Core.Path.{◌≡◌, refl, sym, ap, ◌∙◌}
use mathlib.Core.Bool.{false, not}
use Prim.Native.Nat.{ℕ, ◌+◌, ◌-◌, ◌*◌, ◌%◌, ◌≤◌, ◌<◌}
use native.Mathlib.Omega.{arith}
use lib.IntN.{pos}
use lib.ListN.{length, get_or, set}
use Rattle.bits.specs.Bits.{bit_at, zeros, bits_read}
use Rattle.bits.specs.declared.reader.BitReader.{BitReader}
use Rattle.bits.proofs.Places.{read_place}
use Rattle.bits.proofs.Tops.{front_skip}
use Rattle.srl_decoder.specs.Srl.{reader, most_zeros, nonzero}
use Rattle.srl_decoder.specs.Inner.{Brought}
use Rattle.srl_decoder.proofs.Chains.{zeros_brought}
use Rattle.upgrade_steps.specs.Steps.{srl}
use Rattle.upgrade_steps.specs.Inner.{band_step}
use Rattle.progressive_decoder.specs.Upgrade.{srl_coefficient, srl_sign, raw_coefficient}
use Rattle.progressive_decoder.specs.Inner.{walked, over, sign_by}
use Rattle.progressive_decoder.proofs.Steps.{moved_by, sign_by_lem}
use Rattle.progressive_decoder.proofs.Listed.{left, turn_start, turn_codes, turn_value, turn_end}
use Rattle.progressive_decoder.proofs.upgrade.srl_list.Goals as goal

pub loop-j-init : goal.loop-j-init
loop-j-init c =
    let a = c.args in (
      omega (arith, c.requires.2),
      omega arith,
      refl,
      refl,
      λ d m. turn_start a.srl_data.now d (band_step a.t) a.list.now a.coefficients.now a.sign.now c.count_of-at.result a.from.kp a.from.zero_run_remaining a.from.nonzero_pending m,
    )

pub count_of-at-requires : goal.count_of-at-requires
count_of-at-requires c =
    let p = c.requires in (p.1, omega (arith, p.3))

pub up_to_value-codes-requires : goal.up_to_value-codes-requires
up_to_value-codes-requires c = (c.loop-j.invariant.0, omega (arith, c.loop-j-test.true))

pub overflow_add-at : goal.overflow_add-at
overflow_add-at c =
    let early : c.loop-j.at ≤ 2 * 2199023255552 = let p = c.requires in omega (arith, c.loop-j.invariant.1, c.loop-j-test.true, p.3, p.4, c.count_of-at.ensures) in
    let brings : Brought c.args.srl_data.now c.loop-j.at c.loop-j.kp c.loop-j.pending (length c.args.list.now - c.loop-j.j) c.up_to_value-codes.result = let l = c.loop-j in c.up_to_value-codes.ensures c.args.srl_data.now l.at (64 - l.at % 8) c.ahead_at-a.ensures (omega arith) in
    record { fits = omega (arith, early, brings.near) }

pub overflow_add-j : goal.overflow_add-j
overflow_add-j c =
    let brings : Brought c.args.srl_data.now c.loop-j.at c.loop-j.kp c.loop-j.pending (length c.args.list.now - c.loop-j.j) c.up_to_value-codes.result = let l = c.loop-j in c.up_to_value-codes.ensures c.args.srl_data.now l.at (64 - l.at % 8) c.ahead_at-a.ensures (omega arith) in
    record { fits = omega (arith, brings.run_low, c.loop-j-test.true, c.requires.4) }

pub value_behind-v-requires : goal.value_behind-v-requires
value_behind-v-requires c =
    let brings : Brought c.args.srl_data.now c.loop-j.at c.loop-j.kp c.loop-j.pending (length c.args.list.now - c.loop-j.j) c.up_to_value-codes.result = let l = c.loop-j in c.up_to_value-codes.ensures c.args.srl_data.now l.at (64 - l.at % 8) c.ahead_at-a.ensures (omega arith) in
    let early : c.loop-j.at ≤ 2 * 2199023255552 = let p = c.requires in omega (arith, c.loop-j.invariant.1, c.loop-j-test.true, p.3, p.4, c.count_of-at.ensures) in
    let l = c.loop-j in
    let near = brings.near in
    let m = c.up_to_value-codes.result.taken in
    (c.requires.0, near, omega (arith, early, near), front_skip (64 - l.at % 8) m _ c.ahead_at-a.result c.args.srl_data.now l.at c.ahead_at-a.ensures (omega (arith, near)))

pub offset_bounds-list-j : goal.offset_bounds-list-j
offset_bounds-list-j c =
    let there : c.loop-j.j + c.up_to_value-codes.result.run < length c.args.list.now = (c.due.ensures.0 c.if-due.true).1 in
    record { fits = omega (arith, there, c.requires.4) }

pub bounds-list-j : goal.bounds-list-j
bounds-list-j c =
    let there : c.loop-j.j + c.up_to_value-codes.result.run < length c.args.list.now = (c.due.ensures.0 c.if-due.true).1 in
    there

pub overflow_cast-list : goal.overflow_cast-list
overflow_cast-list c = record { fits = omega (arith, c.shared_slice_known-then-due-1.given (c.loop-j.j + c.up_to_value-codes.result.run)) }

pub put_value-requires : goal.put_value-requires
put_value-requires c =
    let there : c.loop-j.j + c.up_to_value-codes.result.run < length c.args.list.now = (c.due.ensures.0 c.if-due.true).1 in
    let l = c.loop-j in
    let h = c.requires.5 (l.j + c.up_to_value-codes.result.run) there in
    (omega (arith, h, l.invariant.2), omega (arith, h, l.invariant.3, c.requires.6))

pub overflow_add-at-then-due : goal.overflow_add-at-then-due
overflow_add-at-then-due c =
    let early : c.loop-j.at ≤ 2 * 2199023255552 = let p = c.requires in omega (arith, c.loop-j.invariant.1, c.loop-j-test.true, p.3, p.4, c.count_of-at.ensures) in
    let brings : Brought c.args.srl_data.now c.loop-j.at c.loop-j.kp c.loop-j.pending (length c.args.list.now - c.loop-j.j) c.up_to_value-codes.result = let l = c.loop-j in c.up_to_value-codes.ensures c.args.srl_data.now l.at (64 - l.at % 8) c.ahead_at-a.ensures (omega arith) in
    record { fits = omega (arith, early, brings.near, c.value_behind-v.ensures.3) }

pub overflow_add-j-then-due : goal.overflow_add-j-then-due
overflow_add-j-then-due c =
    let there : c.loop-j.j + c.up_to_value-codes.result.run < length c.args.list.now = (c.due.ensures.0 c.if-due.true).1 in
    record { fits = omega (arith, there, c.requires.4) }

pub loop-j-smaller-then-due : goal.loop-j-smaller-then-due
loop-j-smaller-then-due c =
    let there : c.loop-j.j + c.up_to_value-codes.result.run < length c.args.list.now = (c.due.ensures.0 c.if-due.true).1 in
    omega (arith, there)

pub loop-j-preserved-then-due : goal.loop-j-preserved-then-due
loop-j-preserved-then-due c =
    let brings : Brought c.args.srl_data.now c.loop-j.at c.loop-j.kp c.loop-j.pending (length c.args.list.now - c.loop-j.j) c.up_to_value-codes.result = let l = c.loop-j in c.up_to_value-codes.ensures c.args.srl_data.now l.at (64 - l.at % 8) c.ahead_at-a.ensures (omega arith) in
    let there : c.loop-j.j + c.up_to_value-codes.result.run < length c.args.list.now = (c.due.ensures.0 c.if-due.true).1 in
    let a = c.args in
    let s = a.srl_data.now in
    let t = band_step a.t in
    let w = a.t.width in
    let q = a.t.position in
    let l = c.loop-j in
    let b = brings in
    let r = c.up_to_value-codes.result in
    let j = l.j + r.run in
    let at = l.at + r.taken in
    let i = get_or a.list.now j 0 in
    let v = c.value_behind-v in
    let put = c.put_value in
    let x = get_or l.coefficients i (pos 0) in
    let y = get_or l.sign i (pos 0) in
    let z = zeros s (at + 1) (most_zeros w) in
    let coefficients : put.new.coefficients ≡ set l.coefficients i (srl_coefficient q (nonzero s at w) x) =
    put.ensures.0 ∙ ap (set l.coefficients i) ((λ e. raw_coefficient (not (v.ensures.0 e)) q (v.ensures.1 e) x) ∙ sym (moved_by (bit_at s at) q z x)) in
    let sign : put.new.sign ≡ set l.sign i (srl_sign (nonzero s at w) y) = put.ensures.1 ∙ ap (set l.sign i) (ap sign_by v.ensures.0 ∙ sym (sign_by_lem (bit_at s at) z y)) in (
      b.kp_low,
      omega (arith, l.invariant.1, b.near, v.ensures.3),
      put.auto.coefficients ∙ l.invariant.2,
      put.auto.sign ∙ l.invariant.3,
      λ d m. l.invariant.4 d m
          ∙ turn_codes s d t a.list.now l.coefficients l.sign l.j l.at l.kp r.run at r.kp l.pending r.pending m c.loop-j-test.true b.same
          ∙ turn_value s d t a.list.now l.coefficients l.sign j at r.kp i r.pending m there (c.due.ensures.0 c.if-due.true).0 refl
          ∙ (λ e. left s d t a.list.now (sym coefficients e) (sym sign e) (j + 1) (sym v.ensures.2 e) r.kp false m),
    )

pub loop-j-smaller : goal.loop-j-smaller
loop-j-smaller c =
    let brings : Brought c.args.srl_data.now c.loop-j.at c.loop-j.kp c.loop-j.pending (length c.args.list.now - c.loop-j.j) c.up_to_value-codes.result = let l = c.loop-j in c.up_to_value-codes.ensures c.args.srl_data.now l.at (64 - l.at % 8) c.ahead_at-a.ensures (omega arith) in
    let some : 1 ≤ c.up_to_value-codes.result.run = let l = c.loop-j in
    let n = length c.args.list.now in
    zeros_brought c.args.srl_data.now l.at l.kp l.pending (n - l.j) n l.j c.up_to_value-codes.result brings c.loop-j-test.true (c.due.ensures.1 c.if-due.false) in
    omega (arith, some, c.loop-j-test.true)

pub loop-j-preserved : goal.loop-j-preserved
loop-j-preserved c =
    let brings : Brought c.args.srl_data.now c.loop-j.at c.loop-j.kp c.loop-j.pending (length c.args.list.now - c.loop-j.j) c.up_to_value-codes.result = let l = c.loop-j in c.up_to_value-codes.ensures c.args.srl_data.now l.at (64 - l.at % 8) c.ahead_at-a.ensures (omega arith) in
    let some : 1 ≤ c.up_to_value-codes.result.run = let l = c.loop-j in
    let n = length c.args.list.now in
    zeros_brought c.args.srl_data.now l.at l.kp l.pending (n - l.j) n l.j c.up_to_value-codes.result brings c.loop-j-test.true (c.due.ensures.1 c.if-due.false) in
    let a = c.args in
    let l = c.loop-j in
    let b = brings in
    let r = c.up_to_value-codes.result in (
      b.kp_low,
      omega (arith, l.invariant.1, b.near, some),
      l.invariant.2,
      l.invariant.3,
      λ d m. l.invariant.4 d m
          ∙ turn_codes a.srl_data.now d (band_step a.t) a.list.now l.coefficients l.sign l.j l.at l.kp r.run (l.at + r.taken) r.kp l.pending r.pending m c.loop-j-test.true b.same,
    )

pub returns : goal.returns
returns c =
    let a = c.args in
    let s = a.srl_data.now in
    let l = c.loop-j in
    let at = c.count_of-at.ensures in
    let place = c.place.ensures in
    let read : l.at ≡ bits_read c.place.result = sym (ap bits_read place ∙ read_place l.at) in (
      λ d m. ap (λ (n : ℕ). over srl s d (band_step a.t) a.list.now (walked a.coefficients.now a.sign.now (reader n a.from.kp a.from.zero_run_remaining a.from.nonzero_pending) m)) (sym at)
          ∙ l.invariant.4 d m
          ∙ turn_end s d (band_step a.t) a.list.now srl l.j (walked l.coefficients l.sign (reader l.at l.kp (l.j - length a.list.now) l.pending) m) (omega (arith, c.loop-j-test.false))
          ∙ ap (λ (n : ℕ). walked l.coefficients l.sign (reader n l.kp (l.j - length a.list.now) l.pending) m) read,
      omega (arith, ap (λ (r : BitReader). r.bit_idx) place),
    )
