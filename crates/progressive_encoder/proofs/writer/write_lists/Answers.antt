-- `progressive_encoder::writer::write_lists` meets its contract: its tests are those of `lists_refusal`, and then both streams are stored. Assumes nothing.
use mathlib.Core.Path.{◌≡◌, refl, sym, ◌∙◌}
use mathlib.Core.Bool.{Bool, true, false, cond}
use Prim.Native.Nat.{◌≤◌}
use native.Mathlib.Omega.{arith}
use borrow.Author.Tests.{lt-ltb, le-ltb}
use lib.Dec.{ltb}
use lib.ListN.{length}
use Rattle.std.specs.Prelude.{Some, None}
use Rattle.answer.specs.declared.Refusal.TheVariants.{OutputTooShort}
use Rattle.answer.specs.Answers.{first_of}
use Rattle.progressive_encoder.specs.Encode.{srl_stream, raw_stream}
use Rattle.progressive_encoder.proofs.BothStreams.{refusal_is, refused, accepted}
use Rattle.progressive_encoder.proofs.writer.write_lists.Goals.{then-raw_out-lengths-via-then-raw_out-lengths, then-raw_out-lengths-via-else-raw_out-lengths+then-srl_out-lengths}
use Rattle.progressive_encoder.proofs.writer.write_lists.Goals as goal

-- no room for the raw stream, whatever the other has
either_full : (b : Bool) → first_of (cond b (Some OutputTooShort) None) (Some OutputTooShort) ≡ Some OutputTooShort
either_full true = refl
either_full false = refl

pub returns-then-lengths : goal.returns-then-lengths
returns-then-lengths c = λ l f.
    let a = c.args in
    let m = c.measure_lists-lengths.ensures l f in
    refused l a.srl_out.now a.raw_out.now
    (refusal_is l a.srl_out.now a.raw_out.now (sym c.if-lengths.true ∙ m.large) refl refl)

pub returns-then-raw_out-lengths : goal.returns-then-raw_out-lengths
returns-then-raw_out-lengths c = λ l f.
    let a = c.args in
    let m = c.measure_lists-lengths.ensures l f in
    elim c.then-raw_out-lengths.branch [
      | then-raw_out-lengths-via-then-raw_out-lengths w ↦
          let full = lt-ltb (length a.raw_out.now) (length (raw_stream l.number_widths l.numbers)) (omega (arith, w.if-raw_out-lengths, m.raw)) in
          refused l a.srl_out.now a.raw_out.now
          (refusal_is l a.srl_out.now a.raw_out.now (sym c.if-lengths.false ∙ m.large) refl (sym full)
          ∙ either_full (ltb (length a.srl_out.now) (length (srl_stream l.widths l.values))))
      | then-raw_out-lengths-via-else-raw_out-lengths+then-srl_out-lengths w ↦
          let full = lt-ltb (length a.srl_out.now) (length (srl_stream l.widths l.values)) (omega (arith, w.if-srl_out-lengths, m.srl)) in
          refused l a.srl_out.now a.raw_out.now
          (refusal_is l a.srl_out.now a.raw_out.now (sym c.if-lengths.false ∙ m.large) (sym full) refl)
    ]

pub returns : goal.returns
returns c = λ l f.
    let a = c.args in
    let m = c.measure_lists-lengths.ensures l f in
    let raw : length (raw_stream l.number_widths l.numbers) ≤ length a.raw_out.now = omega (arith, c.if-raw_out-lengths.false, m.raw) in
    let srl : length (srl_stream l.widths l.values) ≤ length a.srl_out.now = omega (arith, c.if-srl_out-lengths.false, m.srl) in
    accepted l a.srl_out.now a.raw_out.now
    (refusal_is l a.srl_out.now a.raw_out.now (sym c.if-lengths.false ∙ m.large) (sym (le-ltb _ _ srl)) (sym (le-ltb _ _ raw)))
    srl raw (c.store_lists.ensures l f)
