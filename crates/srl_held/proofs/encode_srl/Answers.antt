-- `srl_held::encode_srl` meets its contract: the end is stored or refused by `finish`, and the values before it. Assumes nothing.
use mathlib.Core.Path.{◌≡◌, sym, ap, ◌∙◌}
use mathlib.Core.Bool.{true}
use native.Mathlib.Omega.{arith}
use lib.ListN.{length, drop}
use Rattle.std.specs.Prelude.{None}
use Rattle.std.proofs.lemmas.Result.{err_from_is_err_and}
use Rattle.answer.proofs.Refusing.{none_given}
use Rattle.srl_rules.specs.Rules.{width_ok}
use Rattle.srl_encoder.specs.Encode.{fresh_writer, call_bytes, fault}
use Rattle.srl_encoder.specs.Finish.{finish_answer}
use Rattle.srl_held.proofs.WholeStreams.{sets_all, begun, end_refused, end_stored}
use Rattle.srl_held.proofs.encode_srl.Goals as goal

pub returns-in_err-end : goal.returns-in_err-end
returns-in_err-end c =
    let vs = c.args.values.now in
    let out = c.args.out.now in
    let w = c.args.num_bits in
    let wide : width_ok w ≡ true = sym c.width_ok.ensures ∙ c.if-not-width_ok.false in
    let none : fault w 0 vs ≡ None = none_given (fault w 0 vs) tt c.in_ok-values_fault.ensures in
    let b = begun w vs out c.new-fresh.ensures c.exceeds.ensures c.if-exceeds.false c.put_call-done.ensures in
    let p = err_from_is_err_and c.from_residual-in_err-end.result c.from_residual-in_err-end.ensures.1 in
    let s = c.split_at_mut-front.ensures in
    let e : c.finish.result ≡ finish_answer c.put_call-done.result.state (length c.split_at_mut-front.result.1.now) = c.finish.ensures.answer in
    rw (p.1, p.2, s.front, b.1) (end_refused w vs out wide none b.0 b.2 (s.back ∙ ap (λ n. drop n out) b.1) c.in_err-end.ensures)

pub returns : goal.returns
returns c =
    let vs = c.args.values.now in
    let out = c.args.out.now in
    let w = c.args.num_bits in
    let wide : width_ok w ≡ true = sym c.width_ok.ensures ∙ c.if-not-width_ok.false in
    let none : fault w 0 vs ≡ None = none_given (fault w 0 vs) tt c.in_ok-values_fault.ensures in
    let b = begun w vs out c.new-fresh.ensures c.exceeds.ensures c.if-exceeds.false c.put_call-done.ensures in
    let s = c.split_at_mut-front.ensures in
    let values = sets_all (call_bytes w fresh_writer vs) c.split_at_mut-front.result.0.now (omega (arith, s.front_len, b.1)) in
    rw (c.put_call.ensures.out, c.new-fresh.ensures, values, b.1) (end_stored w vs out wide none b.0 b.2 (s.back ∙ ap (λ n. drop n out) b.1) c.in_ok-end.ensures)
