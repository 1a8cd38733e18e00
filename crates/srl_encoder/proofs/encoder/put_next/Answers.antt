-- `srl_encoder::encoder::put_next` meets its contract: a zero is counted, and another value is put. Assumes nothing.
use mathlib.Core.Path.{ap, ◌∙◌}
use lib.IntN.{nat_abs}
use mir.Syntax.{w16}
use mir.ValLaws.{to_z-of_z}
use Rattle.fixed.specs.Fixed.{is_negative}
use Rattle.srl_encoder.proofs.EncodedCalls.{wrote_nonzero}
use Rattle.srl_encoder.proofs.encoder.put_next.Goals as goal

pub returns : goal.returns
returns c =
    let a = c.args in
    let v = to_z-of_z w16 a.v c.ranges.v in
    wrote_nonzero a.num_bits a.out.now a.c a.v (c.magnitude-m.ensures ∙ ap nat_abs v) c.if-m-eq0.false (c.is_negative.ensures ∙ ap is_negative v) c.put_value.ensures
