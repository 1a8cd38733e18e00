-- `srl_encoder::encoder::exceeds` meets its contract: what surely fits is not measured, and else the measure is exact. Assumes nothing.
use mathlib.Core.Path.{sym, ap, ◌∙◌}
use lib.Dec.{ltb}
use borrow.Author.Tests.{le-ltb}
use Rattle.srl_encoder.specs.Inner.{call_count}
use Rattle.srl_encoder.proofs.EncodedCalls.{call_count_lem}
use Rattle.srl_encoder.proofs.Sizes.{surely}
use Rattle.srl_encoder.proofs.encoder.exceeds.Goals as goal

pub returns-then-surely_fits : goal.returns-then-surely_fits
returns-then-surely_fits c =
    sym (le-ltb _ _ (surely c.args.num_bits c.args.st c.args.values.now c.args.room c.requires.0 c.requires.2 (c.surely_fits.ensures c.if-surely_fits.true)))

pub returns : goal.returns
returns c =
    c.too_many.ensures
    ∙ ap (λ p. ltb c.args.room (call_count c.args.num_bits p c.args.values.now)) c.measure_start.ensures
    ∙ ap (ltb c.args.room) (call_count_lem c.args.num_bits c.args.st c.args.values.now c.requires.0.0.0)
