-- `tarjimp::answers::hand_on_missing` meets its contract: both counts are 0 with a refusal. Assumes nothing.
use mathlib.Core.Path.{◌≡◌, ap}
use Rattle.answer.specs.Answers.{given_or}
use Rattle.progressive_decoder.specs.Upgrade.{missing_bits}
use Rattle.tarjimp.specs.Calls.{missing_numbers}
use Rattle.tarjimp.proofs.answers.hand_on_missing.Goals as goal

pub returns : goal.returns
returns c =
    let bits : c.hand_on-number.new.given ≡ given_or (missing_bits 0 0) c.args.answer = c.hand_on-number.ensures.1 in
    (c.hand_on-number.ensures.0, ap missing_numbers bits)
