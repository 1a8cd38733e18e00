-- `tarjimp::tarjimp_srl_encode` meets its contract. Assumes nothing.
use mathlib.Core.Path.{◌≡◌, ap, ◌∙◌}
use native.Mathlib.Omega.{arith}
use Rattle.answer.specs.Answers.{number_of_answer, given_or}
use Rattle.tarjimp.proofs.tarjimp_srl_encode.Goals as goal

pub returns : goal.returns
returns c =
    let e = c.srl_encode.ensures in
    let count : c.hand_on.new.given ≡ given_or 0 c.srl_encode.result = c.hand_on.ensures.1 in
    let number = ap number_of_answer e.answer in
    record { number = omega (arith, number); state = e.state; out = e.out; written = count ∙ ap (given_or 0) e.answer }
