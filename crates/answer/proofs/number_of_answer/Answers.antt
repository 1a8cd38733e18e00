-- `answer::number_of_answer` meets its contract. It closes by itself: by hand, the number that is given is printed where it is another.
-- Assumes nothing.
use mathlib.Core.Path.{◌≡◌}
use Rattle.std.proofs.Common.{rules}
use Rattle.answer.specs.Answers.{number_of}
use Rattle.answer.proofs.number_of_answer.Goals as goal

pub returns-in-Err : goal.returns-in-Err
returns-in-Err c = let is : c.number.result ≡ number_of c.in-Err.refusal = c.number.ensures in search rules
