-- `answer::answer_numbers` meets its contract. Assumes nothing.
use Rattle.answer.proofs.Refusing.{number_answered, number_of_table, same_number}
use Rattle.answer.proofs.answer_numbers.Goals as goal

pub returns : goal.returns
returns g c = record { number = number_answered; of_number = number_of_table; apart = same_number }
