-- `reach::own_sign_in_words` meets its contract: the law is proved in `Signs`. Assumes nothing.
use Rattle.reach.proofs.Signs.{own_sign_in_words_lem}
use Rattle.reach.proofs.own_sign_in_words.Goals as goal

pub returns : goal.returns
returns c = own_sign_in_words_lem
