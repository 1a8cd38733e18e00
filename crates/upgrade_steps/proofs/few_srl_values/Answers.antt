-- `upgrade_steps::few_srl_values` meets its contract: the law is proved in `Counts`. Assumes nothing.
use Rattle.upgrade_steps.proofs.Counts.{few_srl_values_lem}
use Rattle.upgrade_steps.proofs.few_srl_values.Goals as goal

pub returns : goal.returns
returns c = few_srl_values_lem
