use Rattle.rules.proofs.Steps.{counts_balance}
use Rattle.rules.proofs.run_laws.counts_balance_stands.Goals as goal

pub returns : goal.returns
returns c = counts_balance
