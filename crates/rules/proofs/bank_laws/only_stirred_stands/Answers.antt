use Rattle.rules.proofs.Halves.{only_stirred}
use Rattle.rules.proofs.bank_laws.only_stirred_stands.Goals as goal

pub returns : goal.returns
returns c = only_stirred
