use Rattle.rules.proofs.Sure.{loan_is_sure}
use Rattle.rules.proofs.run_laws.loan_is_sure_stands.Goals as goal

pub returns : goal.returns
returns c = loan_is_sure
