use Rattle.rules.proofs.Safe.{bank_stays_safe}
use Rattle.rules.proofs.bank_laws.bank_stays_safe_stands.Goals as goal

pub returns : goal.returns
returns c = bank_stays_safe
