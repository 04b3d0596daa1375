use Rattle.rules.proofs.Stays.{sent_bytes_stay}
use Rattle.rules.proofs.run_laws.sent_bytes_stay_stands.Goals as goal

pub returns : goal.returns
returns c = sent_bytes_stay
