use Rattle.rules.proofs.History.{history_is_last_sends}
use Rattle.rules.proofs.run_laws.history_is_last_sends_stands.Goals as goal

pub returns : goal.returns
returns c = history_is_last_sends
