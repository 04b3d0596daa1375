use Rattle.rules.proofs.Steps.{steps_keep_order}
use Rattle.rules.proofs.run_laws.steps_keep_order_stands.Goals as goal

pub returns : goal.returns
returns c = steps_keep_order
