use Rattle.rules.proofs.Steps.{links_stay_in_order}
use Rattle.rules.proofs.run_laws.links_stay_in_order_stands.Goals as goal

pub returns : goal.returns
returns c = links_stay_in_order
