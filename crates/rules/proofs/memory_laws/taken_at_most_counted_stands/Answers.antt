use Rattle.rules.proofs.Totals.{taken_at_most_counted}
use Rattle.rules.proofs.memory_laws.taken_at_most_counted_stands.Goals as goal

pub returns : goal.returns
returns c = taken_at_most_counted
