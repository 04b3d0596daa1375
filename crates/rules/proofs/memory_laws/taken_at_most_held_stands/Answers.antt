use Rattle.rules.proofs.Totals.{taken_at_most_held}
use Rattle.rules.proofs.memory_laws.taken_at_most_held_stands.Goals as goal

pub returns : goal.returns
returns c = taken_at_most_held
