use Rattle.rules.proofs.Chunks.{within_capacity}
use Rattle.rules.proofs.memory_laws.within_capacity_stands.Goals as goal

pub returns : goal.returns
returns c = within_capacity
