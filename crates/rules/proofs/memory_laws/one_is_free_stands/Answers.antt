use Rattle.rules.proofs.Totals.{one_is_free}
use Rattle.rules.proofs.memory_laws.one_is_free_stands.Goals as goal

pub returns : goal.returns
returns c = one_is_free
