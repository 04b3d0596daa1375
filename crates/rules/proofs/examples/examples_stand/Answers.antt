use Rattle.rules.proofs.Worked.{examples}
use Rattle.rules.proofs.examples.examples_stand.Goals as goal

pub returns : goal.returns
returns c = examples
