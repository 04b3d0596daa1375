use Rattle.rules.proofs.Halves.{nothing_taken_away}
use Rattle.rules.proofs.bank_laws.nothing_taken_away_stands.Goals as goal

pub returns : goal.returns
returns c = nothing_taken_away
