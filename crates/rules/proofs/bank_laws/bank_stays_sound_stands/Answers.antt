use Rattle.rules.proofs.Banks.{stays_sound}
use Rattle.rules.proofs.bank_laws.bank_stays_sound_stands.Goals as goal

pub returns : goal.returns
returns c = stays_sound
