use Rattle.rules.proofs.Chunks.{no_byte_shared}
use Rattle.rules.proofs.memory_laws.no_byte_shared_stands.Goals as goal

pub returns : goal.returns
returns c = no_byte_shared
