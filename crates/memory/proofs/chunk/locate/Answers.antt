use Rattle.std.proofs.Common.{rules}
use Rattle.rules.proofs.Chunks.{located}
use Rattle.memory.proofs.chunk.locate.Goals as goal

pub returns-clause-within : goal.returns-clause-within
returns-clause-within g c =
    let m = c.args.memory.now in
    located _ (g.M.Segmented.model m) c.args.offset.value _ _ (g.met.M.Segmented.sound m) (search rules)
