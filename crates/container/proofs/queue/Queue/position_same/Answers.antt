use Rattle.std.proofs.Common.{rules, tests}
use Rattle.std.proofs.lemmas.Iterator.Consumers.{YieldsList-from_deque}
use Rattle.std.proofs.lemmas.Iterator.Search.{position_from_yields_List}
use Rattle.container.specs.Queue.{entries}
use Rattle.container.proofs.Entries.{placed}
use Rattle.container.proofs.queue.Queue.position_same.Goals as goal

pub returns : goal.returns
returns g c =
    let like = g.T.Same.like in
    let x = c.args.x in
    let e = position_from_yields_List (λ y. like y x) _ _ c.position.result c.position.ensures.ran (YieldsList-from_deque (entries c.args.self.now) cc) (λ y b q k. search (rules, tests)) in
    rw e (placed like x (entries c.args.self.now))
