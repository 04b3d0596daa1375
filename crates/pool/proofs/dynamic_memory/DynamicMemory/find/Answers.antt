use Rattle.std.proofs.Common.{vec_items, rules, tests, ◌∙◌}
use Rattle.std.proofs.lemmas.Iterator.{YieldsList-from_slice}
use Rattle.std.proofs.lemmas.Iterator.Search.{position_from_yields_List}
use Rattle.rules.specs.Pools.{fits}
use Rattle.pool.specs.Model.{pool_of}
use Rattle.pool.proofs.Dynamics.{fitting_position}
use Rattle.pool.proofs.dynamic_memory.DynamicMemory.find.Goals as goal

pub returns : goal.returns
returns c =
    let qs = vec_items c.args.self.now.live in
    position_from_yields_List (λ q. fits c.args.size (pool_of q)) _ _ c.position.result c.position.ensures.ran (YieldsList-from_slice qs cc) (λ q b f k. search (rules, tests))
    ∙ fitting_position c.args.size qs
