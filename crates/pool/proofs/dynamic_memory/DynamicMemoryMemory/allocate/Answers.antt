use Rattle.rules.specs.Pools.{dynamic_mem}
use Rattle.pool.proofs.Nexts.{told}
use Rattle.pool.proofs.Dynamics.{dynamic_allocates}
use Rattle.pool.proofs.dynamic_memory.DynamicMemoryMemory.allocate.Goals as goal

pub returns : goal.returns
returns c =
    let e = c.take_bucket.ensures in
    let r = told dynamic_mem _ c.args.size _ e.answer e.pools (dynamic_allocates c.args.self.now c.args.size c.args.align) in
    record { fault = r.0; after = r.1; answer = e.answer; pools = e.pools }
