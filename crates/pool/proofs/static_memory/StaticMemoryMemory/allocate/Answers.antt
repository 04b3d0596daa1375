use Rattle.rules.specs.Pools.{static_mem}
use Rattle.pool.proofs.Nexts.{told}
use Rattle.pool.proofs.Statics.{static_allocates}
use Rattle.pool.proofs.static_memory.StaticMemoryMemory.allocate.Goals as goal

pub returns : goal.returns
returns c =
    let e = c.take_bucket.ensures in
    let r = told static_mem _ c.args.size _ e.answer e.pool (static_allocates c.args.self.now c.args.size c.args.align) in
    record { fault = r.0; after = r.1; answer = e.answer; pool = e.pool }
