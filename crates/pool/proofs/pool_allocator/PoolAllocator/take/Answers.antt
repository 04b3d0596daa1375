use Rattle.pool.proofs.Pools.{kept_again}
use Rattle.pool.proofs.pool_allocator.PoolAllocator.take.Goals as goal

pub invariant_of-self : goal.invariant_of-self
invariant_of-self c =
    let k = kept_again c.args.self.now _ _ c.in-Some.ensures.items c.pop.ensures.capacity in
    record { fair = c.args.self.now.fair; counted = k.0; listed = k.1; apart = k.2 }
