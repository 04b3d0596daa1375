-- What the code's memories stand for.
use Rattle.std.specs.Prelude.{List, map, vec_items}
use Rattle.rules.specs.Pools.{Pool}
use Rattle.pool.specs.declared.pool_allocator.PoolAllocator.{PoolAllocator}

abbrev pub pool_of : PoolAllocator → Pool
pool_of p = record {
  buckets = record { start = p.start; size = p.bucket_size; taken = vec_items p.taken };
  freed = vec_items p.freed;
  fresh = p.fresh;
}

abbrev pub pools_in : List PoolAllocator → List Pool
pools_in ps = map pool_of ps
