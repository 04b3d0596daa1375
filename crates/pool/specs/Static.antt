-- What a static memory stands for.
use Rattle.std.specs.Prelude.{◌≡◌, ℕ, Ok, Err, Result}
use Rattle.elementary.specs.declared.error.SetUpError.{SetUpError}
use Rattle.elementary.specs.declared.error.SetUpError.TheVariants.{OutOfRange, NoMemory}
use Rattle.rules.specs.Memory.{Fair}
use Rattle.rules.specs.Pools.{Pool, new_pool}
use Rattle.pool.specs.Model.{pool_of}
use Rattle.pool.specs.declared.static_memory.StaticMemory.{StaticMemory}

abbrev pub static_of : StaticMemory → Pool
static_of m = pool_of m.pool

-- a new one is a new pool at 0; it is refused exactly for settings out of range, and else only for want of memory
abbrev pub MakesStatic : ℕ → ℕ → Result StaticMemory SetUpError → Type 0
MakesStatic size count (Ok m) = Fair size count × (static_of m ≡ new_pool 0 size count)
MakesStatic size count (Err OutOfRange) = Fair size count → ⊥
MakesStatic size count (Err NoMemory) = Fair size count
