-- What a dynamic memory stands for.
use Rattle.std.specs.Prelude.{◌≡◌, ℕ, ◌*◌, ◌≤◌, [], ◌∷◌, Ok, Err, vec_items, Result}
use Rattle.elementary.specs.declared.error.SetUpError.{SetUpError}
use Rattle.elementary.specs.declared.error.SetUpError.TheVariants.{OutOfRange, NoMemory}
use Rattle.rules.specs.Memory.{Fair}
use Rattle.rules.specs.Pools.{Dynamic, new_pool}
use Rattle.pool.specs.Model.{pools_in}
use Rattle.pool.specs.declared.dynamic_memory.DynamicMemory.{DynamicMemory}

abbrev pub dynamic_of : DynamicMemory → Dynamic
dynamic_of m = record { pools = pools_in (vec_items m.live); count = m.count; end = m.end; capacity = m.capacity }

-- the settings that a dynamic memory may have
abbrev pub Settings : ℕ → ℕ → ℕ → Type 0
Settings size count capacity = Fair size count × (size * count ≤ capacity)

-- a new one has one new pool at 0; it is refused exactly for settings out of range, and else only for want of memory
abbrev pub MakesDynamic : ℕ → ℕ → ℕ → Result DynamicMemory SetUpError → Type 0
MakesDynamic size count capacity (Ok m) =
    Settings size count capacity × (dynamic_of m ≡ record { pools = new_pool 0 size count ∷ []; count = count; end = size * count; capacity = capacity })
MakesDynamic size count capacity (Err OutOfRange) = Settings size count capacity → ⊥
MakesDynamic size count capacity (Err NoMemory) = Settings size count capacity
