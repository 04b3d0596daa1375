-- What always holds of a pool's buckets: the taken ones, the freed ones and the lowest never taken.
use Rattle.std.specs.Prelude.{◌≡◌, ℕ, ◌+◌, ◌<◌, ◌≤◌, Bool, false, List, length, ◌≢◌, slice_index, slice_index_or}
use Rattle.rules.specs.Laws.{trues}

-- a freed bucket was once taken
abbrev pub Old : List ℕ → ℕ → Type 0
Old freed fresh = (k : ℕ) → k < length freed → slice_index freed k < fresh

-- it is free
abbrev pub Idle : List Bool → List ℕ → Type 0
Idle taken freed = (k : ℕ) → k < length freed → slice_index_or taken (slice_index freed k) false ≡ false

-- it stands once
abbrev pub Apart : List ℕ → Type 0
Apart freed = (j k : ℕ) → j < k → k < length freed → slice_index freed j ≢ slice_index freed k

-- from the lowest never taken on, none is taken
abbrev pub Unused : List Bool → ℕ → Type 0
Unused taken fresh = (i : ℕ) → fresh ≤ i → slice_index_or taken i false ≡ false

-- a bucket that was ever taken is taken or freed, and the list of freed ones has room for all
abbrev pub Counted : List Bool → List ℕ → ℕ → ℕ → Type 0
Counted taken freed fresh room = (fresh ≤ length taken) × (trues taken + length freed ≡ fresh) × (length taken ≤ room)

abbrev pub Listed : List Bool → List ℕ → ℕ → Type 0
Listed taken freed fresh = Old freed fresh × Idle taken freed × Unused taken fresh
