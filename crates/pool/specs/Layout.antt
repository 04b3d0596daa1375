-- What always holds of a dynamic memory's segments, made and to be.
use Rattle.std.specs.Prelude.{◌≡◌, ℕ, ◌*◌, ◌<◌, ◌≤◌, List, length, slice_index}
use Rattle.rules.specs.Memory.{Segment, segment_at, end_of}

-- a segment has at most 256 buckets of 65,536 bytes
abbrev pub Sized : ℕ → ℕ → ℕ → ℕ → Type 0
Sized used end capacity count = (1 ≤ used) × (end ≤ capacity) × (end ≤ used * 16777216) × (1 ≤ count) × (count ≤ 256)

-- each segment ends by `end`
abbrev pub Laid : List Segment → ℕ → Type 0
Laid gs end = (k : ℕ) → k < length gs → end_of (segment_at gs k) ≤ end

-- each ends before the next starts
abbrev pub Rising : List Segment → Type 0
Rising gs = (j k : ℕ) → j < k → k < length gs → end_of (segment_at gs j) ≤ (segment_at gs k).start

-- all have as many buckets
abbrev pub Even : List Segment → ℕ → Type 0
Even gs count = (k : ℕ) → k < length gs → length (segment_at gs k).taken ≡ count

-- and so will those to be
abbrev pub Spares : List ℕ → ℕ → Type 0
Spares ns count = (k : ℕ) → k < length ns → slice_index ns k ≡ count
