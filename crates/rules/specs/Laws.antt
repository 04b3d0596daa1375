-- Laws of memories and counts that the layers above rest on.
use Rattle.std.specs.Prelude.{◌≡◌, ℕ, ◌+◌, ◌<◌, ◌≤◌, Bool, true, false, cond, ◌⊎◌, List, length, Some, sum_by, sum, count_by, ◌≢◌, nat_eq, nat_le, nat_lt, slice_index, slice_index_or}
use Rattle.elementary.specs.declared.error.AllocationError.TheVariants.{OutOfMemory}
use Rattle.rules.specs.Memory.{Mem, Segment, Sound, segment_at, is_chunk, taken_at, some_free, allocation_fault}
use Rattle.rules.specs.Counts.{Counts, counts_of}
use Rattle.rules.specs.Bytes.{place, room}

abbrev pub trues : List Bool → ℕ
trues ts = count_by (λ t. t) ts

-- how many buckets as large as asked there are, free or taken, and how many of them are taken
abbrev pub as_large : List Segment → ℕ → ℕ
as_large gs asked = sum_by (λ g. cond (nat_le asked g.size) (length g.taken) 0) gs

abbrev pub as_large_taken : List Segment → ℕ → ℕ
as_large_taken gs asked = sum_by (λ g. cond (nat_le asked g.size) (trues g.taken) 0) gs

abbrev pub sum_of_counts : Counts → ℕ
sum_of_counts cs = sum_by sum cs

-- a bucket is taken exactly where its count is not zero
abbrev pub TakenWhereCounted : List Segment → Counts → Type 0
TakenWhereCounted gs cs = (s b : ℕ) → slice_index_or (segment_at gs s).taken b false ≡ nat_lt 0 (slice_index (counts_of cs s) b)

-- then no more buckets are taken than the counts add up to
abbrev pub TakenAtMostCounted : Type 0
TakenAtMostCounted = (gs : List Segment) (cs : Counts) (asked : ℕ) → TakenWhereCounted gs cs → as_large_taken gs asked ≤ sum_of_counts cs

-- where fewer buckets as large as asked are taken than there are, one of them is free, and no request is refused for want of memory
abbrev pub OneIsFree : Type 0
OneIsFree = (m : Mem) (asked : ℕ) → as_large_taken m.segments asked < as_large m.segments asked
    → (some_free m.segments asked ≡ true) × ((align : ℕ) → allocation_fault m asked align ≢ Some OutOfMemory)

-- how often o stands in a list
abbrev pub occurrences : List ℕ → ℕ → ℕ
occurrences xs o = count_by (λ x. nat_eq x o) xs

-- where every taken bucket has a holder in a list, no more buckets are taken than the list is long
abbrev pub TakenAtMostHeld : Type 0
TakenAtMostHeld = (limit : ℕ) (m : Mem) (holders : List ℕ) (asked : ℕ) → Sound limit m
    → ((o : ℕ) → taken_at m.segments o ≡ true → 0 < occurrences holders o)
    → as_large_taken m.segments asked ≤ length holders

-- two chunks share no byte
abbrev pub NoByteShared : Type 0
NoByteShared = (limit : ℕ) (m : Mem) (o p : ℕ) → Sound limit m → is_chunk m.segments o ≡ true → is_chunk m.segments p ≡ true
    → (o ≢ p) → (place m o + room m o ≤ place m p) ⊎ (place m p + room m p ≤ place m o)

-- a chunk lies within the memory's capacity
abbrev pub WithinCapacity : Type 0
WithinCapacity = (limit : ℕ) (m : Mem) (o : ℕ) → Sound limit m → is_chunk m.segments o ≡ true → place m o + room m o ≤ m.capacity
