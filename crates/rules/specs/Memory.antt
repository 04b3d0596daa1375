-- A memory by its segments of buckets: which there are, which are taken, and what its calls make of them.
use Rattle.std.specs.Prelude.{◌≡◌, ℕ, ◌+◌, ◌*◌, ◌/◌, ◌%◌, ◌^◌, ◌<◌, ◌≤◌, Bool, true, false, cond, not, ◌&&◌, ◌||◌, ◌⊎◌, List, [], ◌∷◌, ◌++◌, length, replicate, Some, None, Ok, Err, Option, Result, ◌==◌, nat_le, nat_lt, slice_index_or, slice_set}
use Rattle.elementary.specs.Ids.{packed, distance, segment}
use Rattle.elementary.specs.declared.pointer_offset.PointerOffset.{PointerOffset}
use Rattle.elementary.specs.declared.error.AllocationError.{AllocationError}
use Rattle.elementary.specs.declared.error.AllocationError.TheVariants.{SizeTooLarge, AlignmentFailure, OutOfMemory}
use Rattle.elementary.specs.declared.error.DeallocationError.{DeallocationError}
use Rattle.elementary.specs.declared.error.DeallocationError.TheVariants.{NotTaken}

-- equal buckets one behind the other, and of each whether it is taken
pub record Segment : Type 0 where
  pub start : ℕ
  pub size : ℕ
  pub taken : List Bool

pub record Mem : Type 0 where
  pub segments : List Segment
  -- no bucket is larger
  pub largest : ℕ
  -- every bucket ends within it
  pub capacity : ℕ
  -- whether it could grow by a segment for a request of that size
  pub grows : ℕ → Bool

abbrev pub with_segments : Mem → List Segment → Mem
with_segments m gs = record { segments = gs; largest = m.largest; capacity = m.capacity; grows = m.grows }

-- a segment that is not there has no bucket
abbrev pub no_segment : Segment
no_segment = record { start = 0; size = 0; taken = [] }

abbrev pub segment_at : List Segment → ℕ → Segment
segment_at gs s = slice_index_or gs s no_segment

-- WHAT AN OFFSET NAMES
-- o is always the value of a pointer offset

-- its segment
abbrev pub home : List Segment → ℕ → Segment
home gs o = segment_at gs (segment o)

-- the number of its bucket in the segment
abbrev pub bucket : List Segment → ℕ → ℕ
bucket gs o = distance o / (home gs o).size

-- it names a chunk, which is a bucket: its distance is a bucket's, and that bucket is there
abbrev pub is_chunk : List Segment → ℕ → Bool
is_chunk gs o = distance o % (home gs o).size == 0 && nat_lt (bucket gs o) (length (home gs o).taken)

-- the bucket that it names, if it names one
abbrev pub bucket_at : List Segment → ℕ → Option ℕ
bucket_at gs o = cond (is_chunk gs o) (Some (bucket gs o)) None

abbrev pub taken_at : List Segment → ℕ → Bool
taken_at gs o = is_chunk gs o && slice_index_or (home gs o).taken (bucket gs o) false

abbrev pub free_at : List Segment → ℕ → Bool
free_at gs o = is_chunk gs o && not (slice_index_or (home gs o).taken (bucket gs o) false)

-- the offset that names bucket b of segment s
abbrev pub offset_of : List Segment → ℕ → ℕ → ℕ
offset_of gs s b = packed (b * (segment_at gs s).size) s

-- WHAT HOLDS OF EVERY MEMORY

-- sizes and counts that a segment may have
abbrev pub Fair : ℕ → ℕ → Type 0
Fair size count = (size % 8 ≡ 0) × (8 ≤ size) × (size ≤ 65536) × (1 ≤ count) × (count ≤ 256)

abbrev pub end_of : Segment → ℕ
end_of g = g.start + g.size * length g.taken

pub record Shaped (m : Mem) (g : Segment) : Type 0 where
  pub fair : Fair g.size (length g.taken)
  pub largest : g.size ≤ m.largest
  pub within : end_of g ≤ m.capacity
  -- far below 2^64, so that a sum of a start and a distance is a machine number
  pub low : end_of g < 2 ^ 63

-- 1 to 4 segments, all well shaped, of which no two overlap
pub record Sound (limit : ℕ) (m : Mem) : Type 0 where
  pub limits : limit ≤ 4
  pub some : 1 ≤ length m.segments
  pub few : length m.segments ≤ limit
  pub shaped : (s : ℕ) → s < length m.segments → Shaped m (segment_at m.segments s)
  pub apart : (s t : ℕ) → s < t → t < length m.segments
      → (end_of (segment_at m.segments s) ≤ (segment_at m.segments t).start)
      ⊎ (end_of (segment_at m.segments t) ≤ (segment_at m.segments s).start)

-- whatever its greatest number of segments
abbrev pub IsMemory : Mem → Type 0
IsMemory m = (limit : ℕ) × Sound limit m

-- ALLOCATE

abbrev pub aligned : ℕ → Bool
aligned a = a == 1 || (a == 2 || (a == 4 || a == 8))

abbrev pub some_false : List Bool → Bool
some_false [] = false
some_false (t ∷ ts) = not t || some_false ts

-- some bucket as large as asked is free
abbrev pub some_free : List Segment → ℕ → Bool
some_free [] asked = false
some_free (g ∷ gs) asked = (nat_le asked g.size && some_false g.taken) || some_free gs asked

-- a request that is refused whatever is free
abbrev pub request_fault : ℕ → ℕ → ℕ → Option AllocationError
request_fault largest asked align =
    cond (asked == 0 || nat_lt largest asked) (Some SizeTooLarge) (cond (aligned align) None (Some AlignmentFailure))

-- a fault found first, else the next
abbrev pub else_fault : {E : Type 0} → Option E → Option E → Option E
else_fault (Some e) f = Some e
else_fault None f = f

-- when a request is refused, and by what
abbrev pub allocation_fault : Mem → ℕ → ℕ → Option AllocationError
allocation_fault m asked align =
    else_fault (request_fault m.largest asked align) (cond (some_free m.segments asked || m.grows asked) None (Some OutOfMemory))

-- a segment, and then a memory's segments, with another mark at one bucket
abbrev pub remarked : Segment → ℕ → Bool → Segment
remarked g b t = record { start = g.start; size = g.size; taken = slice_set g.taken b t }

abbrev pub marked : List Segment → ℕ → Bool → List Segment
marked gs o t = slice_set gs (segment o) (remarked (home gs o) (bucket gs o) t)

-- one free bucket as large as asked is now taken, and nothing else has changed
pub record Takes (m : Mem) (asked o : ℕ) (n : Mem) : Type 0 where
  pub free : free_at m.segments o ≡ true
  pub large : asked ≤ (home m.segments o).size
  pub after : n ≡ with_segments m (marked m.segments o true)

abbrev pub blank : ℕ → ℕ → ℕ → Segment
blank start size count = record { start = start; size = size; taken = replicate count false }

-- one segment more, all free, and those that were there as they were
pub record Grows (m : Mem) (asked : ℕ) (n : Mem) : Type 0 where
  pub could : m.grows asked ≡ true
  pub start : ℕ
  pub size : ℕ
  pub count : ℕ
  pub segments : n.segments ≡ m.segments ++ blank start size count ∷ []
  pub largest : n.largest ≡ m.largest
  pub capacity : n.capacity ≡ m.capacity

-- which bucket it is, and whether of a new segment, is the memory's choice; a refusal changes nothing
abbrev pub Allocates : Mem → ℕ → Result PointerOffset AllocationError → Mem → Type 0
Allocates m asked (Ok o) n =
    Takes m asked o.value n ⊎ ((g : Mem) × Grows m asked g × (segment o.value ≡ length m.segments) × Takes g asked o.value n)
Allocates m asked (Err e) n = n ≡ m

-- DEALLOCATE

abbrev pub deallocation_fault : Mem → ℕ → Option DeallocationError
deallocation_fault m o = cond (taken_at m.segments o) None (Some NotTaken)

-- a taken bucket is freed; any other offset changes nothing
abbrev pub freed : Mem → ℕ → Mem
freed m o = with_segments m (cond (taken_at m.segments o) (marked m.segments o false) m.segments)

-- VIEWS

abbrev pub start_of : List Segment → ℕ → Option ℕ
start_of gs s = cond (nat_lt s (length gs)) (Some (segment_at gs s).start) None

-- where a view that was opened with n segments finds what o names
abbrev pub placed : List Segment → ℕ → ℕ → Option ℕ
placed gs n o = cond (nat_lt (segment o) n && nat_lt (segment o) (length gs)) (Some ((home gs o).start + distance o)) None
