-- How many hold each chunk.
use Rattle.std.specs.Prelude.{ℕ, ◌+◌, ◌-◌, cond, List, [], ◌==◌, nat_lt, slice_index, slice_index_or, slice_set}
use Rattle.elementary.specs.Ids.{segment}
use Rattle.rules.specs.Memory.{Mem, Segment, bucket, is_chunk, freed}

-- a count for each bucket, segment by segment
abbrev pub Counts : Type 0
Counts = List (List ℕ)

-- a publisher's chunks: the memory that they are in, and their counts
pub record Chunks : Type 0 where
  pub mem : Mem
  pub counts : Counts

abbrev pub counts_of : Counts → ℕ → List ℕ
counts_of cs s = slice_index_or cs s []

-- an offset that names no chunk has none
abbrev pub count_at : List Segment → Counts → ℕ → ℕ
count_at gs cs o = cond (is_chunk gs o) (slice_index (counts_of cs (segment o)) (bucket gs o)) 0

-- the counts with another one at the bucket that o names
abbrev pub recounted : List Segment → Counts → ℕ → ℕ → Counts
recounted gs cs o n = cond (is_chunk gs o) (slice_set cs (segment o) (slice_set (counts_of cs (segment o)) (bucket gs o) n)) cs

-- one more, up to 10 and no further: a chunk has at most one loan, one history entry and eight links
abbrev pub raised : ℕ → ℕ
raised n = cond (nat_lt n 10) (n + 1) n

-- one holder more
abbrev pub counted : List Segment → Counts → ℕ → Counts
counted gs cs o = recounted gs cs o (raised (count_at gs cs o))

-- one holder less
abbrev pub uncounted : List Segment → Counts → ℕ → Counts
uncounted gs cs o = recounted gs cs o (count_at gs cs o - 1)

abbrev pub borrowed : Chunks → ℕ → Chunks
borrowed c o = record { mem = c.mem; counts = counted c.mem.segments c.counts o }

-- one holder less; the last one, whose release finds the count 1, frees the bucket
abbrev pub released : Chunks → ℕ → Chunks
released c o = record {
  mem = cond (count_at c.mem.segments c.counts o == 1) (freed c.mem o) c.mem;
  counts = uncounted c.mem.segments c.counts o;
}
