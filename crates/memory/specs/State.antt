-- What the code's counts stand for.
use Rattle.std.specs.Prelude.{vec_items}
use Rattle.rules.specs.Memory.{Mem}
use Rattle.rules.specs.Counts.{Counts, Chunks}
use Rattle.memory.specs.declared.segment_state.SegmentState.{SegmentState}

abbrev pub counts_in : SegmentState → Counts
counts_in s = vec_items s.segments

-- with the meaning of the memory that they count for
abbrev pub chunks_of : Mem → SegmentState → Chunks
chunks_of m s = record { mem = m; counts = counts_in s }
