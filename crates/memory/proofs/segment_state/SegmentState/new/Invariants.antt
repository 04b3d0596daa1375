use Rattle.std.proofs.Common.{◌≡◌, ◌≤◌, replicate, vec_items, vec_len, vec_capacity}
use Rattle.memory.proofs.segment_state.SegmentState.new.Given as goal

abbrev pub invariant-loop : goal.invariant-loop
invariant-loop l = (vec_len l.rows ≡ l.counter) × (l.segments ≤ vec_capacity l.rows) × (vec_items l.rows ≡ replicate l.counter (replicate l.buckets 0))
