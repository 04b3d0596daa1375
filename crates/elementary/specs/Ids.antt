-- Port ids, and the number that names a chunk.
use Rattle.std.specs.Prelude.{ℕ, ◌+◌, ◌*◌, ◌/◌, ◌%◌, Bool, ◌&&◌, ◌==◌}
use Rattle.elementary.specs.declared.port_id.PortId.{PortId}
use Rattle.elementary.specs.declared.pointer_offset.PointerOffset.{PointerOffset}

abbrev pub same_port : PortId → PortId → Bool
same_port a b = a.high == b.high && a.low == b.low

-- a pointer offset's value, of a bucket's distance from its segment's start and the segment's number
abbrev pub packed : ℕ → ℕ → ℕ
packed distance segment = distance * 256 + segment

abbrev pub distance : ℕ → ℕ
distance value = value / 256

abbrev pub segment : ℕ → ℕ
segment value = value % 256

abbrev pub same_chunk : PointerOffset → PointerOffset → Bool
same_chunk a b = a.value == b.value
