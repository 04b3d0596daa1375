-- What an offset names: the segment and the bucket of a chunk, and the bytes that it has.
use Rattle.std.proofs.Common.{rules, arith, true, false, cond, ◌≡◌, ℕ, ◌+◌, ◌*◌, ◌^◌, ◌<◌, ◌≤◌, List, length, get_or, set, Some, None, Option, ap, mul-div_cancel}
use native.Mathlib.Nat.{mul-mod_left}
use Rattle.std.proofs.lemmas.Bool.Decides.{nat_tests}
use Rattle.std.proofs.lemmas.Nat.{row_fits_turned, div-mul-add, mod-mul-add}
use Rattle.elementary.specs.Ids.{packed, distance, segment}
use Rattle.rules.specs.Memory.{Mem, Segment, Sound, segment_at, no_segment, home, bucket, is_chunk, bucket_at, offset_of, end_of, start_of, with_segments, remarked, Takes}
use Rattle.rules.specs.Bytes.{place, room}
use Rattle.rules.specs.Laws.{NoByteShared, WithinCapacity}
use Rattle.rules.proofs.Lists.{within}

-- a chunk's distance is that of its bucket, which is there
pub chunk_bucket : (gs : List Segment) (o : ℕ) → is_chunk gs o ≡ true
    → (distance o ≡ bucket gs o * (home gs o).size) × (bucket gs o < length (home gs o).taken)
chunk_bucket gs o e = search rules

pub chunk_there : (gs : List Segment) (o : ℕ) → is_chunk gs o ≡ true → segment o < length gs
chunk_there gs o e = within gs (segment o) no_segment (λ none. omega (arith, (chunk_bucket gs o e).1, ap (λ (g : Segment). length g.taken) none))

-- an offset is its two parts
pub unpacked : (o : ℕ) → packed (distance o) (segment o) ≡ o
unpacked o = search rules

-- so two chunks of one segment and one bucket are one chunk
pub same_bucket : (gs : List Segment) (o p : ℕ) → is_chunk gs o ≡ true → is_chunk gs p ≡ true → segment o ≡ segment p → bucket gs o ≡ bucket gs p → o ≡ p
same_bucket gs o p co cp s b = search rules

-- every bucket has an offset that names it
pub named : (gs : List Segment) (s b : ℕ) → s < 256 → 0 < (segment_at gs s).size → b < length (segment_at gs s).taken
    → (segment (offset_of gs s b) ≡ s) × (bucket gs (offset_of gs s b) ≡ b) × (is_chunk gs (offset_of gs s b) ≡ true)
named gs s b h pos lt = grind (arith, nat_tests, mod-mul-add, div-mul-add, mul-div_cancel, mul-mod_left)

-- a bucket ends within its segment
pub chunk_within : (m : Mem) (o : ℕ) → is_chunk m.segments o ≡ true → place m o + room m o ≤ end_of (home m.segments o)
chunk_within m o e =
    let gs = m.segments in
    let c = chunk_bucket gs o e in
    omega (arith, row_fits_turned (bucket gs o) (home gs o).size (home gs o).size (length (home gs o).taken) c.1 (omega arith), c.0)

pub within_capacity : WithinCapacity
within_capacity = grind (arith, chunk_within, chunk_there)

-- and before the next one of that segment begins
before : (m : Mem) (o p : ℕ) → is_chunk m.segments o ≡ true → is_chunk m.segments p ≡ true → segment o ≡ segment p
    → bucket m.segments o < bucket m.segments p → place m o + room m o ≤ place m p
before m o p co cp s lt = search rules

pub no_byte_shared : NoByteShared
no_byte_shared limit m o p sound co cp ne =
    grind (arith, chunk_within, same_bucket, before, chunk_there, sound.apart (segment o) (segment p), sound.apart (segment p) (segment o))

-- a segment whose buckets have no size is not there, so that no offset names a bucket of it
pub sizeless : (limit : ℕ) (m : Mem) (o : ℕ) → Sound limit m → (home m.segments o).size ≡ 0 → bucket_at m.segments o ≡ None
sizeless limit m o sound z = search (rules, chunk_there)

-- a segment's start is a small number
pub start_low : (limit : ℕ) (m : Mem) (s x : ℕ) → Sound limit m → Some x ≡ start_of m.segments s → x < 2 ^ 63
start_low limit m s x sound e = search rules

-- an offset of a segment that has no start names nothing
pub startless : (gs : List Segment) (o : ℕ) → None ≡ start_of gs (segment o) → is_chunk gs o ≡ false
startless gs o e = search (rules, chunk_there)

-- what a search for a chunk's bytes found lies within the capacity
pub located : (limit : ℕ) (m : Mem) (o start size : ℕ) → Sound limit m
    → ◌≡◌ {A = Option (ℕ × ℕ)} (Some (start, size)) (cond (is_chunk m.segments o) (Some (place m o, room m o)) None) → start + size ≤ m.capacity
located limit m o start size sound e = grind (arith, within_capacity limit m o sound)

-- to take the free bucket b of segment s
pub takes_bucket : (m n : Mem) (asked s b : ℕ) → s < 256 → 0 < (segment_at m.segments s).size → b < length (segment_at m.segments s).taken
    → get_or (segment_at m.segments s).taken b false ≡ false → asked ≤ (segment_at m.segments s).size
    → n ≡ with_segments m (set m.segments s (remarked (segment_at m.segments s) b true)) → Takes m asked (offset_of m.segments s b) n
takes_bucket m n asked s b h pos lt free large after = search (rules, named)
