-- A publisher's bytes: what a fill writes, and what a reading hands out.
use Rattle.std.specs.Prelude.{ℕ, ◌+◌, cond, ◌&&◌, List, ◌++◌, length, take, drop, Some, None, Option, nat_le}
use Rattle.elementary.specs.Ids.{distance}
use Rattle.elementary.specs.declared.error.FillError.{FillError}
use Rattle.elementary.specs.declared.error.FillError.TheVariants as fill
use Rattle.elementary.specs.declared.error.ReadError.{ReadError}
use Rattle.elementary.specs.declared.error.ReadError.TheVariants as read
use Rattle.rules.specs.Memory.{Mem, home, is_chunk, taken_at}

-- where a chunk's payload begins, at its bucket's place, and how long it is, to the bucket's end
abbrev pub place : Mem → ℕ → ℕ
place m o = (home m.segments o).start + distance o

abbrev pub room : Mem → ℕ → ℕ
room m o = (home m.segments o).size

-- the bytes with `source` from `start` on, and as they were elsewhere
abbrev pub overwritten : List ℕ → ℕ → List ℕ → List ℕ
overwritten bytes start source = take start bytes ++ (source ++ drop (start + length source) bytes)

abbrev pub part : List ℕ → ℕ → ℕ → List ℕ
part bytes start size = take size (drop start bytes)

-- a fill wants a chunk, no more bytes than its bucket has, and a publisher's bytes that reach the memory's capacity
abbrev pub fill_fault : Mem → List ℕ → ℕ → List ℕ → Option FillError
fill_fault m bytes o source =
    cond (is_chunk m.segments o && (nat_le (length source) (room m o) && nat_le m.capacity (length bytes))) None (Some fill.OutOfBounds)

abbrev pub filled : Mem → List ℕ → ℕ → List ℕ → List ℕ
filled m bytes o source =
    cond (is_chunk m.segments o && (nat_le (length source) (room m o) && nat_le m.capacity (length bytes))) (overwritten bytes (place m o) source) bytes

-- a reading wants a taken chunk, and then bytes that reach the capacity
abbrev pub read_fault : Mem → List ℕ → ℕ → Option ReadError
read_fault m bytes o = cond (taken_at m.segments o) (cond (nat_le m.capacity (length bytes)) None (Some read.OutOfBounds)) (Some read.NotBorrowed)

abbrev pub payload : Mem → List ℕ → ℕ → List ℕ
payload m bytes o = part bytes (place m o) (room m o)
