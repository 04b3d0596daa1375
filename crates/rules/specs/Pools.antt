-- The two memories of the exchange: which bucket each takes.
use Rattle.std.specs.Prelude.{ℕ, ◌+◌, ◌-◌, ◌*◌, ◌/◌, Bool, true, false, cond, ◌&&◌, List, [], ◌∷◌, ◌++◌, map, length, take, is_some, Some, None, Ok, Err, Option, Result, nat_le, nat_lt, slice_index, slice_index_or, slice_set}
use Rattle.elementary.specs.Ids.{packed, segment}
use Rattle.elementary.specs.declared.pointer_offset.PointerOffset.{PointerOffset}
use Rattle.elementary.specs.declared.error.AllocationError.{AllocationError}
use Rattle.elementary.specs.declared.error.AllocationError.TheVariants.{OutOfMemory}
use Rattle.rules.specs.Memory.{Mem, Segment, no_segment, bucket, taken_at, remarked, end_of, blank, request_fault}

-- what an answer gives, and where it is none a default
abbrev pub by : {A R : Type 0} → Option A → R → (A → R) → R
by None r f = r
by (Some a) r f = f a

-- A POOL

-- a segment with its free buckets in the order in which they will be taken
pub record Pool : Type 0 where
  pub buckets : Segment
  -- those that were taken and freed, the last freed last
  pub freed : List ℕ
  -- the lowest bucket never taken
  pub fresh : ℕ

abbrev pub new_pool : ℕ → ℕ → ℕ → Pool
new_pool start size count = record { buckets = blank start size count; freed = []; fresh = 0 }

-- the bucket that is taken next: the last freed, else the lowest never taken
abbrev pub next : Pool → Option ℕ
next p =
    cond (nat_lt 0 (length p.freed)) (Some (slice_index p.freed (length p.freed - 1)))
    (cond (nat_lt p.fresh (length p.buckets.taken)) (Some p.fresh) None)

-- with that bucket, b, taken
abbrev pub took_next : Pool → ℕ → Pool
took_next p b = record {
  buckets = remarked p.buckets b true;
  freed = take (length p.freed - 1) p.freed;
  fresh = cond (nat_lt 0 (length p.freed)) p.fresh (p.fresh + 1);
}

abbrev pub took : Pool → Pool
took p = by (next p) p (took_next p)

abbrev pub gave : Pool → ℕ → Pool
gave p b = record { buckets = remarked p.buckets b false; freed = p.freed ++ b ∷ []; fresh = p.fresh }

-- what a request answers of which a part is checked first, and of the bucket of segment s that was taken, if any
abbrev pub checked : Option AllocationError → Result PointerOffset AllocationError → Result PointerOffset AllocationError
checked (Some e) r = Err e
checked None r = r

abbrev pub handed : ℕ → ℕ → Option ℕ → Result PointerOffset AllocationError
handed size s None = Err OutOfMemory
handed size s (Some b) = Ok (record { value = packed (b * size) s })

-- THE STATIC MEMORY: one pool

abbrev pub static_mem : Pool → Mem
static_mem p = record { segments = p.buckets ∷ []; largest = p.buckets.size; capacity = end_of p.buckets; grows = λ _. false }

abbrev pub static_answer : Pool → ℕ → ℕ → Result PointerOffset AllocationError
static_answer p asked align = checked (request_fault p.buckets.size asked align) (handed p.buckets.size 0 (next p))

abbrev pub static_after : Pool → ℕ → ℕ → Pool
static_after p asked align = cond (is_some (request_fault p.buckets.size asked align)) p (took p)

abbrev pub static_freed : Pool → ℕ → Pool
static_freed p o = cond (taken_at (p.buckets ∷ []) o) (gave p (bucket (p.buckets ∷ []) o)) p

-- THE DYNAMIC MEMORY: up to four pools, all of as many buckets

pub record Dynamic : Type 0 where
  pub pools : List Pool
  -- of each pool
  pub count : ℕ
  -- where the next pool would begin
  pub end : ℕ
  pub capacity : ℕ

abbrev pub with_pools : Dynamic → List Pool → Dynamic
with_pools d ps = record { pools = ps; count = d.count; end = d.end; capacity = d.capacity }

abbrev pub no_pool : Pool
no_pool = record { buckets = no_segment; freed = []; fresh = 0 }

abbrev pub pool_at : List Pool → ℕ → Pool
pool_at ps s = slice_index_or ps s no_pool

abbrev pub segments_of : List Pool → List Segment
segments_of ps = map (λ p. p.buckets) ps

-- the size of a new pool's buckets: as asked, rounded up to a multiple of 8
abbrev pub rounded : ℕ → ℕ
rounded asked = ((asked + 7) / 8) * 8

abbrev pub can_grow : Dynamic → ℕ → Bool
can_grow d asked = nat_lt (length d.pools) 4 && nat_le (d.end + rounded asked * d.count) d.capacity

abbrev pub grown : Dynamic → ℕ → Dynamic
grown d asked = record {
  pools = d.pools ++ new_pool d.end (rounded asked) d.count ∷ [];
  count = d.count;
  end = d.end + rounded asked * d.count;
  capacity = d.capacity;
}

abbrev pub dynamic_mem : Dynamic → Mem
dynamic_mem d = record { segments = segments_of d.pools; largest = 65536; capacity = d.capacity; grows = can_grow d }

-- large enough, and with a bucket to take
abbrev pub fits : ℕ → Pool → Bool
fits asked p = nat_le asked p.buckets.size && is_some (next p)

-- the first pool that fits, counted from s on
abbrev pub fitting : ℕ → List Pool → ℕ → Option ℕ
fitting asked [] s = None
fitting asked (p ∷ ps) s = cond (fits asked p) (Some s) (fitting asked ps (s + 1))

-- the pool that serves a request, and the memory that has it: a pool that fits, else a new one
abbrev pub serving : Dynamic → ℕ → Option ℕ
serving d asked = by (fitting asked d.pools 0) (cond (can_grow d asked) (Some (length d.pools)) None) (λ s. Some s)

abbrev pub readied : Dynamic → ℕ → Dynamic
readied d asked = by (fitting asked d.pools 0) (cond (can_grow d asked) (grown d asked) d) (λ s. d)

abbrev pub handed_by : List Pool → ℕ → Result PointerOffset AllocationError
handed_by ps s = handed (pool_at ps s).buckets.size s (next (pool_at ps s))

abbrev pub taken_in : Dynamic → ℕ → Dynamic
taken_in d s = with_pools d (slice_set d.pools s (took (pool_at d.pools s)))

abbrev pub dynamic_answer : Dynamic → ℕ → ℕ → Result PointerOffset AllocationError
dynamic_answer d asked align =
    checked (request_fault 65536 asked align) (by (serving d asked) (Err OutOfMemory) (λ s. handed_by (readied d asked).pools s))

abbrev pub dynamic_after : Dynamic → ℕ → ℕ → Dynamic
dynamic_after d asked align =
    cond (is_some (request_fault 65536 asked align)) d (by (serving d asked) d (λ s. taken_in (readied d asked) s))

abbrev pub dynamic_freed : Dynamic → ℕ → Dynamic
dynamic_freed d o =
    cond (taken_at (segments_of d.pools) o)
    (with_pools d (slice_set d.pools (segment o) (gave (pool_at d.pools (segment o)) (bucket (segments_of d.pools) o))))
    d
