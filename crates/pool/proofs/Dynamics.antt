-- A dynamic memory's calls, in the words that hold of every memory.
use Rattle.std.specs.Prelude.{◌≡◌, ℕ, zero, suc, ◌+◌, ◌-◌, ◌*◌, ◌%◌, ◌<◌, ◌≤◌, Bool, true, false, cond, ◌&&◌, ◌||◌, ◌⊎◌, List, [], ◌∷◌, ◌++◌, length, get_or, drop, replicate, is_some, Some, None, Err, vec_items, Option, nat_le, nat_lt, slice_index_or, slice_set, refl}
use Rattle.std.proofs.Common.{sym, ◌∙◌, ap, subst, inl, inr, ⊎_elim, arith, mul-le-mul}
use Rattle.std.specs.Result.{result_err}
use Rattle.std.specs.List.{position, position_from}
use Rattle.std.proofs.lemmas.Iterator.Adapters.{position_from-zero}
use Rattle.std.proofs.lemmas.List.{map-set, map_push, get_or_push, length-replicate, get_or-replicate, length-set, drop_more, drop_all}
use Rattle.std.proofs.lemmas.Bool.{cases_Bool, cond-true, cond-false, and_parts, leb-true, ltb-true, lt-ltb, or_from, false≢true}
use Rattle.std.proofs.lemmas.Nat.{mod-mul-add}
use Rattle.std.proofs.lemmas.Bool.Decides.{nat_tests}
use Rattle.elementary.specs.Ids.{packed, segment}
use Rattle.elementary.specs.declared.error.AllocationError.{AllocationError}
use Rattle.elementary.specs.declared.error.AllocationError.TheVariants.{OutOfMemory}
use Rattle.rules.specs.Memory.{Segment, Fair, segment_at, some_free, request_fault, else_fault, allocation_fault, Allocates, Takes, Grows, remarked, with_segments, blank, marked, freed, taken_at, bucket}
use Rattle.rules.specs.Pools.{Pool, Dynamic, by, next, took, took_next, checked, handed, handed_by, new_pool, no_pool, pool_at, segments_of, with_pools, fits, fitting, serving, readied, taken_in, can_grow, grown, rounded, dynamic_mem, dynamic_answer, dynamic_after, dynamic_freed, gave}
use Rattle.rules.proofs.Chunks.{takes_bucket}
use Rattle.pool.specs.Model.{pool_of, pools_in}
use Rattle.pool.specs.Dynamic.{dynamic_of}
use Rattle.pool.specs.declared.pool_allocator.PoolAllocator.{PoolAllocator}
use Rattle.pool.specs.declared.dynamic_memory.DynamicMemory.{DynamicMemory}
use Rattle.pool.specs.Soundness.{segments_at, segments_length}
use Rattle.pool.proofs.Nexts.{next_some, next_free, granted}
use Rattle.pool.proofs.Layouts.{spares_pop}

-- ONE POOL OF THE CODE'S LIST

-- a pool that has a next bucket is there, well shaped, and the bucket is free
pub record Ready (qs : List PoolAllocator) (s b : ℕ) : Type 0 where
  pub there : s < length qs
  pub fair : Fair (pool_at (pools_in qs) s).buckets.size (length (pool_at (pools_in qs) s).buckets.taken)
  pub within : b < length (pool_at (pools_in qs) s).buckets.taken
  pub free : get_or (pool_at (pools_in qs) s).buckets.taken b false ≡ false

pub ready : (qs : List PoolAllocator) (s b : ℕ) → next (pool_at (pools_in qs) s) ≡ Some b → Ready qs s b
ready [] s b e = let z : ◌≡◌ {A = ℕ} 0 1 = cc in absurd (omega arith)
ready (q ∷ qs) zero b e =
    let n = next_some q b e in
    record { there = omega arith; fair = subst (Fair q.bucket_size) q.taken.ok.0 q.fair; within = n.0; free = n.1 }
ready (q ∷ qs) (suc s) b e =
    let r = ready qs s b e in
    record { there = omega (arith, r.there); fair = r.fair; within = r.within; free = r.free }

-- its offset is small
pub ready_small : (qs : List PoolAllocator) (s b : ℕ) → Ready qs s b → b * (pool_at (pools_in qs) s).buckets.size ≤ 256 * 65536
ready_small qs s b r = let h : b ≤ 256 = omega (arith, r.within, r.fair.4) in mul-le-mul h r.fair.2

-- THE FIRST POOL THAT FITS

-- one step of the search from the left
pub fitting_step : (asked : ℕ) (ps : List Pool) (s : ℕ) → s < length ps
    → fitting asked (drop s ps) s ≡ cond (fits asked (pool_at ps s)) (Some s) (fitting asked (drop (s + 1) ps) (s + 1))
fitting_step asked ps s lt = ap (λ qs. fitting asked qs s) (drop_more ps s no_pool lt)

pub fitting_end : (asked : ℕ) (ps : List Pool) (s : ℕ) → length ps ≤ s → fitting asked (drop s ps) s ≡ None
fitting_end asked ps s le = ap (λ qs. fitting asked qs s) (drop_all s ps le)

-- it is the first place that passes the test
fitting_from : (asked : ℕ) (qs : List PoolAllocator) (n : ℕ) → position_from (λ q. fits asked (pool_of q)) n qs ≡ fitting asked (pools_in qs) n
fitting_from asked [] n = refl
fitting_from asked (q ∷ qs) n = ap (cond (fits asked (pool_of q)) (Some n)) (fitting_from asked qs (n + 1))

pub fitting_position : (asked : ℕ) (qs : List PoolAllocator) → position (λ q. fits asked (pool_of q)) qs ≡ fitting asked (pools_in qs) 0
fitting_position asked qs = position_from-zero (λ q. fits asked (pool_of q)) qs ∙ fitting_from asked qs 0

-- what is found fits
found : (asked : ℕ) (ps : List Pool) (n s : ℕ) → fitting asked ps n ≡ Some s → (n ≤ s) × (fits asked (pool_at ps (s - n)) ≡ true)
found asked [] n s e = let z : ◌≡◌ {A = ℕ} 0 1 = cc in absurd (omega arith)
found asked (p ∷ ps) n s e =
    ⊎_elim
    (λ yes. let f : ◌≡◌ {A = Option ℕ} (Some n) (Some s) = sym (cond-true _ _ _ yes) ∙ e in
    let at : n ≡ s = cc in
    let z : s - n ≡ 0 = omega arith in
    (omega arith, ap (λ k. fits asked (pool_at (p ∷ ps) k)) z ∙ yes))
    (λ no. let r = found asked ps (n + 1) s (sym (cond-false _ _ _ no) ∙ e) in
    let z : s - n ≡ suc (s - (n + 1)) = omega (arith, r.0) in
    (omega (arith, r.0), ap (λ k. fits asked (pool_at (p ∷ ps) k)) z ∙ r.1))
    (cases_Bool (fits asked p))

is_some_cond : (b : Bool) (n : ℕ) (x : Option ℕ) → is_some (cond b (Some n) x) ≡ (b || is_some x)
is_some_cond true n x = refl
is_some_cond false n x = refl

-- a pool fits exactly where a bucket as large as asked is free
pub free_fits : (qs : List PoolAllocator) (asked n : ℕ) → some_free (segments_of (pools_in qs)) asked ≡ is_some (fitting asked (pools_in qs) n)
free_fits [] asked n = refl
free_fits (q ∷ qs) asked n =
    ap (λ t. (nat_le asked q.bucket_size && t) || some_free (segments_of (pools_in qs)) asked) (sym (next_free q))
    ∙ (ap (λ t. fits asked (pool_of q) || t) (free_fits qs asked (n + 1))
    ∙ sym (is_some_cond (fits asked (pool_of q)) n (fitting asked (pools_in qs) (n + 1))))

-- ONE POOL CHANGED, ONE POOL MORE

pub mem_set : (d : Dynamic) (s : ℕ) (p : Pool) → dynamic_mem (with_pools d (slice_set d.pools s p)) ≡ with_segments (dynamic_mem d) (slice_set (segments_of d.pools) s p.buckets)
mem_set d s p =
    ap (λ gs. record { segments = gs; largest = 65536; capacity = d.capacity; grows = can_grow (with_pools d (slice_set d.pools s p)) }) (map-set (λ (q : Pool). q.buckets) d.pools s p)
    ∙ ap (λ n. record { segments = slice_set (segments_of d.pools) s p.buckets; largest = 65536; capacity = d.capacity; grows = λ asked. nat_lt n 4 && nat_le (d.end + rounded asked * d.count) d.capacity })
    (length-set d.pools s p)

-- what was freed
freed_as : (d : Dynamic) (o : ℕ) → dynamic_mem (with_pools d (slice_set d.pools (segment o) (gave (pool_at d.pools (segment o)) (bucket (segments_of d.pools) o))))
    ≡ with_segments (dynamic_mem d) (marked (segments_of d.pools) o false)
freed_as d o =
    mem_set d (segment o) _
    ∙ ap (λ (g : Segment). with_segments (dynamic_mem d) (slice_set (segments_of d.pools) (segment o) (remarked g (bucket (segments_of d.pools) o) false))) (sym (segments_at d.pools (segment o)))

pub dynamic_frees : (d : Dynamic) (o : ℕ) → dynamic_mem (dynamic_freed d o) ≡ freed (dynamic_mem d) o
dynamic_frees d o = go (taken_at (segments_of d.pools) o)
  where
    go : (t : Bool) → dynamic_mem (cond t (with_pools d (slice_set d.pools (segment o) (gave (pool_at d.pools (segment o)) (bucket (segments_of d.pools) o)))) d)
        ≡ with_segments (dynamic_mem d) (cond t (marked (segments_of d.pools) o false) (segments_of d.pools))
    go true = freed_as d o
    go false = refl

-- the bucket that a taken offset names
pub taken_bucket : (ps : List Pool) (o b : ℕ) → ◌≡◌ {A = Option ℕ} (Some b) (cond (taken_at (segments_of ps) o) (Some (bucket (segments_of ps) o)) None)
    → (taken_at (segments_of ps) o ≡ true) × (b ≡ bucket (segments_of ps) o) × (slice_index_or (pool_at ps (segment o)).buckets.taken b false ≡ true)
taken_bucket ps o b e =
    ⊎_elim
    (λ t. let f : ◌≡◌ {A = Option ℕ} (Some b) (Some (bucket (segments_of ps) o)) = e ∙ cond-true _ _ _ t in
    let eb : b ≡ bucket (segments_of ps) o = cc in
    let a = and_parts _ _ t in
    (t, eb, ap (λ (g : Segment). get_or g.taken b false) (sym (segments_at ps (segment o))) ∙ (ap (λ k. get_or (segment_at (segments_of ps) (segment o)).taken k false) eb ∙ a.1)))
    (λ u. let f : ◌≡◌ {A = Option ℕ} (Some b) None = e ∙ cond-false _ _ _ u in absurd (let z : ◌≡◌ {A = ℕ} 0 1 = cc in omega arith))
    (cases_Bool (taken_at (segments_of ps) o))

-- the pools with a new one, of a segment to be
pub grown_pools : (m : DynamicMemory) (size : ℕ) (x : ℕ) (w : PoolAllocator) (rest : List ℕ) (after : List PoolAllocator)
    → after ≡ vec_items m.live ++ w ∷ [] → vec_items m.spare ≡ rest ++ x ∷ [] → pool_of w ≡ new_pool m.end (rounded size) x
    → pools_in after ≡ (grown (dynamic_of m) size).pools
grown_pools m size x w rest after e r p =
    ap pools_in e
    ∙ (map_push pool_of (vec_items m.live) w
    ∙ ap (λ q. pools_in (vec_items m.live) ++ q ∷ []) (p ∙ ap (new_pool m.end (rounded size)) (spares_pop _ rest x m.count r m.spares).1))

-- the least multiple of 8 that is as large as asked
pub rounded_up : (asked size : ℕ) → asked ≤ size → size < asked + 8 → size % 8 ≡ 0 → size ≡ rounded asked
rounded_up asked size low high multiple = omega arith

-- ALLOCATE

-- the next bucket of a pool that fits
taken_of : (m : DynamicMemory) (asked s b : ℕ) → asked ≤ (pool_at (dynamic_of m).pools s).buckets.size → next (pool_at (dynamic_of m).pools s) ≡ Some b
    → Takes (dynamic_mem (dynamic_of m)) asked (packed (b * (pool_at (dynamic_of m).pools s).buckets.size) s) (dynamic_mem (taken_in (dynamic_of m) s))
taken_of m asked s b large e =
    let d = dynamic_of m in
    let gs = segments_of d.pools in
    let r = ready (vec_items m.live) s b e in
    let g = segments_at d.pools s in
    let short : s < 256 = omega (arith, r.there, m.live.ok.0, m.four) in
    let pos : 0 < (segment_at gs s).size = omega (arith, r.fair.1, ap (λ (z : Segment). z.size) g) in
    let lt : b < length (segment_at gs s).taken = omega (arith, r.within, ap (λ (z : Segment). length z.taken) g) in
    subst (λ z. Takes (dynamic_mem d) asked (packed (b * z) s) (dynamic_mem (taken_in d s))) (ap (λ (z : Segment). z.size) g)
    (takes_bucket (dynamic_mem d) (dynamic_mem (taken_in d s)) asked s b short pos lt
    (ap (λ (z : Segment). get_or z.taken b false) g ∙ r.free)
    (omega (arith, large, ap (λ (z : Segment). z.size) g))
    (mem_set d s (took (pool_at d.pools s))
    ∙ (ap (λ x. with_segments (dynamic_mem d) (slice_set gs s (by x (pool_at d.pools s) (took_next (pool_at d.pools s))).buckets)) e
    ∙ ap (λ (z : Segment). with_segments (dynamic_mem d) (slice_set gs s (remarked z b true))) (sym g))))

-- the first bucket of a new pool
new_next : (start size count : ℕ) → 1 ≤ count → next (new_pool start size count) ≡ Some 0
new_next start size count h =
    let n : 0 < length (replicate count false) = omega (arith, length-replicate count false) in
    cond-true _ _ _ (lt-ltb _ _ n)

grow_few : (d : Dynamic) (asked : ℕ) → can_grow d asked ≡ true → length d.pools < 4
grow_few d asked e = ltb-true (length d.pools) 4 (and_parts _ _ e).0

-- a memory with one pool more
grows_by : (d : Dynamic) (asked : ℕ) → can_grow d asked ≡ true → Grows (dynamic_mem d) asked (dynamic_mem (grown d asked))
grows_by d asked e = record {
  could = e;
  start = d.end;
  size = rounded asked;
  count = d.count;
  segments = map_push (λ (p : Pool). p.buckets) d.pools (new_pool d.end (rounded asked) d.count);
  largest = refl;
  capacity = refl;
}

-- the new pool's bucket 0 taken
taken_new : (m : DynamicMemory) (asked : ℕ) → 1 ≤ asked → asked ≤ 65536 → can_grow (dynamic_of m) asked ≡ true
    → Takes (dynamic_mem (grown (dynamic_of m) asked)) asked (packed (0 * rounded asked) (length (dynamic_of m).pools)) (dynamic_mem (taken_in (grown (dynamic_of m) asked) (length (dynamic_of m).pools)))
taken_new m asked some few e =
    let d = dynamic_of m in
    let g = grown d asked in
    let s = length d.pools in
    let gs = segments_of g.pools in
    let p = new_pool d.end (rounded asked) d.count in
    let at : pool_at g.pools s ≡ p = get_or_push d.pools p no_pool s refl in
    let seg : segment_at gs s ≡ blank d.end (rounded asked) d.count = segments_at g.pools s ∙ ap (λ (q : Pool). q.buckets) at in
    let size : (segment_at gs s).size ≡ rounded asked = ap (λ (z : Segment). z.size) seg in
    let short : s < 256 = omega (arith, grow_few d asked e) in
    let pos : 0 < (segment_at gs s).size = omega arith in
    let one : 1 ≤ d.count = m.sized.3 in
    let lt : 0 < length (segment_at gs s).taken = omega (arith, ap (λ (z : Segment). length z.taken) seg, length-replicate d.count false) in
    let n : next (pool_at g.pools s) ≡ Some 0 = ap next at ∙ new_next d.end (rounded asked) d.count one in
    subst (λ z. Takes (dynamic_mem g) asked (packed (0 * z) s) (dynamic_mem (taken_in g s))) size
    (takes_bucket (dynamic_mem g) (dynamic_mem (taken_in g s)) asked s 0 short pos lt
    (ap (λ (z : Segment). get_or z.taken 0 false) seg ∙ get_or-replicate d.count 0 false false one)
    (omega arith)
    (mem_set g s (took (pool_at g.pools s))
    ∙ (ap (λ x. with_segments (dynamic_mem g) (slice_set gs s (by x (pool_at g.pools s) (took_next (pool_at g.pools s))).buckets)) n
    ∙ ap (λ (z : Segment). with_segments (dynamic_mem g) (slice_set gs s (remarked z 0 true))) (sym (segments_at g.pools s)))))

-- a request that passed its check asks for something
asked_some : (largest asked align : ℕ) → request_fault largest asked align ≡ None → 1 ≤ asked
asked_some largest asked align e = grind (arith, nat_tests)

enough : (free more : Bool) → (free ≡ true) ⊎ (more ≡ true) → None ≡ cond (free || more) None (Some OutOfMemory)
enough true more h = refl
enough false true h = refl
enough false false h = absurd (⊎_elim (λ e. false≢true e) (λ e. false≢true e) h)

-- what is to be shown of an answer, by what the check found, the pool that serves and the memory that has it
abbrev Answered : Dynamic → ℕ → Option AllocationError → Option ℕ → Dynamic → Type 0
Answered d asked f s r =
    (result_err (checked f (by s (Err OutOfMemory) (λ k. handed_by r.pools k))) ≡ else_fault f (cond (some_free (segments_of d.pools) asked || can_grow d asked) None (Some OutOfMemory)))
    × Allocates (dynamic_mem d) asked (checked f (by s (Err OutOfMemory) (λ k. handed_by r.pools k))) (dynamic_mem (cond (is_some f) d (by s d (λ k. taken_in r k))))

-- a pool that was there serves
answered_old : (m : DynamicMemory) (asked s : ℕ) → fitting asked (dynamic_of m).pools 0 ≡ Some s → Answered (dynamic_of m) asked None (Some s) (dynamic_of m)
answered_old m asked s e = go (next (pool_at ps s)) refl fit.1
  where
    ps : List Pool
    ps = (dynamic_of m).pools

    z : ℕ
    z = (pool_at ps s).buckets.size

    fit : (nat_le asked z ≡ true) × (is_some (next (pool_at ps s)) ≡ true)
    fit = let same : s - 0 ≡ s = omega arith in
        and_parts _ _ (ap (λ k. fits asked (pool_at ps k)) (sym same) ∙ (found asked ps 0 s e).1)

    go : (y : Option ℕ) → next (pool_at ps s) ≡ y → is_some y ≡ true → Answered (dynamic_of m) asked None (Some s) (dynamic_of m)
    go None n i = absurd (false≢true i)
    go (Some b) n i =
        let free : some_free (segments_of ps) asked ≡ true = free_fits (vec_items m.live) asked 0 ∙ ap is_some e in
        subst (λ y. (result_err (handed z s y) ≡ cond (some_free (segments_of ps) asked || can_grow (dynamic_of m) asked) None (Some OutOfMemory))
        × Allocates (dynamic_mem (dynamic_of m)) asked (handed z s y) (dynamic_mem (taken_in (dynamic_of m) s))) (sym n)
        (enough (some_free (segments_of ps) asked) (can_grow (dynamic_of m) asked) (inl free), inl (taken_of m asked s b (leb-true _ _ fit.0) n))

-- a new pool serves
answered_new : (m : DynamicMemory) (asked : ℕ) → 1 ≤ asked → asked ≤ 65536 → can_grow (dynamic_of m) asked ≡ true
    → Answered (dynamic_of m) asked None (Some (length (dynamic_of m).pools)) (grown (dynamic_of m) asked)
answered_new m asked some few g =
    let d = dynamic_of m in
    let s = length d.pools in
    let p = new_pool d.end (rounded asked) d.count in
    let at : pool_at (grown d asked).pools s ≡ p = get_or_push d.pools p no_pool s refl in
    let n : handed_by (grown d asked).pools s ≡ handed (rounded asked) s (Some 0) =
    ap (λ (q : Pool). handed q.buckets.size s (next q)) at ∙ ap (handed (rounded asked) s) (new_next d.end (rounded asked) d.count m.sized.3) in
    let count : segment (packed (0 * rounded asked) s) ≡ length (segments_of d.pools) =
    mod-mul-add (0 * rounded asked) 256 s (omega (arith, grow_few d asked g)) ∙ sym (segments_length d.pools) in
    subst (λ x. (result_err x ≡ cond (some_free (segments_of d.pools) asked || can_grow d asked) None (Some OutOfMemory))
    × Allocates (dynamic_mem d) asked x (dynamic_mem (taken_in (grown d asked) s))) (sym n) (
      enough (some_free (segments_of d.pools) asked) (can_grow d asked) (inr g),
      inr (dynamic_mem (grown d asked), grows_by d asked g, count, taken_new m asked some few g),
    )

pub dynamic_allocates : (m : DynamicMemory) (asked align : ℕ)
    → (result_err (dynamic_answer (dynamic_of m) asked align) ≡ allocation_fault (dynamic_mem (dynamic_of m)) asked align)
    × Allocates (dynamic_mem (dynamic_of m)) asked (dynamic_answer (dynamic_of m) asked align) (dynamic_mem (dynamic_after (dynamic_of m) asked align))
dynamic_allocates m asked align = go (request_fault 65536 asked align) refl
  where
    d : Dynamic
    d = dynamic_of m

    serves : request_fault 65536 asked align ≡ None → (x : Option ℕ) (g : Bool) → fitting asked d.pools 0 ≡ x → can_grow d asked ≡ g
        → Answered d asked None (by x (cond g (Some (length d.pools)) None) (λ s. Some s)) (by x (cond g (grown d asked) d) (λ s. d))
    serves ef (Some s) g ex eg = answered_old m asked s ex
    serves ef None true ex eg = answered_new m asked (asked_some 65536 asked align ef) (granted 65536 asked align ef) eg
    serves ef None false ex eg =
        let full : some_free (segments_of d.pools) asked ≡ false = free_fits (vec_items m.live) asked 0 ∙ ap is_some ex in
        (sym (cond-false _ _ _ (or_from _ _ full eg)), refl)

    go : (f : Option AllocationError) → request_fault 65536 asked align ≡ f → Answered d asked f (serving d asked) (readied d asked)
    go (Some e) ef = (refl, refl)
    go None ef = serves ef (fitting asked d.pools 0) (can_grow d asked) refl refl
