-- What a change of one segment, or one segment more, leaves of a dynamic memory's layout.
use Rattle.std.specs.Prelude.{◌≡◌, ℕ, ◌+◌, ◌*◌, ◌<◌, ◌≤◌, List, [], ◌∷◌, ◌++◌, length, set, Some, None, vec_items, vec_len, Option, Vec, slice_index, slice_index_or, slice_set, refl}
use Rattle.std.proofs.Common.{sym, ◌∙◌, ap, subst, ⊎_elim, arith, rules}
use Rattle.std.specs.declared.alloc.Global.{Global}
use Rattle.std.proofs.lemmas.List.{get_or-set_same, get_or-set_other, set_past, length-set, get_or-map, get_or_past, map-set, length_push, places, get_or_append_left, get_or_push}
use Rattle.std.proofs.lemmas.Bool.{cases_lt, cases_eq}
use Rattle.rules.specs.Memory.{Segment, segment_at, no_segment, end_of}
use Rattle.rules.specs.Pools.{Pool, by, next, took, took_next, gave, pool_at, no_pool, segments_of}
use Rattle.pool.specs.Model.{pool_of, pools_in}
use Rattle.pool.specs.Layout.{Laid, Rising, Even, Spares}
use Rattle.pool.specs.declared.pool_allocator.PoolAllocator.{PoolAllocator}
use Rattle.pool.specs.declared.dynamic_memory.DynamicMemory.{DynamicMemory}
use Rattle.pool.specs.Soundness.{pools_length, segments_at}

-- THE CODE'S LIST OF POOLS, READ AT ONE

pub pool_there : (v : Vec PoolAllocator Global) (s : ℕ) (x : PoolAllocator) → s < vec_len v → x ≡ slice_index_or (vec_items v) s x → pool_at (pools_in (vec_items v)) s ≡ pool_of x
pool_there v s x lt e =
    let h : s < length (vec_items v) = omega (arith, v.ok.0) in
    get_or-map pool_of (vec_items v) s x no_pool h ∙ ap pool_of (sym e)

pub pool_past : (v : Vec PoolAllocator Global) (s : ℕ) → vec_len v ≤ s → pool_at (pools_in (vec_items v)) s ≡ no_pool
pool_past v s le = grind (arith, pools_length, get_or_past)

-- LAYOUT

pub record Layout (gs : List Segment) (end count : ℕ) : Type 0 where
  pub laid : Laid gs end
  pub rising : Rising gs
  pub even : Even gs count

-- segments that differ in their marks alone
pub record Alike (g h : Segment) : Type 0 where
  pub start : h.start ≡ g.start
  pub size : h.size ≡ g.size
  pub count : length h.taken ≡ length g.taken

alike_end : (g h : Segment) → Alike g h → end_of h ≡ end_of g
alike_end g h a = ap (λ s. s + h.size * length h.taken) a.start ∙ (ap (λ z. g.start + z * length h.taken) a.size ∙ ap (λ n. g.start + g.size * n) a.count)

alike_at : (gs : List Segment) (s : ℕ) (h : Segment) → Alike (segment_at gs s) h → (k : ℕ) → Alike (segment_at gs k) (segment_at (slice_set gs s h) k)
alike_at gs s h a k =
    ⊎_elim
    (λ same. ⊎_elim
    (λ lt. rw same (rw (get_or-set_same gs s h no_segment lt) a))
    (λ past. rw (set_past gs s h past) (record { start = refl; size = refl; count = refl }))
    (cases_lt s (length gs)))
    (λ other. rw (get_or-set_other gs s k h no_segment other) (record { start = refl; size = refl; count = refl }))
    (cases_eq k s)

pub layout_set : (gs : List Segment) (s : ℕ) (h : Segment) (end count : ℕ) → Alike (segment_at gs s) h → Layout gs end count → Layout (slice_set gs s h) end count
layout_set gs s h end count a l =
    let n = length-set gs s h in
    let e : (k : ℕ) → end_of (segment_at (slice_set gs s h) k) ≡ end_of (segment_at gs k) = λ k. alike_end _ _ (alike_at gs s h a k) in
    record {
      laid = λ k lt. omega (arith, e k, l.laid k (omega arith));
      rising = λ j k lt lk. omega (arith, e j, (alike_at gs s h a k).start, l.rising j k lt (omega arith));
      even = λ k lt. (alike_at gs s h a k).count ∙ l.even k (omega arith);
    }

-- taking and giving back change marks alone
pub alike_took : (p : Pool) → Alike p.buckets (took p).buckets
alike_took p = go (next p)
  where
    go : (x : Option ℕ) → Alike p.buckets (by x p (took_next p)).buckets
    go None = record { start = refl; size = refl; count = refl }
    go (Some b) = record { start = refl; size = refl; count = length-set p.buckets.taken b _ }

pub alike_gave : (p : Pool) (b : ℕ) → Alike p.buckets (gave p b).buckets
alike_gave p b = record { start = refl; size = refl; count = length-set p.buckets.taken b _ }

-- one pool of the code's list changed
pub pools_set : (v : Vec PoolAllocator Global) (s : ℕ) (x w : PoolAllocator) (f : Pool → Pool) → s < vec_len v → x ≡ slice_index_or (vec_items v) s x → pool_of w ≡ f (pool_of x)
    → pools_in (slice_set (vec_items v) s w) ≡ slice_set (pools_in (vec_items v)) s (f (pool_at (pools_in (vec_items v)) s))
pools_set v s x w f lt e c =
    map-set pool_of (vec_items v) s w ∙ ap (set (pools_in (vec_items v)) s) (c ∙ ap f (sym (pool_there v s x lt e)))

pub pools_same : (v : Vec PoolAllocator Global) (s : ℕ) (p : Pool) → vec_len v ≤ s → pools_in (vec_items v) ≡ slice_set (pools_in (vec_items v)) s p
pools_same v s p le = grind (arith, pools_length, set_past)

pub layout_pools : (ps : List Pool) (s : ℕ) (p : Pool) (end count : ℕ) → Alike (pool_at ps s).buckets p.buckets → Layout (segments_of ps) end count
    → Layout (segments_of (slice_set ps s p)) end count
layout_pools ps s p end count a l =
    rw (map-set (λ q. q.buckets) ps s p) (layout_set (segments_of ps) s p.buckets end count (rw (segments_at ps s) a) l)

-- the layout of a memory of which one pool was changed in its marks alone
pub layout_changed : (m : DynamicMemory) (s : ℕ) (x w : PoolAllocator) (f : Pool → Pool) → s < vec_len m.live → x ≡ slice_index_or (vec_items m.live) s x → pool_of w ≡ f (pool_of x)
    → ((p : Pool) → Alike p.buckets (f p).buckets) → Layout (segments_of (pools_in (slice_set (vec_items m.live) s w))) m.end m.count
layout_changed m s x w f lt e c alike =
    let ps = pools_in (vec_items m.live) in
    subst (λ qs. Layout (segments_of qs) m.end m.count) (sym (pools_set m.live s x w f lt e c))
    (layout_pools ps s _ m.end m.count (alike (pool_at ps s)) (record { laid = m.laid; rising = m.rising; even = m.even }))

-- ONE SEGMENT MORE

push_old : (gs : List Segment) (g : Segment) (k : ℕ) → k < length gs → segment_at (gs ++ g ∷ []) k ≡ segment_at gs k
push_old gs g k h = get_or_append_left gs (g ∷ []) no_segment k h

pub push_new : (gs : List Segment) (g : Segment) (k : ℕ) → length gs ≡ k → segment_at (gs ++ g ∷ []) k ≡ g
push_new gs g k h = get_or_push gs g no_segment k h

pub layout_push : (gs : List Segment) (g : Segment) (end count : ℕ) → g.start ≡ end → length g.taken ≡ count → Layout gs end count
    → Layout (gs ++ g ∷ []) (end + g.size * count) count
layout_push gs g end count st ct l =
    let n = length_push gs g in
    let sp : end_of g ≡ end + g.size * count = ap (λ z. g.start + g.size * z) ct ∙ ap (λ z. z + g.size * count) st in
    record {
      laid = λ k h. ⊎_elim
          (λ old. omega (arith, ap end_of (push_old gs g k old), l.laid k old))
          (λ new. let at : length gs ≡ k = omega arith in omega (arith, ap end_of (push_new gs g k at), sp))
          (cases_lt k (length gs));
      rising = λ j k h lk. let jo : j < length gs = omega arith in ⊎_elim
          (λ old. omega (arith, ap end_of (push_old gs g j jo), ap (λ (z : Segment). z.start) (push_old gs g k old), l.rising j k h old))
          (λ new. let at : length gs ≡ k = omega arith in omega (arith, ap end_of (push_old gs g j jo), ap (λ (z : Segment). z.start) (push_new gs g k at), l.laid j jo, st))
          (cases_lt k (length gs));
      even = λ k h. ⊎_elim
          (λ old. ap (λ (z : Segment). length z.taken) (push_old gs g k old) ∙ l.even k old)
          (λ new. let at : length gs ≡ k = omega arith in ap (λ (z : Segment). length z.taken) (push_new gs g k at) ∙ ct)
          (cases_lt k (length gs));
    }

-- a layout of one segment
pub layout_one : (g : Segment) (count : ℕ) → g.start ≡ 0 → length g.taken ≡ count → Layout (g ∷ []) (g.size * count) count
layout_one g count st ct = grind (arith, layout_push [] g 0 count st ct)

-- SEGMENTS TO BE

pub spares_push : (ns ms : List ℕ) (n count : ℕ) → ms ≡ ns ++ n ∷ [] → n ≡ count → Spares ns count → Spares ms count
spares_push ns ms n count e c s = search (rules, places, length_push)

pub spares_pop : (ns rest : List ℕ) (n count : ℕ) → ns ≡ rest ++ n ∷ [] → Spares ns count → Spares rest count × (n ≡ count)
spares_pop ns rest n count e s =
    let l : length ns ≡ length rest + 1 = ap length e ∙ length_push rest n in (
      λ i h. sym (get_or_append_left rest (n ∷ []) 0 i h) ∙ (sym (ap (λ z. slice_index z i) e) ∙ s i (omega arith)),
      sym (get_or_push rest n 0 (length rest) refl) ∙ (sym (ap (λ z. slice_index z (length rest)) e) ∙ s (length rest) (omega arith)),
    )
