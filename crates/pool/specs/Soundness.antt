-- Every memory of the code keeps the law of its interface: the proofs that its impl names.
use Rattle.std.specs.Prelude.{◌≡◌, ℕ, zero, suc, ◌<◌, List, [], ◌∷◌, length, vec_items, vec_len, Vec, refl}
use Rattle.std.proofs.Common.{sym, ◌∙◌, subst, inl, arith, rules}
use Rattle.std.specs.declared.alloc.Global.{Global}
use Rattle.std.proofs.lemmas.List.{length-map}
use Rattle.rules.specs.Memory.{Segment, Sound, Fair, segment_at}
use Rattle.rules.specs.Pools.{Pool, pool_at, segments_of, static_mem, dynamic_mem}
use Rattle.pool.specs.Model.{pool_of, pools_in}
use Rattle.pool.specs.Static.{static_of}
use Rattle.pool.specs.Dynamic.{dynamic_of}
use Rattle.pool.specs.declared.pool_allocator.PoolAllocator.{PoolAllocator}
use Rattle.pool.specs.declared.static_memory.StaticMemory.{StaticMemory}
use Rattle.pool.specs.declared.dynamic_memory.DynamicMemory.{DynamicMemory}

pub static_sound : (m : StaticMemory) → Sound 1 (static_mem (static_of m))
static_sound m = search rules

pub pools_length : (v : Vec PoolAllocator Global) → length (pools_in (vec_items v)) ≡ vec_len v
pools_length v = length-map (vec_items v) pool_of ∙ sym v.ok.0

-- a list of pools, and its segments
pub segments_at : (ps : List Pool) (s : ℕ) → segment_at (segments_of ps) s ≡ (pool_at ps s).buckets
segments_at [] s = refl
segments_at (p ∷ ps) zero = refl
segments_at (p ∷ ps) (suc s) = segments_at ps s

pub segments_length : (ps : List Pool) → length (segments_of ps) ≡ length ps
segments_length ps = length-map ps (λ p. p.buckets)

pub fair_at : (qs : List PoolAllocator) (s : ℕ) → s < length qs → Fair (pool_at (pools_in qs) s).buckets.size (length (pool_at (pools_in qs) s).buckets.taken)
fair_at [] s lt = absurd (omega arith)
fair_at (q ∷ qs) zero lt = subst (Fair q.bucket_size) q.taken.ok.0 q.fair
fair_at (q ∷ qs) (suc s) lt = fair_at qs s (omega arith)

pub dynamic_sound : (m : DynamicMemory) → Sound 4 (dynamic_mem (dynamic_of m))
dynamic_sound m =
    let ps = pools_in (vec_items m.live) in
    let n = segments_length ps ∙ pools_length m.live in
    let l : length (vec_items m.live) ≡ vec_len m.live = sym m.live.ok.0 in
    record {
      limits = omega arith;
      some = omega (arith, m.sized.0);
      few = omega (arith, m.four);
      shaped = λ s lt.
          let f : Fair (segment_at (segments_of ps) s).size (length (segment_at (segments_of ps) s).taken) =
          subst (λ (g : Segment). Fair g.size (length g.taken)) (sym (segments_at ps s)) (fair_at (vec_items m.live) s (omega arith)) in
          record { fair = f; largest = f.2; within = omega (arith, m.laid s lt, m.sized.1); low = omega (arith, m.laid s lt, m.sized.2, m.four) };
      apart = λ s t lt lk. inl (m.rising s t lt lk);
    }
