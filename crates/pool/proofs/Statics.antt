-- A static memory's calls, in the words that hold of every memory.
use Rattle.std.proofs.Common.{◌≡◌, ℕ, ◌+◌, ◌*◌, ◌≤◌, Bool, true, false, cond, ◌&&◌, ◌||◌, leb, [], ◌∷◌, is_some, Some, None, Option, refl, ap, ◌∙◌, inl, arith}
use Rattle.std.proofs.lemmas.List.{length-set}
use Rattle.std.proofs.lemmas.Bool.{le-leb}
use Rattle.std.proofs.lemmas.Bool.Decides.{nat_tests}
use Rattle.std.specs.Result.{result_err}
use Rattle.elementary.specs.declared.error.AllocationError.{AllocationError}
use Rattle.elementary.specs.declared.error.AllocationError.TheVariants.{OutOfMemory}
use Rattle.rules.specs.Memory.{Mem, Segment, some_false, some_free, request_fault, else_fault, allocation_fault, Allocates, Takes, remarked, end_of}
use Rattle.rules.specs.Pools.{Pool, by, next, took, took_next, checked, handed, static_mem, static_answer, static_after}
use Rattle.rules.proofs.Chunks.{takes_bucket}
use Rattle.pool.specs.Static.{static_of}
use Rattle.pool.specs.declared.static_memory.StaticMemory.{StaticMemory}
use Rattle.pool.proofs.Nexts.{next_some, next_none, free_found, granted}

-- whether a request is refused for want of memory, by whether a bucket is free
enough : (large free : Bool) → large ≡ true → free ≡ true → None ≡ cond (((large && free) || false) || false) None (Some OutOfMemory)
enough true true l f = refl
enough true false l f = grind (arith, nat_tests)
enough false free l f = grind (arith, nat_tests)

short : (large free : Bool) → free ≡ false → Some OutOfMemory ≡ cond (((large && free) || false) || false) None (Some OutOfMemory)
short true false f = refl
short false free f = refl
short true true f = grind (arith, nat_tests)

-- the bucket b of the one segment taken
static_takes : (m : StaticMemory) (asked b : ℕ) (q : Pool) → asked ≤ (static_of m).buckets.size → next (static_of m) ≡ Some b
    → q.buckets ≡ remarked (static_of m).buckets b true
    → Takes (static_mem (static_of m)) asked ((b * (static_of m).buckets.size) * 256 + 0) (static_mem q)
static_takes m asked b q large e after =
    let p = static_of m in
    let s = next_some m.pool b e in
    let ends : end_of (remarked p.buckets b true) ≡ end_of p.buckets = ap (λ n. p.buckets.start + p.buckets.size * n) (length-set p.buckets.taken b true) in
    takes_bucket (static_mem p) (static_mem q) asked 0 b (omega arith) (omega (arith, m.pool.fair.1)) s.0 s.1 large
    (ap static_mem_by after ∙ ap (λ n. record { segments = remarked p.buckets b true ∷ []; largest = p.buckets.size; capacity = n; grows = λ _. false }) ends)
  where
    static_mem_by : Segment → Mem
    static_mem_by g = record { segments = g ∷ []; largest = g.size; capacity = end_of g; grows = λ _. false }

pub static_allocates : (m : StaticMemory) (asked align : ℕ)
    → (result_err (static_answer (static_of m) asked align) ≡ allocation_fault (static_mem (static_of m)) asked align)
    × Allocates (static_mem (static_of m)) asked (static_answer (static_of m) asked align) (static_mem (static_after (static_of m) asked align))
static_allocates m asked align = go (request_fault p.buckets.size asked align) (next p) refl refl
  where
    p : Pool
    p = static_of m

    go : (f : Option AllocationError) (x : Option ℕ) → request_fault p.buckets.size asked align ≡ f → next p ≡ x
        → (result_err (checked f (handed p.buckets.size 0 x)) ≡ else_fault f (cond (some_free (p.buckets ∷ []) asked || false) None (Some OutOfMemory)))
        × Allocates (static_mem p) asked (checked f (handed p.buckets.size 0 x)) (static_mem (cond (is_some f) p (took p)))
    go (Some e) x ef ex = (refl, refl)
    go None None ef ex = (
      short (leb asked p.buckets.size) (some_false p.buckets.taken) (next_none m.pool ex),
      ap (λ x. static_mem (by x p (took_next p))) ex,
    )
    go None (Some b) ef ex =
        let large = granted p.buckets.size asked align ef in
        let s = next_some m.pool b ex in (
          enough _ _ (le-leb _ _ large) (free_found _ b s.0 s.1),
          inl (static_takes m asked b (took p) large ex (ap (λ x. (by x p (took_next p)).buckets) ex)),
        )
