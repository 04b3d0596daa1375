-- What a pool hands out next: a free bucket, or nothing where all are taken.
use Rattle.std.specs.Prelude.{◌≡◌, ℕ, zero, suc, ◌-◌, ◌<◌, ◌≤◌, Bool, true, false, cond, List, [], ◌∷◌, length, get_or, is_some, Some, None, vec_items, Option, Result, nat_lt, slice_index_or, refl}
use Rattle.std.proofs.Common.{sym, ◌∙◌, ap, ⊎_elim, arith}
use Rattle.std.proofs.lemmas.List.Sums.{count_by-le-length}
use Rattle.std.proofs.lemmas.Bool.{cases_lt, cond-true, cond-false, lt-ltb, le-ltb, or_right, true≢false}
use Rattle.std.proofs.lemmas.Bool.Decides.{nat_tests}
use Rattle.std.specs.Result.{result_err}
use Rattle.elementary.specs.declared.pointer_offset.PointerOffset.{PointerOffset}
use Rattle.elementary.specs.declared.error.AllocationError.{AllocationError}
use Rattle.rules.specs.Memory.{Mem, Allocates, some_false, request_fault}
use Rattle.rules.specs.Laws.{trues}
use Rattle.rules.specs.Pools.{next}
use Rattle.rules.proofs.Totals.{trues_cons}
use Rattle.pool.specs.Model.{pool_of}
use Rattle.pool.specs.declared.pool_allocator.PoolAllocator.{PoolAllocator}

-- whether some bucket is free, by one that is
pub free_found : (ts : List Bool) (b : ℕ) → b < length ts → slice_index_or ts b false ≡ false → some_false ts ≡ true
free_found [] b h e = absurd (omega arith)
free_found (false ∷ ts) zero h e = refl
free_found (true ∷ ts) zero h e = absurd (true≢false e)
free_found (t ∷ ts) (suc b) h e = or_right _ _ (free_found ts b (omega arith) e)

-- and none is where as many are taken as there are
pub none_free : (ts : List Bool) → length ts ≤ trues ts → some_false ts ≡ false
none_free [] h = refl
none_free (true ∷ ts) h = none_free ts (omega (arith, trues_cons true ts))
none_free (false ∷ ts) h = absurd (omega (arith, trues_cons false ts, count_by-le-length (λ t. t) ts))

-- the bucket that is next is free
pub next_some : (q : PoolAllocator) (b : ℕ) → next (pool_of q) ≡ Some b
    → (b < length (vec_items q.taken)) × (slice_index_or (vec_items q.taken) b false ≡ false)
next_some q b e =
    let few = q.counted.0 in
    ⊎_elim
    (λ some. let last : ℕ = get_or (vec_items q.freed) (length (vec_items q.freed) - 1) 0 in
    let l : length (vec_items q.freed) - 1 < length (vec_items q.freed) = omega arith in
    let s : ◌≡◌ {A = Option ℕ} (Some last) (Some b) = sym (cond-true _ _ _ (lt-ltb _ _ some)) ∙ e in
    let eb : last ≡ b = cc in
    (omega (arith, eb, q.listed.0 _ l), sym (ap (λ k. get_or (vec_items q.taken) k false) eb) ∙ q.listed.1 _ l))
    (λ none. let f : cond (nat_lt q.fresh (length (vec_items q.taken))) (Some q.fresh) None ≡ Some b = sym (cond-false _ _ _ (le-ltb _ _ none)) ∙ e in
    let g : (q.fresh < length (vec_items q.taken)) × (q.fresh ≡ b) = grind (arith, nat_tests) in
    (omega (arith, g.0, g.1), q.listed.2 b (omega (arith, g.1))))
    (cases_lt 0 (length (vec_items q.freed)))

-- where none is next, all are taken
pub next_none : (q : PoolAllocator) → next (pool_of q) ≡ None → some_false (vec_items q.taken) ≡ false
next_none q e =
    let g : (length (vec_items q.freed) ≤ 0) × (length (vec_items q.taken) ≤ q.fresh) = grind (arith, nat_tests) in
    none_free (vec_items q.taken) (omega (arith, q.counted.1, g.0, g.1))

-- so a pool hands one out exactly while it has a free one
pub next_free : (q : PoolAllocator) → is_some (next (pool_of q)) ≡ some_false (vec_items q.taken)
next_free q = go (next (pool_of q)) refl
  where
    go : (x : Option ℕ) → next (pool_of q) ≡ x → is_some x ≡ some_false (vec_items q.taken)
    go (Some b) e = let s = next_some q b e in sym (free_found _ b s.0 s.1)
    go None e = sym (next_none q e)

-- a request that passed its check asks for no more than the largest
pub granted : (largest asked align : ℕ) → request_fault largest asked align ≡ None → asked ≤ largest
granted largest asked align e = grind (arith, nat_tests)

-- what holds of the answer and the memory after by their definitions holds of the code's own
pub told : {D : Type 0} (mem : D → Mem) (m : Mem) (asked : ℕ) (fault : Option AllocationError) {a b : Result PointerOffset AllocationError} {p q : D} → a ≡ b → p ≡ q
    → (result_err b ≡ fault) × Allocates m asked b (mem q) → (result_err a ≡ fault) × Allocates m asked a (mem p)
told mem m asked fault e f r = rw (e, f) r
