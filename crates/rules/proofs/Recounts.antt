-- What a change of one count does to all.
use Rattle.std.proofs.Common.{rules, arith, ◌≡◌, ℕ, ◌<◌, Bool, true, List, [], length, get_or, set, ap}
use Rattle.std.proofs.lemmas.List.{get_or-set_same, get_or-set_other, set_past}
use Rattle.elementary.specs.Ids.{segment}
use Rattle.rules.specs.Memory.{Segment, bucket, is_chunk, marked}
use Rattle.rules.specs.Counts.{Counts, counts_of, count_at, recounted}
use Rattle.rules.proofs.Lists.{within}
use Rattle.rules.proofs.Marks.{mark_chunk, mark_bucket}

-- a row that has a place for b is there
row_there : (cs : Counts) (s b : ℕ) → b < length (counts_of cs s) → s < length cs
row_there cs s b lt = within cs s [] (λ none. omega (arith, ap length none))

pub row_same : (cs : Counts) (s b n : ℕ) → b < length (counts_of cs s) → counts_of (set cs s (set (counts_of cs s) b n)) s ≡ set (counts_of cs s) b n
row_same cs s b n lt = get_or-set_same cs s _ [] (row_there cs s b lt)

pub row_other : (cs : Counts) (s k : ℕ) (ns : List ℕ) → (k ≡ s → ⊥) → counts_of (set cs s ns) k ≡ counts_of cs k
row_other cs s k ns ne = get_or-set_other cs s k ns [] ne

-- the chunk itself
pub recount_same : (gs : List Segment) (cs : Counts) (o n : ℕ) → is_chunk gs o ≡ true → bucket gs o < length (counts_of cs (segment o)) → count_at gs (recounted gs cs o n) o ≡ n
recount_same gs cs o n c lt = grind (arith, row_same, get_or-set_same)

-- and every other
other_count : (gs : List Segment) (cs : Counts) (o x n : ℕ) → is_chunk gs o ≡ true → is_chunk gs x ≡ true → (o ≡ x → ⊥)
    → get_or (counts_of (set cs (segment o) (set (counts_of cs (segment o)) (bucket gs o) n)) (segment x)) (bucket gs x) 0 ≡ get_or (counts_of cs (segment x)) (bucket gs x) 0
other_count gs cs o x n co cx ne = grind (arith, get_or-set_same, get_or-set_other, set_past)

pub recount_other : (gs : List Segment) (cs : Counts) (o x n : ℕ) → (o ≡ x → ⊥) → count_at gs (recounted gs cs o n) x ≡ count_at gs cs x
recount_other gs cs o x n ne = search (rules, other_count)

-- marks change no count
pub count_marked : (gs : List Segment) (cs : Counts) (o : ℕ) (t : Bool) (x : ℕ) → count_at (marked gs o t) cs x ≡ count_at gs cs x
count_marked gs cs o t x = grind (arith, mark_chunk, mark_bucket)
