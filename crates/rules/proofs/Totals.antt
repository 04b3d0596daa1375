-- Counting buckets.
use Rattle.std.proofs.Common.{rules, arith, true, false, Bool, cond, ◌≡◌, ℕ, suc, ◌+◌, ◌<◌, ◌≤◌, ◌&&◌, ◌||◌, eqb, ltb, leb, List, [], ◌∷◌, length, get_or, set, Some, None, sum, sym, refl, ap, ◌∙◌, ⊎_elim}
use Rattle.std.proofs.lemmas.List.Sums.{sum_by-cons, sum_by-set}
use Rattle.std.proofs.lemmas.Bool.{ltb-true, cases_Bool, true≢false, false≢true}
use Rattle.elementary.specs.declared.error.AllocationError.TheVariants.{SizeTooLarge, AlignmentFailure, OutOfMemory}
use Rattle.rules.specs.Memory.{Segment, segment_at, no_segment, is_chunk, taken_at, offset_of, marked, some_false, some_free, aligned, else_fault}
use Rattle.rules.specs.Laws.{trues, as_large, as_large_taken, TakenAtMostCounted, OneIsFree, occurrences, TakenAtMostHeld}
use Rattle.rules.proofs.Lists.{within}
use Rattle.rules.proofs.Chunks.{chunk_there, named}
use Rattle.rules.proofs.Marks.{mark_same, mark_other}

pub trues_cons : (t : Bool) (ts : List Bool) → trues (t ∷ ts) ≡ cond t 1 0 + trues ts
trues_cons t ts = sum_by-cons (λ b. cond b 1 0) t ts

-- TAKEN AT MOST COUNTED

row_counted : (ts : List Bool) (ns : List ℕ) → ((b : ℕ) → get_or ts b false ≡ ltb 0 (get_or ns b 0)) → trues ts ≤ sum ns
row_counted [] ns h = omega arith
row_counted (true ∷ ts) [] h = absurd (true≢false (h 0))
row_counted (false ∷ ts) [] h = omega (arith, trues_cons false ts, row_counted ts [] (λ b. h (suc b)))
row_counted (true ∷ ts) (n ∷ ns) h =
    omega (arith, trues_cons true ts, row_counted ts ns (λ b. h (suc b)), sum_by-cons (λ x. x) n ns, ltb-true 0 n (sym (h 0)))
row_counted (false ∷ ts) (n ∷ ns) h =
    omega (arith, trues_cons false ts, row_counted ts ns (λ b. h (suc b)), sum_by-cons (λ x. x) n ns)

-- as many as are large, of those that are taken
chosen : (b : Bool) (n : ℕ) → cond b n 0 ≤ n
chosen b n = search rules

pub taken_at_most_counted : TakenAtMostCounted
taken_at_most_counted [] cs asked h = omega arith
taken_at_most_counted (g ∷ gs) [] asked h =
    omega (
      arith,
      sum_by-cons (λ (z : Segment). cond (leb asked z.size) (trues z.taken) 0) g gs,
      chosen (leb asked g.size) (trues g.taken),
      row_counted g.taken [] (h 0),
      taken_at_most_counted gs [] asked (λ s b. h (suc s) b),
    )
taken_at_most_counted (g ∷ gs) (ns ∷ cs) asked h =
    omega (
      arith,
      sum_by-cons (λ (z : Segment). cond (leb asked z.size) (trues z.taken) 0) g gs,
      chosen (leb asked g.size) (trues g.taken),
      row_counted g.taken ns (h 0),
      taken_at_most_counted gs cs asked (λ s b. h (suc s) b),
      sum_by-cons sum ns cs,
    )

-- ONE IS FREE

free_in : (ts : List Bool) → trues ts < length ts → some_false ts ≡ true
free_in [] h = absurd (omega arith)
free_in (false ∷ ts) h = refl
free_in (true ∷ ts) h = free_in ts (omega (arith, trues_cons true ts))

-- of one segment and the rest, one has fewer taken than there are
free_of : (large : Bool) (ts : List Bool) (taken all : ℕ) (rest : Bool) → cond large (trues ts) 0 + taken < cond large (length ts) 0 + all
    → (taken < all → rest ≡ true) → ((large && some_false ts) || rest) ≡ true
free_of large ts taken all rest h k = search (rules, free_in)

pub free_among : (gs : List Segment) (asked : ℕ) → as_large_taken gs asked < as_large gs asked → some_free gs asked ≡ true
free_among [] asked h = absurd (omega arith)
free_among (g ∷ gs) asked h =
    free_of (leb asked g.size) g.taken (as_large_taken gs asked) (as_large gs asked) (some_free gs asked)
    (omega (arith, sum_by-cons (λ (z : Segment). cond (leb asked z.size) (trues z.taken) 0) g gs, sum_by-cons (λ (z : Segment). cond (leb asked z.size) (length z.taken) 0) g gs))
    (free_among gs asked)

not_short : (size align free more : Bool) → free ≡ true
    → else_fault (cond size (Some SizeTooLarge) (cond align None (Some AlignmentFailure))) (cond (free || more) None (Some OutOfMemory)) ≡ Some OutOfMemory → ⊥
not_short size align free more h k = search rules

pub one_is_free : OneIsFree
one_is_free m asked h =
    let f = free_among m.segments asked h in
    (f, λ align. not_short (eqb asked 0 || ltb m.largest asked) (aligned align) (some_free m.segments asked) (m.grows asked) f)

-- TAKEN AT MOST HELD

-- every bucket can be named
abbrev Nameable : List Segment → Type 0
Nameable gs = (length gs ≤ 256) × ((s : ℕ) → s < length gs → 0 < (segment_at gs s).size)

nameable_mark : (gs : List Segment) (o : ℕ) (t : Bool) → Nameable gs → Nameable (marked gs o t)
nameable_mark gs o t h = search rules

-- a bucket that is marked is there
pub marked_within : (ts : List Bool) (b : ℕ) → get_or ts b false ≡ true → b < length ts
marked_within ts b e = within ts b false (λ none. false≢true (sym none ∙ e))

pub marked_there : (gs : List Segment) (s b : ℕ) → get_or (segment_at gs s).taken b false ≡ true → s < length gs
marked_there gs s b e = within gs s no_segment (λ none. false≢true (sym (ap (λ (g : Segment). get_or g.taken b false) none) ∙ e))

-- and its offset says so
taken_named : (gs : List Segment) (s b : ℕ) → Nameable gs → get_or (segment_at gs s).taken b false ≡ true → taken_at gs (offset_of gs s b) ≡ true
taken_named gs s b h k = grind (arith, marked_there, named, marked_within)

-- to free a bucket takes at most one from the number of taken ones
fewer_marks : (ts : List Bool) (b : ℕ) → b < length ts → trues ts ≤ trues (set ts b false) + 1
fewer_marks ts b lt = omega (arith, sum_by-set (λ t. cond t 1 0) ts b false false lt, chosen (get_or ts b false) 1)

fewer_large : (large : Bool) (m n : ℕ) → m ≤ n + 1 → cond large m 0 ≤ cond large n 0 + 1
fewer_large large m n h = search rules

fewer : (gs : List Segment) (o asked : ℕ) → is_chunk gs o ≡ true → as_large_taken gs asked ≤ as_large_taken (marked gs o false) asked + 1
fewer gs o asked c = grind (arith, sum_by-set, chunk_there, fewer_marks)

-- a holder other than the first stands in the rest
later : (x o : ℕ) (xs : List ℕ) → (x ≡ o → ⊥) → 0 < occurrences (x ∷ xs) o → 0 < occurrences xs o
later x o xs ne h = search rules

held_at_most : (holders : List ℕ) (gs : List Segment) (asked : ℕ) → Nameable gs
    → ((o : ℕ) → taken_at gs o ≡ true → 0 < occurrences holders o) → as_large_taken gs asked ≤ length holders
held_at_most [] gs asked n h =
    taken_at_most_counted gs [] asked
    (λ s b. grind (arith, h (offset_of gs s b), taken_named gs s b n))
held_at_most (x ∷ xs) gs asked n h =
    ⊎_elim
    (λ c.
    let rest = held_at_most xs (marked gs x false) asked (nameable_mark gs x false n)
    (λ o t. grind (arith, mark_same gs x false c, mark_other gs x false o c, later x o xs, h o, t)) in
    omega (arith, rest, fewer gs x asked c))
    (λ c.
    let rest = held_at_most xs gs asked n
    (λ o t. grind (arith, later x o xs, h o, t)) in
    omega (arith, rest))
    (cases_Bool (is_chunk gs x))

pub taken_at_most_held : TakenAtMostHeld
taken_at_most_held limit m holders asked sound h =
    held_at_most holders m.segments asked (omega (arith, sound.few, sound.limits), λ s lt. omega (arith, (sound.shaped s lt).fair.1)) h
