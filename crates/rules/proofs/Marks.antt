-- What a mark at one bucket changes, and what it leaves.
use Rattle.std.proofs.Common.{arith, true, false, Bool, ◌≡◌, ℕ, ◌/◌, ◌%◌, ◌<◌, ◌&&◌, eqb, ltb, List, length, get_or, set, refl, ap, ◌∙◌}
use Rattle.std.proofs.lemmas.Bool.Decides.{nat_tests}
use Rattle.std.proofs.lemmas.List.{get_or-set_same, get_or-set_other, length-set}
use Rattle.elementary.specs.Ids.{distance, segment}
use Rattle.rules.specs.Memory.{Segment, segment_at, no_segment, home, bucket, is_chunk, taken_at, remarked, marked}
use Rattle.rules.proofs.Lists.{set_each}
use Rattle.rules.proofs.Chunks.{chunk_bucket, chunk_there, same_bucket}

-- what no mark changes of a segment, it changes of none
pub mark_keeps : {R : Type 0} (f : Segment → R) → ((g : Segment) (b : ℕ) (t : Bool) → f (remarked g b t) ≡ f g)
    → (gs : List Segment) (o : ℕ) (t : Bool) (k : ℕ) → f (segment_at (marked gs o t) k) ≡ f (segment_at gs k)
mark_keeps f e gs o t = set_each (λ g h. f h ≡ f g) (λ g. refl) gs (segment o) _ no_segment (e (home gs o) (bucket gs o) t)

pub mark_size : (gs : List Segment) (o : ℕ) (t : Bool) (k : ℕ) → (segment_at (marked gs o t) k).size ≡ (segment_at gs k).size
mark_size = mark_keeps (λ g. g.size) (λ g b t. refl)

pub mark_count : (gs : List Segment) (o : ℕ) (t : Bool) (k : ℕ) → length (segment_at (marked gs o t) k).taken ≡ length (segment_at gs k).taken
mark_count = mark_keeps (λ g. length g.taken) (λ g b t. length-set g.taken b t)

-- so every offset names what it named
pub mark_bucket : (gs : List Segment) (o : ℕ) (t : Bool) (p : ℕ) → bucket (marked gs o t) p ≡ bucket gs p
mark_bucket gs o t p = ap (λ z. distance p / z) (mark_size gs o t (segment p))

pub mark_chunk : (gs : List Segment) (o : ℕ) (t : Bool) (p : ℕ) → is_chunk (marked gs o t) p ≡ is_chunk gs p
mark_chunk gs o t p =
    ap (λ z. eqb (distance p % z) 0 && ltb (distance p / z) (length (home (marked gs o t) p).taken)) (mark_size gs o t (segment p))
    ∙ ap (λ n. eqb (distance p % (home gs p).size) 0 && ltb (bucket gs p) n) (mark_count gs o t (segment p))

-- the marks of the segment
marks_same : (gs : List Segment) (o : ℕ) (t : Bool) → segment o < length gs → (home (marked gs o t) o).taken ≡ set (home gs o).taken (bucket gs o) t
marks_same gs o t lt = ap (λ (g : Segment). g.taken) (get_or-set_same gs (segment o) _ no_segment lt)

pub mark_same : (gs : List Segment) (o : ℕ) (t : Bool) → is_chunk gs o ≡ true → taken_at (marked gs o t) o ≡ t
mark_same gs o t c = grind (arith, nat_tests, mark_chunk, mark_bucket, marks_same, get_or-set_same, chunk_there, chunk_bucket)

-- every other chunk's mark stays
other_marks : (gs : List Segment) (o : ℕ) (t : Bool) (p : ℕ) → is_chunk gs o ≡ true → is_chunk gs p ≡ true → (o ≡ p → ⊥)
    → get_or (home (marked gs o t) p).taken (bucket gs p) false ≡ get_or (home gs p).taken (bucket gs p) false
other_marks gs o t p co cp ne = grind (arith, nat_tests, marks_same, get_or-set_other, chunk_there, same_bucket)

pub mark_other : (gs : List Segment) (o : ℕ) (t : Bool) (p : ℕ) → is_chunk gs o ≡ true → (o ≡ p → ⊥) → taken_at (marked gs o t) p ≡ taken_at gs p
mark_other gs o t p co ne = grind (arith, nat_tests, mark_chunk, mark_bucket, other_marks)
