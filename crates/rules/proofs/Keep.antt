-- The moves of which every call is made keep a publisher's books.
use Rattle.std.proofs.Common.{rules, arith, true, false, Bool, cond, ◌≡◌, ℕ, ◌+◌, ◌-◌, ◌<◌, eqb, ltb, List, ◌∷◌, length, get_or, sym, ap, ◌∙◌, subst, ⊎_elim}
use Rattle.std.proofs.lemmas.Bool.Decides.{nat_tests}
use Rattle.std.proofs.lemmas.List.{get_or-set_other, length-set}
use Rattle.std.proofs.lemmas.Bool.{cases_Bool, cases_eq, cond-true, cond-false, lt-ltb, eq-eqb, ne_eqb}
use Rattle.elementary.specs.Ids.{segment}
use Rattle.elementary.specs.declared.pointer_offset.PointerOffset.{PointerOffset}
use Rattle.rules.specs.Memory.{Mem, Segment, bucket, is_chunk, taken_at, marked, with_segments, freed}
use Rattle.rules.specs.Counts.{Counts, Chunks, counts_of, count_at, recounted, raised, counted, uncounted, released}
use Rattle.rules.specs.Links.{times}
use Rattle.rules.specs.Bank.{Places}
use Rattle.rules.specs.Publisher.{Pub, hold, let_go}
use Rattle.rules.specs.Books.{held_by, count_of, Ledger, Books, MovesKeepTheBooks}
use Rattle.rules.proofs.Offsets.{one_self, one, times_cons}
use Rattle.rules.proofs.Chunks.{chunk_there}
use Rattle.rules.proofs.Marks.{mark_count, mark_same, mark_other}
use Rattle.rules.proofs.Recounts.{row_same, recount_same, recount_other, count_marked}

-- what is counted is a chunk
pub counted_chunk : (gs : List Segment) (cs : Counts) (o : ℕ) → 0 < count_at gs cs o → is_chunk gs o ≡ true
counted_chunk gs cs o h = ⊎_elim (λ yes. yes) (λ no. absurd (omega (arith, h, cond-false (is_chunk gs o) (get_or (counts_of cs (segment o)) (bucket gs o) 0) 0 no))) (cases_Bool (is_chunk gs o))

-- THE LEDGER

count_room : (c : Chunks) (o : ℕ) → Ledger c → is_chunk c.mem.segments o ≡ true → bucket c.mem.segments o < length (counts_of c.counts (segment o))
count_room c o l e = grind (arith, chunk_there)

pub ledger_recounted : (c : Chunks) (o n : ℕ) → Ledger c → is_chunk c.mem.segments o ≡ true → Ledger (record { mem = c.mem; counts = recounted c.mem.segments c.counts o n })
ledger_recounted c o n l e = grind (arith, row_same, length-set, get_or-set_other, count_room)

pub ledger_marked : (c : Chunks) (o : ℕ) (t : Bool) → Ledger c → Ledger (record { mem = with_segments c.mem (marked c.mem.segments o t); counts = c.counts })
ledger_marked c o t l = grind (arith, length-set, mark_count)

-- COUNTS

pub held_count : (c : Chunks) (o x : ℕ) → Ledger c → is_chunk c.mem.segments o ≡ true → count_at c.mem.segments c.counts o < 10
    → count_at c.mem.segments (counted c.mem.segments c.counts o) x ≡ count_at c.mem.segments c.counts x + cond (eqb o x) 1 0
held_count c o x l e few = grind (arith, recount_same, count_room, recount_other)

less_count : (c : Chunks) (o x : ℕ) → Ledger c → 0 < count_at c.mem.segments c.counts o
    → count_at c.mem.segments (uncounted c.mem.segments c.counts o) x + cond (eqb o x) 1 0 ≡ count_at c.mem.segments c.counts x
less_count c o x l some = grind (arith, recount_same, count_room, recount_other)

-- ONE HOLDER MORE

pub holding : (loans hand : List PointerOffset) (p : Pub) (ps : Places) (o : PointerOffset) → Books loans hand p ps
    → 0 < count_of p o.value → count_of p o.value < 10 → times loans o.value ≡ 0 → Books loans (o ∷ hand) (hold p o) ps
holding loans hand p ps o k some few none =
    let c = p.chunks in
    let e = counted_chunk c.mem.segments c.counts o.value some in
    let n : (x : ℕ) → count_of (hold p o) x ≡ count_of p x + one o x = λ x. held_count c o.value x k.ledger e few in
    record {
      ledger = ledger_recounted c o.value (raised (count_of p o.value)) k.ledger e;
      balance = λ x. omega (arith, n x, k.balance x, times_cons o hand x);
      free = λ x. grind (arith, nat_tests, n x, k.free x, some);
      alone = λ x h. grind (arith, nat_tests, n x, k.alone x, none, h);
      once = k.once;
    }

pub hold_count : (loans hand : List PointerOffset) (p : Pub) (ps : Places) (o : PointerOffset) → Books loans hand p ps → 0 < count_of p o.value → count_of p o.value < 10
    → (x : ℕ) → count_of (hold p o) x ≡ count_of p x + one o x
hold_count loans hand p ps o k some few x = held_count p.chunks o.value x k.ledger (counted_chunk p.chunks.mem.segments p.chunks.counts o.value some) few

-- ONE HOLDER LESS

-- what a release leaves: one holder less, and the bucket taken exactly while there are others
record Released (c d : Chunks) (o : ℕ) : Type 0 where
  ledger : Ledger d
  count : (x : ℕ) → count_at d.mem.segments d.counts x + cond (eqb o x) 1 0 ≡ count_at c.mem.segments c.counts x
  free : (x : ℕ) → taken_at d.mem.segments x ≡ ltb 0 (count_at d.mem.segments d.counts x)

released_last : (c : Chunks) (o : ℕ) → Ledger c → ((x : ℕ) → taken_at c.mem.segments x ≡ ltb 0 (count_at c.mem.segments c.counts x))
    → count_at c.mem.segments c.counts o ≡ 1
    → Released c (record { mem = with_segments c.mem (marked c.mem.segments o false); counts = uncounted c.mem.segments c.counts o }) o
released_last c o l free last =
    let gs = c.mem.segments in
    let cs = c.counts in
    let some : 0 < count_at gs cs o = omega (arith, last) in
    let e = counted_chunk gs cs o some in
    let ds : Counts = uncounted gs cs o in
    let n : (x : ℕ) → count_at (marked gs o false) ds x + cond (eqb o x) 1 0 ≡ count_at gs cs x
    = λ x. omega (arith, count_marked gs ds o false x, less_count c o x l some) in
    record {
      ledger = ledger_marked (record { mem = c.mem; counts = ds }) o false (ledger_recounted c o (count_at gs cs o - 1) l e);
      count = n;
      free = λ x. grind (arith, nat_tests, n x, mark_same gs o false e, mark_other gs o false x e, free x, last);
    }

released_more : (c : Chunks) (o : ℕ) → Ledger c → ((x : ℕ) → taken_at c.mem.segments x ≡ ltb 0 (count_at c.mem.segments c.counts x))
    → 1 < count_at c.mem.segments c.counts o → Released c (record { mem = c.mem; counts = uncounted c.mem.segments c.counts o }) o
released_more c o l free more =
    let gs = c.mem.segments in
    let cs = c.counts in
    let some : 0 < count_at gs cs o = omega (arith, more) in
    let ds : Counts = uncounted gs cs o in
    let n : (x : ℕ) → count_at gs ds x + cond (eqb o x) 1 0 ≡ count_at gs cs x = λ x. less_count c o x l some in
    record {
      ledger = ledger_recounted c o (count_at gs cs o - 1) l (counted_chunk gs cs o some);
      count = n;
      free = λ x. grind (arith, nat_tests, n x, free x, more);
    }

release : (c : Chunks) (o : ℕ) → Ledger c → ((x : ℕ) → taken_at c.mem.segments x ≡ ltb 0 (count_at c.mem.segments c.counts x))
    → 0 < count_at c.mem.segments c.counts o → Released c (released c o) o
release c o l free some =
    let gs = c.mem.segments in
    let cs = c.counts in
    let with_mem : Mem → Chunks = λ m. record { mem = m; counts = uncounted gs cs o } in
    ⊎_elim
    (λ last. subst (λ m. Released c (with_mem m) o)
    (sym (cond-true _ (freed c.mem o) c.mem (eq-eqb (count_at gs cs o) 1 last) ∙ ap (with_segments c.mem) (cond-true _ _ _ (free o ∙ lt-ltb _ _ some))))
    (released_last c o l free last))
    (λ more. subst (λ m. Released c (with_mem m) o) (sym (cond-false _ (freed c.mem o) c.mem (ne_eqb (count_at gs cs o) 1 more)))
    (released_more c o l free (omega (arith, some, more))))
    (cases_eq (count_at gs cs o) 1)

-- a chunk in hand is let go
let_gone : (loans hand : List PointerOffset) (p : Pub) (ps : Places) (o : PointerOffset) → Books loans (o ∷ hand) p ps → Released p.chunks (let_go p o).chunks o.value
let_gone loans hand p ps o k = release p.chunks o.value k.ledger k.free (omega (arith, k.balance o.value, times_cons o hand o.value, one_self o))

pub letting_go : (loans hand : List PointerOffset) (p : Pub) (ps : Places) (o : PointerOffset) → Books loans (o ∷ hand) p ps → Books loans hand (let_go p o) ps
letting_go loans hand p ps o k =
    let r = let_gone loans hand p ps o k in
    let n : (x : ℕ) → count_of (let_go p o) x + one o x ≡ count_of p x = r.count in
    record {
      ledger = r.ledger;
      balance = λ x. omega (arith, n x, k.balance x, times_cons o hand x);
      free = r.free;
      alone = λ x h. omega (arith, n x, k.alone x h, k.balance x, times_cons o hand x, h);
      once = k.once;
    }

pub let_go_count : (loans hand : List PointerOffset) (p : Pub) (ps : Places) (o : PointerOffset) → Books loans (o ∷ hand) p ps
    → (x : ℕ) → count_of (let_go p o) x + one o x ≡ count_of p x
let_go_count loans hand p ps o k = (let_gone loans hand p ps o k).count

-- ONE HOLDER FOR ANOTHER

pub moving : (loans hand hand' : List PointerOffset) (p : Pub) (ps qs : Places)
    → ((o : ℕ) → held_by p.id qs o + times hand' o ≡ held_by p.id ps o + times hand o) → Books loans hand p ps → Books loans hand' p qs
moving loans hand hand' p ps qs same k = search rules

pub moves_keep_the_books : MovesKeepTheBooks
moves_keep_the_books = record { holding = holding; letting_go = letting_go; moving = moving }
