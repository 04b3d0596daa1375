-- A loan keeps a publisher's books.
use Rattle.std.proofs.Common.{rules, arith, true, false, ◌≡◌, ℕ, zero, suc, ◌+◌, ◌<◌, ◌≤◌, List, [], ◌∷◌, ◌++◌, length, get_or, replicate, Ok, Err, Result, sym, refl, ◌∙◌, subst, inl, inr, ⊎_elim}
use Rattle.std.proofs.lemmas.Bool.Decides.{nat_tests}
use Rattle.std.proofs.lemmas.Bool.{not-true, and_right, cases_eq, ltb-false, and_parts}
use Rattle.std.proofs.lemmas.List.{get_or_past, get_or_push, get_or_append_left, length_push, length-set, length-replicate}
use Rattle.elementary.specs.Ids.{segment}
use Rattle.elementary.specs.declared.pointer_offset.PointerOffset.{PointerOffset}
use Rattle.elementary.specs.declared.error.AllocationError.{AllocationError}
use Rattle.elementary.specs.declared.error.LoanError.{LoanError}
use Rattle.rules.specs.Memory.{Mem, Segment, Sound, no_segment, segment_at, bucket, is_chunk, taken_at, free_at, marked, with_segments, blank, Takes, Allocates}
use Rattle.rules.specs.Counts.{Counts, Chunks, counts_of, count_at, raised, borrowed}
use Rattle.rules.specs.Bank.{Places}
use Rattle.rules.specs.Publisher.{Pub, Side, with_chunks, with_loans, reclaimed_all, lent, Allots, may_loan, Loans}
use Rattle.rules.specs.Books.{Ledger, Books, InOrder}
use Rattle.rules.proofs.Banks.{goes}
use Rattle.rules.proofs.Marks.{mark_count, mark_chunk, mark_same, mark_other}
use Rattle.rules.proofs.Offsets.{one, times_push}
use Rattle.rules.proofs.Recounts.{count_marked}
use Rattle.rules.proofs.Keep.{ledger_recounted, ledger_marked, held_count}
use Rattle.rules.proofs.Reclaims.{reclaimed_loans}

-- A FREE BUCKET IS TAKEN

abbrev with_mem : Pub → Mem → Pub
with_mem p m = with_chunks p (record { mem = m; counts = p.chunks.counts })

-- with the bucket marked, and the chunk counted once
abbrev took : Pub → Mem → PointerOffset → Pub
took p n o = with_chunks p (borrowed (record { mem = n; counts = p.chunks.counts }) o.value)

taking_marked : (loans hand : List PointerOffset) (p : Pub) (ps : Places) (o : PointerOffset) → free_at p.chunks.mem.segments o.value ≡ true
    → Books loans hand p ps → Books (loans ++ o ∷ []) hand (took p (with_segments p.chunks.mem (marked p.chunks.mem.segments o.value true)) o) ps
taking_marked loans hand p ps o free k =
    let gs = p.chunks.mem.segments in
    let cs = p.chunks.counts in
    let v = o.value in
    let hs = marked gs v true in
    let d : Chunks = record { mem = with_segments p.chunks.mem hs; counts = cs } in
    let a = and_parts (is_chunk gs v) _ free in
    let untaken : taken_at gs v ≡ false = and_right _ _ (not-true _ a.1) in
    let zero : count_at gs cs v ≤ 0 = ltb-false 0 (count_at gs cs v) (sym (k.free v) ∙ untaken) in
    let there : is_chunk hs v ≡ true = mark_chunk gs v true v ∙ a.0 in
    let ledger : Ledger d = ledger_marked p.chunks v true k.ledger in
    let few : count_at hs cs v < 10 = omega (arith, zero, count_marked gs cs v true v) in
    let n : (x : ℕ) → count_at hs (borrowed d v).counts x ≡ count_at gs cs x + one o x
    = λ x. omega (arith, held_count d v x ledger there few, count_marked gs cs v true x) in
    record {
      ledger = ledger_recounted d v (raised (count_at hs cs v)) ledger there;
      balance = λ x. omega (arith, n x, k.balance x, times_push loans o x);
      free = λ x. grind (arith, nat_tests, n x, mark_same gs v true a.0, mark_other gs v true x a.0, k.free x);
      alone = λ x h. grind (arith, nat_tests, n x, zero, k.alone x, times_push loans o x, h);
      once = k.once;
    }

taking : (loans hand : List PointerOffset) (p : Pub) (ps : Places) (o : PointerOffset) (asked : ℕ) (n : Mem) → Takes p.chunks.mem asked o.value n
    → Books loans hand p ps → Books (loans ++ o ∷ []) hand (took p n o) ps
taking loans hand p ps o asked n t k = subst (λ m. Books (loans ++ o ∷ []) hand (took p m o) ps) (sym t.after) (taking_marked loans hand p ps o t.free k)

-- A SEGMENT IS ADDED

added_same : (gs : List Segment) (b : Segment) (s : ℕ) → s ≡ length gs → segment_at (gs ++ b ∷ []) s ≡ b
added_same gs b s e = get_or_push gs b no_segment s (sym e)

added_other : (gs : List Segment) (b : Segment) (s : ℕ) → (s ≡ length gs → ⊥) → segment_at (gs ++ b ∷ []) s ≡ segment_at gs s
added_other gs b s ne = grind (arith, get_or_append_left, get_or_past, length_push)

-- an offset of a segment that is not there names nothing
nothing_named : (gs : List Segment) (x : ℕ) → segment x ≡ length gs → is_chunk gs x ≡ false
nothing_named gs x e = search (rules, get_or_past)

added_count : (gs : List Segment) (b : Segment) (cs : Counts) (x : ℕ)
    → ((s i : ℕ) → length (segment_at gs s).taken ≤ i → get_or (counts_of cs s) i 0 ≡ 0) → count_at (gs ++ b ∷ []) cs x ≡ count_at gs cs x
added_count gs b cs x unused =
    ⊎_elim
    (λ same. grind (arith, get_or_past, nothing_named gs x same, unused (segment x) (bucket (gs ++ b ∷ []) x)))
    (λ other. grind (arith, added_other))
    (cases_eq (segment x) (length gs))

added_taken : (gs : List Segment) (start size count x : ℕ) → taken_at (gs ++ blank start size count ∷ []) x ≡ taken_at gs x
added_taken gs start size count x =
    ⊎_elim (λ same. grind (arith, added_same, nothing_named, all_false)) (λ other. grind (arith, added_other)) (cases_eq (segment x) (length gs))
  where
    all_false : (n i : ℕ) → get_or (replicate n false) i false ≡ false
    all_false zero i = refl
    all_false (suc n) zero = refl
    all_false (suc n) (suc i) = all_false n i

growing_by : (loans hand : List PointerOffset) (p : Pub) (ps : Places) (n : Mem) (start size count : ℕ) → n.segments ≡ p.chunks.mem.segments ++ blank start size count ∷ []
    → length n.segments ≤ 4 → count ≤ 256 → Books loans hand p ps → Books loans hand (with_mem p n) ps
growing_by loans hand p ps n start size count e four fair k = grind (arith, length-replicate, added_same, added_other, get_or_past, added_taken)

-- THE LOAN

abbrev Fine : List PointerOffset → Side → Type 0
Fine hand g = InOrder g.port.loans hand g

-- the books do not look at the list of loans that the publisher keeps
pub reloaned : (loans hand : List PointerOffset) (p : Pub) (ps : Places) (l : List PointerOffset) → Books loans hand p ps → Books loans hand (with_loans p l) ps
reloaned loans hand p ps l k = search rules

-- a segment that a memory made is no larger than any
new_count : (limit : ℕ) (m : Mem) (gs : List Segment) (v start size count : ℕ) → m.segments ≡ gs ++ blank start size count ∷ []
    → Sound limit (with_segments m (marked m.segments v true)) → (length m.segments ≤ 4) × (count ≤ 256)
new_count limit m gs v start size count e s = grind (arith, length-set, length_push, added_same, mark_count, length-replicate)

lending : (hand : List PointerOffset) (limit : ℕ) (g : Side) (asked : ℕ) (a : Result PointerOffset AllocationError) (n : Mem)
    → Allocates g.port.chunks.mem asked a n → Sound limit (lent g a n).port.chunks.mem → Fine hand g → Fine hand (lent g a n)
lending hand limit g asked (Err e) n al s k = k
lending hand limit g asked (Ok o) n (inl t) s k =
    record {
      books = reloaned _ hand (took g.port n o) g.links (g.port.loans ++ o ∷ []) (taking g.port.loans hand g.port g.links o asked n t k.books);
      wired = search rules;
    }
lending hand limit g asked (Ok o) n (inr (m, grown, at, t)) s k =
    let p = g.port in
    let small = new_count limit m p.chunks.mem.segments o.value grown.start grown.size grown.count grown.segments (subst (Sound limit) t.after s) in
    let more : Books p.loans hand (with_mem p m) g.links
    = growing_by p.loans hand p g.links m grown.start grown.size grown.count grown.segments small.0 small.1 k.books in
    record {
      books = reloaned _ hand (took p n o) g.links (p.loans ++ o ∷ []) (taking p.loans hand (with_mem p m) g.links o asked n t more);
      wired = search rules;
    }

allotting : (hand : List PointerOffset) (limit : ℕ) (g : Side) (asked align : ℕ) (r : Result PointerOffset LoanError) (h : Side)
    → Allots g asked align r h → Sound limit h.port.chunks.mem → Fine hand g → Fine hand h
allotting hand limit g asked align r h (a, (n, _, al, _, e)) s k =
    subst (Fine hand) (sym e) (lending hand limit g asked a n al (subst (λ (x : Side). Sound limit x.port.chunks.mem) e s) k)

pub loaning : (hand : List PointerOffset) (limit : ℕ) (g : Side) (asked align : ℕ) (r : Result PointerOffset LoanError) (h : Side)
    → Loans g asked align r h → Sound limit h.port.chunks.mem → InOrder g.port.loans hand g → InOrder h.port.loans hand h
loaning hand limit g asked align r h l s k =
    goes g.port.closed l
    (λ shut. subst (Fine hand) (sym shut.1) k)
    (λ ready. goes (may_loan g.port) ready
    (λ allots. allotting hand limit (reclaimed_all g) asked align r h allots s (reclaimed_loans hand g k))
    (λ full. subst (Fine hand) (sym full.1) (reclaimed_loans hand g k)))
