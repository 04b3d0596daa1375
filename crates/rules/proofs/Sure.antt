-- A loan is not refused for want of memory.
use Rattle.std.proofs.Common.{rules, arith, true, false, cond, ◌≡◌, ◌≢◌, ℕ, zero, suc, eqb, ◌+◌, ◌*◌, ◌<◌, ◌≤◌, Bool, List, [], ◌∷◌, ◌++◌, map, length, get_or, nat_le, Some, None, Err, fold, Option, Result, sum_by, sym, refl, ap, ◌∙◌, subst}
use Rattle.std.specs.List.{All, flat_map}
use Rattle.std.specs.Option.{option_map, MatchOption}
use Rattle.std.specs.Result.{result_err}
use Rattle.std.proofs.lemmas.Bool.{cond-true, cond_both, and_parts, false≢true, ltb-true}
use Rattle.std.proofs.lemmas.List.{get_or-set_same, get_or_past, set_past, length-append, length-map}
use Rattle.std.proofs.lemmas.List.Sums.{sum_by-cons}
use Rattle.elementary.specs.declared.error.AllocationError.{AllocationError}
use Rattle.elementary.specs.declared.error.AllocationError.TheVariants as allocation
use Rattle.elementary.specs.declared.error.LoanError.{LoanError}
use Rattle.elementary.specs.declared.error.LoanError.TheVariants as loan
use Rattle.elementary.specs.Refusals.{loan_refusal}
use Rattle.elementary.specs.declared.port_id.PortId.{PortId}
use Rattle.elementary.specs.declared.pointer_offset.PointerOffset.{PointerOffset}
use Rattle.rules.specs.declared.call.Call.TheVariants.{Loan}
use Rattle.rules.specs.declared.call.Answer.{Answer}
use Rattle.rules.specs.declared.call.Answer.TheVariants.{Refused, NoSuchPort}
use Rattle.rules.specs.Laws.{as_large, occurrences}
use Rattle.rules.specs.Memory.{Mem, Segment, IsMemory, no_segment, taken_at, allocation_fault}
use Rattle.rules.specs.Pools.{by}
use Rattle.rules.specs.Links.{Link, attached, listed, times}
use Rattle.rules.specs.Bank.{Places, at, changed, Goes, SafeBank}
use Rattle.rules.specs.Publisher.{Connection, Pub, Side, slot_at, returned_at, cleared, emptied, reclaimed_all, may_loan, loan_answer, Allots, Loans}
use Rattle.rules.specs.Books.{mine, count_of, InOrder}
use Rattle.rules.specs.Exchange.{State, Moment, pub_of, side_of, after_pub, told_loan, Step, Story, New}
use Rattle.rules.specs.Sane.{Memories, Sane, SetUp, most_bound, LoanIsSure}
use Rattle.rules.proofs.Banks.{goes}
use Rattle.rules.proofs.Lists.{set_each}
use Rattle.rules.proofs.Offsets.{times_cons, times_append}
use Rattle.rules.proofs.Views.{own_details, sum_alike}
use Rattle.rules.proofs.Totals.{one_is_free, taken_at_most_held}
use Rattle.rules.proofs.Passages.{SameShape, shape_memory, Snug, snug_course}
use Rattle.rules.proofs.Reclaims.{reclaiming, reclaiming_passes, reclaimed_slots}
use Rattle.rules.proofs.Posts.{slot_holds, slots_hold}
use Rattle.rules.proofs.Steps.{sane_new, sane_story, snug_new, snug_story}
use Rattle.rules.proofs.Stays.{memories_before, some_same}

-- AFTER RECLAIMING NOTHING IS RETURNED

-- what a place has returned to its sender
abbrev returned_of : Option Link → List PointerOffset
returned_of x = by x [] (λ l. cond (attached l.sender_end) l.returned [])

cleared_of : (x : Option Link) → returned_of (option_map cleared x) ≡ []
cleared_of x = search rules

cleared_now : (ps : Places) (q : ℕ) → returned_of (at (changed ps q cleared) q) ≡ []
cleared_now ps q = grind (arith, cleared_of, get_or-set_same, set_past, get_or_past)

stays_clear : (g : Side) (x : Option Connection) (q : ℕ) → returned_at g.links q ≡ [] → returned_at (emptied g x).links q ≡ []
stays_clear g None q e = e
stays_clear g (Some c) q e = set_each (λ x y. returned_of x ≡ [] → returned_of y ≡ []) (λ x h. h) g.links c.place (option_map cleared (at g.links c.place)) None (λ h. cleared_of (at g.links c.place)) q e

all_clear : (xs : List (Option Connection)) (g : Side) (q : ℕ) → returned_at g.links q ≡ [] → returned_at (fold emptied g xs).links q ≡ []
all_clear [] g q e = e
all_clear (x ∷ xs) g q e = all_clear xs (emptied g x) q (stays_clear g x q e)

clears : (xs : List (Option Connection)) (g : Side) (i : ℕ) (c : Connection) → get_or xs i None ≡ Some c → returned_at (fold emptied g xs).links c.place ≡ []
clears [] g i c e = absurd (let f : ◌≡◌ {A = Option Connection} None (Some c) = e in let z : ◌≡◌ {A = ℕ} 0 1 = cc in omega arith)
clears (x ∷ xs) g zero c e = all_clear xs (emptied g x) c.place (subst (λ y. returned_at (emptied g y).links c.place ≡ []) (sym e) (cleared_now g.links c.place))
clears (x ∷ xs) g (suc i) c e = clears xs (emptied g x) i c e

-- WHO HOLDS

-- what a slot's link holds
abbrev slot_lists : PortId → Places → Option Connection → List PointerOffset
slot_lists id ps x = by x [] (λ c. by (at ps c.place) [] (λ l. cond (mine id l) (listed l) []))

-- the loans, the history, and what the slots' links hold
abbrev holders : Pub → Places → List PointerOffset
holders p ps = p.loans ++ (p.history ++ flat_map (slot_lists p.id ps) p.slots)

slot_times : (id : PortId) (ps : Places) (o : ℕ) (x : Option Connection) → times (slot_lists id ps x) o ≡ slot_holds id o ps x
slot_times id ps o x = search rules

slots_times : (id : PortId) (ps : Places) (o : ℕ) (xs : List (Option Connection)) → times (flat_map (slot_lists id ps) xs) o ≡ sum_by (slot_holds id o ps) xs
slots_times id ps o [] = refl
slots_times id ps o (x ∷ xs) =
    omega (arith, times_append (slot_lists id ps x) (flat_map (slot_lists id ps) xs) o, slot_times id ps o x, slots_times id ps o xs, sum_by-cons (slot_holds id o ps) x xs)

occurrences_times : (xs : List PointerOffset) (o : ℕ) → occurrences (map (λ (x : PointerOffset). x.value) xs) o ≡ times xs o
occurrences_times [] o = refl
occurrences_times (x ∷ xs) o =
    omega (arith, sum_by-cons (λ n. cond (eqb n o) 1 0) x.value (map (λ (y : PointerOffset). y.value) xs), occurrences_times xs o, times_cons x xs o)

-- every taken bucket has a holder
has_holder : (p : Pub) (ps : Places) (o : ℕ) → InOrder p.loans [] (record { port = p; links = ps }) → taken_at p.chunks.mem.segments o ≡ true → 0 < times (holders p ps) o
has_holder p ps o k t =
    let some : 0 < count_of p o = ltb-true 0 (count_of p o) (sym (k.books.free o) ∙ t) in
    omega (
      arith,
      some,
      k.books.balance o,
      slots_hold p.id o p.slots ps k.wired.cover,
      slots_times p.id ps o p.slots,
      times_append p.history (flat_map (slot_lists p.id ps) p.slots) o,
      times_append p.loans (p.history ++ flat_map (slot_lists p.id ps) p.slots) o,
    )

-- HOW MANY THEY ARE

-- no link holds more than a full buffer and all that may be borrowed
link_short : (p : Pub) (ps : Places) (q : ℕ) (l : Link) → at ps q ≡ Some l → mine p.id l ≡ true → SafeBank ps → Snug p ps → returned_of (at ps q) ≡ []
    → length (listed l) ≤ p.settings.subscriber_max_buffer_size + p.settings.subscriber_max_borrowed_samples
link_short p ps q l e own safe k none =
    let w = safe.sound.proper q l e in
    let f = k.fits q l.details (ap (own_details p.id) e ∙ cond-true _ _ _ own) in
    let back : l.returned ≡ [] = sym (cond-true _ _ _ (and_parts (attached l.sender_end) _ own).0) ∙ (sym (ap returned_of e) ∙ none) in
    omega (arith, f.0, f.1, w.waiting, w.borrowed, ap length back, length-append l.waiting (l.borrowed ++ l.returned), length-append l.borrowed l.returned)

slot_short : (p : Pub) (ps : Places) (c : Connection) → SafeBank ps → Snug p ps → returned_of (at ps c.place) ≡ []
    → length (slot_lists p.id ps (Some c)) ≤ p.settings.subscriber_max_buffer_size + p.settings.subscriber_max_borrowed_samples
slot_short p ps c safe k none = through (at ps c.place) refl
  where
    through : (x : Option Link) → at ps c.place ≡ x
        → length (by x [] (λ l. cond (mine p.id l) (listed l) [])) ≤ p.settings.subscriber_max_buffer_size + p.settings.subscriber_max_borrowed_samples
    through None e = omega arith
    through (Some l) e =
        cond_both (mine p.id l) (listed l) [] (λ xs. length xs ≤ p.settings.subscriber_max_buffer_size + p.settings.subscriber_max_borrowed_samples)
        (λ own. link_short p ps c.place l e own safe k none) (λ _. omega arith)

slots_short : (id : PortId) (ps : Places) (m : ℕ) (xs : List (Option Connection)) → ((i : ℕ) (c : Connection) → get_or xs i None ≡ Some c → length (slot_lists id ps (Some c)) ≤ m)
    → length (flat_map (slot_lists id ps) xs) ≤ length xs * m
slots_short id ps m [] h = omega arith
slots_short id ps m (None ∷ xs) h = omega (arith, slots_short id ps m xs (λ i. h (suc i)))
slots_short id ps m (Some c ∷ xs) h =
    omega (arith, length-append (slot_lists id ps (Some c)) (flat_map (slot_lists id ps) xs), h zero c refl, slots_short id ps m xs (λ i. h (suc i)))

holders_short : (p : Pub) (ps : Places) → SafeBank ps → Snug p ps → ((i : ℕ) (c : Connection) → slot_at p i ≡ Some c → returned_of (at ps c.place) ≡ [])
    → length p.loans < p.settings.max_loaned_samples → length (holders p ps) < most_bound p.settings
holders_short p ps safe k none few =
    let t = p.settings in
    let m : ℕ = t.subscriber_max_buffer_size + t.subscriber_max_borrowed_samples in
    let s = slots_short p.id ps m p.slots (λ i c e. slot_short p ps c safe k (none i c e)) in
    omega (
      arith,
      few,
      k.recent,
      subst (λ n. length (flat_map (slot_lists p.id ps) p.slots) ≤ n * m) k.slots s,
      length-append p.history (flat_map (slot_lists p.id ps) p.slots),
      length-append p.loans (p.history ++ flat_map (slot_lists p.id ps) p.slots),
    )

-- THE LOAN

as_large_same : (m n : Mem) (size : ℕ) → SameShape m n → as_large n.segments size ≡ as_large m.segments size
as_large_same m n size h =
    sum_alike no_segment (λ (g : Segment). cond (nat_le size g.size) (length g.taken) 0) (nothing (nat_le size 0)) m.segments n.segments
    (λ i. grind (arith, h.size i, h.count i))
  where
    nothing : (b : Bool) → cond b (length (no_segment.taken)) 0 ≡ 0
    nothing true = refl
    nothing false = refl

-- a memory of which not all is bound does not say that it is out of memory
not_out : (m : Mem) (os : List PointerOffset) (size align : ℕ) → IsMemory m → ((o : ℕ) → taken_at m.segments o ≡ true → 0 < times os o) → length os < as_large m.segments size
    → allocation_fault m size align ≢ Some allocation.OutOfMemory
not_out m os size align mem held few =
    let xs = map (λ (x : PointerOffset). x.value) os in
    let most = taken_at_most_held mem.0 m xs size mem.1 (λ o t. omega (arith, held o t, occurrences_times os o)) in
    (one_is_free m size (omega (arith, most, few, length-map os (λ (x : PointerOffset). x.value)))).1 align

told_out : (r : Result PointerOffset LoanError) → told_loan r ≡ Refused (loan_refusal loan.OutOfMemory) → r ≡ Err loan.OutOfMemory
told_out r e = search rules

out_of : (a : Result PointerOffset AllocationError) → loan_answer a ≡ Err loan.OutOfMemory → result_err a ≡ Some allocation.OutOfMemory
out_of a e = search rules

allots_sure : (g : Side) (size align : ℕ) (r : Result PointerOffset LoanError) (h : Side) → Allots (reclaimed_all g) size align r h → IsMemory g.port.chunks.mem → SafeBank g.links
    → Snug g.port g.links → InOrder g.port.loans [] g → length g.port.loans < g.port.settings.max_loaned_samples
    → most_bound g.port.settings ≤ as_large g.port.chunks.mem.segments size → r ≢ Err loan.OutOfMemory
allots_sure g size align r h (a, (n, fault, _, answer, _)) mem safe k order few room out =
    let m = reclaimed_all g in
    let p = reclaiming_passes g.port.loans [] g order in
    let c = p.course in
    let w = subst (λ l. InOrder l [] m) (sym p.loans) (reclaiming g.port.loans [] g order) in
    let empty : (i : ℕ) (d : Connection) → slot_at m.port i ≡ Some d → returned_of (at m.links d.place) ≡ []
    = λ i d e. clears g.port.slots g i d (sym (ap (λ xs. get_or xs i None) (reclaimed_slots g.port.loans [] g order)) ∙ e) in
    let short = holders_short m.port m.links (c.bank safe) (snug_course c k) empty (omega (arith, few, ap length p.loans, ap (λ t. t.max_loaned_samples) c.settings)) in
    let large = as_large_same g.port.chunks.mem m.port.chunks.mem size c.shape in
    not_out m.port.chunks.mem (holders m.port m.links) size align (shape_memory g.port.chunks.mem m.port.chunks.mem c.shape mem) (λ o t. has_holder m.port m.links o w t)
    (omega (arith, short, room, large, ap most_bound c.settings)) (sym fault ∙ out_of a (sym answer ∙ out))

-- one of two statements, and which
goes_as : {A B C : Type 0} (b : Bool) → Goes b A B → (b ≡ true → A → C) → (B → C) → C
goes_as true v f h = f refl v
goes_as false v f h = h v

loan_sure : (g : Side) (size align : ℕ) (r : Result PointerOffset LoanError) (h : Side) → Loans g size align r h → IsMemory g.port.chunks.mem → SafeBank g.links
    → Snug g.port g.links → InOrder g.port.loans [] g → most_bound g.port.settings ≤ as_large g.port.chunks.mem.segments size → r ≢ Err loan.OutOfMemory
loan_sure g size align r h l mem safe k order room =
    goes g.port.closed l
    (λ (e, _). another r loan.ConnectionBrokenSinceSenderNoLongerExists e refl)
    (λ ready. goes_as (may_loan g.port) ready
    (λ may allots. allots_sure g size align r h allots mem safe k order (ltb-true _ _ may) room)
    (λ (e, _). another r loan.ExceedsMaxLoans e refl))
  where
    for_memory : LoanError → Bool
    for_memory loan.ExceedsMaxLoans = false
    for_memory loan.ExceedsMaxLoanSize = false
    for_memory loan.InternalFailure = false
    for_memory loan.OutOfMemory = true
    for_memory loan.ConnectionBrokenSinceSenderNoLongerExists = false

    another : (r : Result PointerOffset LoanError) (e : LoanError) → r ≡ Err e → for_memory e ≡ false → r ≢ Err loan.OutOfMemory
    another r e is other out = let same : ◌≡◌ {A = Result PointerOffset LoanError} (Err e) (Err loan.OutOfMemory) = sym is ∙ out in let f : e ≡ loan.OutOfMemory = cc in false≢true (sym other ∙ ap for_memory f)

pub loan_is_sure : LoanIsSure
loan_is_sure = record { sure = sure }
  where
    sure : (s : State) (ms : List Moment) (t : State) → New s → SetUp s → Story s ms t → Memories s → All (λ m. Memories m.after) ms
        → (id : PortId) (p : Pub) (size align : ℕ) (a : Answer) (u : State) → pub_of id t.pubs ≡ Some p
        → most_bound p.settings ≤ as_large p.chunks.mem.segments size → Step t (Loan id size align) a u → a ≢ Refused (loan_refusal loan.OutOfMemory)
    sure s ms t new up run m all id p size align a u there room step out = go (pub_of id t.pubs) there step
      where
        z : Sane t
        z = sane_story s ms t run all (sane_new s new up)

        go : (x : Option Pub) → x ≡ Some p
            → MatchOption x ((a ≡ NoSuchPort) × (u ≡ t)) (λ q. (h : Side) × ((r : Result PointerOffset LoanError) × Loans (side_of t q) size align r h × (a ≡ told_loan r)) × (u ≡ after_pub t id h)) → ⊥
        go None f v = let c : ◌≡◌ {A = ℕ} 0 1 = cc in absurd (omega arith)
        go (Some q) f (h, (r, l, told), _) =
            loan_sure (side_of t p) size align r h (subst (λ (y : Pub). Loans (side_of t y) size align r h) (some_same q p f) l) (memories_before s ms t run m all id p there) z.bank
            ((snug_story s ms t run all (sane_new s new up) (snug_new s new)).each id p there) (z.order id p there) room (told_out r (sym told ∙ out))
