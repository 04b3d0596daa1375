-- The bytes of a chunk that a link holds stay as they are.
use Rattle.std.proofs.Common.{arith, true, ◌≡◌, ◌≢◌, ℕ, suc, ◌+◌, ◌-◌, ◌<◌, ◌≤◌, List, [], ◌∷◌, ◌++◌, length, take, drop, Some, None, Ok, Err, Option, Result, sym, refl, ap, ◌∙◌, subst, ⊎_elim, ◌⊎◌, inl, inr, vec_items, Vec, nat_le, ◌&&◌, not}
use Rattle.std.proofs.lemmas.List.{drop-append-le, take-append-le, drop-take, take-take, length-take, length-drop, append_assoc, length-append}
use Rattle.std.proofs.lemmas.Slice.{drop-append-drop}
use Rattle.std.proofs.lemmas.Bool.{and_parts, cases_Bool, cond-false, cond_both, false≢true, lt-ltb}
use Rattle.std.proofs.lemmas.Bool.Decides.{nat_tests}
use Rattle.rules.specs.Memory.{Mem, Segment, IsMemory, is_chunk, bucket, home, taken_at, Takes, Grows, Allocates, blank, no_segment}
use Rattle.container.specs.Queue.{has, without}
use Rattle.elementary.specs.Ids.{same_chunk, segment, distance}
use Rattle.elementary.specs.declared.error.AllocationError.{AllocationError}
use Rattle.std.specs.Prelude.{slice_index}
use Rattle.std.proofs.lemmas.List.{get_or_append_left}
use Rattle.rules.specs.Counts.{counts_of}
use Rattle.rules.proofs.Banks.{goes}
use Rattle.rules.proofs.Offsets.{one, without_times, one_self, times_push}
use Rattle.rules.proofs.Reclaims.{reclaiming, reclaiming_passes}
use Rattle.rules.proofs.Removes.{emptied_slots, history_in_hand}
use Rattle.elementary.specs.declared.pointer_offset.PointerOffset.{PointerOffset}
use Rattle.elementary.specs.declared.port_list.SubscriberDetails.{SubscriberDetails}
use Rattle.elementary.specs.declared.error.LoanError.{LoanError}
use Rattle.elementary.specs.declared.error.SendError.{SendError}
use Rattle.elementary.specs.declared.error.CloseError.{CloseError}
use Rattle.rules.specs.Links.{times}
use Rattle.rules.specs.Bank.{SafeBank}
use Rattle.rules.specs.Publisher.{Pub, Side, Handler, is_live, unloaned, lent, shut, let_go_all, may_loan, reclaimed_all, Loans, Sends, Closes, fill_after, return_after}
use Rattle.rules.specs.Books.{InOrder, beside, held_by, count_of}
use Rattle.std.specs.Option.{MatchOption}
use Rattle.std.specs.List.{All}
use Rattle.std.specs.declared.alloc.Global.{Global}
use Rattle.elementary.specs.declared.link.Mark.{Mark}
use Rattle.elementary.specs.Ids.{same_port}
use Rattle.elementary.specs.declared.port_id.PortId.{PortId}
use Rattle.rules.specs.declared.call.Call.{Call}
use Rattle.rules.specs.declared.call.Call.TheVariants.{Loan, Fill, Send, Return, ClosePublisher, Receive, Release, Read, Update, CloseSubscriber, SetMark, SetPace}
use Rattle.rules.specs.declared.call.Answer.{Answer}
use Rattle.rules.specs.declared.call.Answer.TheVariants.{NoSuchPort}
use Rattle.rules.specs.Subscriber.{Sub, Half}
use Rattle.rules.specs.Exchange.{State, Moment, Story, pub_of, sub_of, side_of, after_pub, after_sub, may_set, told_send, Step}
use Rattle.rules.specs.Sane.{Memories, Sane, Out, HeldIn, shown, SentBytesStay}
use Rattle.rules.proofs.Steps.{lent_beside, pub_found, pub_set, pub_same, pub_changed, loan_id, left_send, left_close, returned_id, sane_story}
use Rattle.rules.proofs.Delivers.{sending_off, sent_nothing, nothing_out}
use Rattle.rules.specs.Bytes.{overwritten, part, place, room, filled, payload}
use Rattle.rules.proofs.Chunks.{chunk_there, within_capacity, no_byte_shared}
use Rattle.rules.proofs.Passages.{SameShape, shape_trans, shape_marked, shape_released, shape_place, shape_room, passage_all}

-- a part that a write does not reach
untouched : (bs src : List ℕ) (s a z : ℕ) → s + length src ≤ length bs → (a + z ≤ s) ⊎ (s + length src ≤ a) → part (overwritten bs s src) a z ≡ part bs a z
untouched bs src s a z fits h =
    let l : length (take s bs) ≡ s = grind (arith, length-take) in
    ⊎_elim
    (λ before.
    let r = src ++ drop (s + length src) bs in
    let d : length (drop a (take s bs)) ≡ s - a = grind (arith, length-drop) in
    let k : ℕ = s - a in
    let e : a + k ≡ s = omega arith in
    ap (take z) (drop-append-le a (take s bs) r (omega (arith, l))) ∙ (take-append-le z (drop a (take s bs)) r (omega (arith, d)) ∙ (ap (take z) (ap (λ i. drop a (take i bs)) (sym e) ∙ drop-take a k bs) ∙ take-take z k (drop a bs) (omega arith))))
    (λ after.
    ap (take z) (ap (drop a) (sym (append_assoc (take s bs) src (drop (s + length src) bs))) ∙ drop-append-drop (s + length src) bs (take s bs ++ src) a after (omega (arith, length-append (take s bs) src, l))))
    h

-- a fill of another chunk
filled_apart : (m : Mem) (bytes : List ℕ) (x o : ℕ) (source : List ℕ) → IsMemory m → is_chunk m.segments o ≡ true → o ≢ x → payload m (filled m bytes x source) o ≡ payload m bytes o
filled_apart m bytes x o source mem c ne =
    cond_both (is_chunk m.segments x && (nat_le (length source) (room m x) && nat_le m.capacity (length bytes))) (overwritten bytes (place m x) source) bytes
    (λ bs. payload m bs o ≡ payload m bytes o)
    (λ yes.
    let short : length source ≤ room m x = grind (arith, nat_tests) in
    let reach : m.capacity ≤ length bytes = grind (arith, nat_tests) in
    let at_x : is_chunk m.segments x ≡ true = (and_parts _ _ yes).0 in
    let inside = within_capacity mem.0 m x mem.1 at_x in
    untouched bytes source (place m x) (place m o) (room m o) (omega arith)
    (⊎_elim (λ l. inl l) (λ r. inr (omega arith)) (no_byte_shared mem.0 m o x mem.1 c at_x ne)))
    (λ no. refl)

-- memories that differ in marks alone
payload_same : (m n : Mem) (bytes : List ℕ) (o : ℕ) → SameShape m n → payload n bytes o ≡ payload m bytes o
payload_same m n bytes o h = ap (λ a. part bytes a (room n o)) (shape_place m n o h) ∙ ap (part bytes (place m o)) (shape_room m n o h)

-- WHAT ONE CALL LEAVES OF A CHUNK

-- what is counted is a chunk, and what is live is another one than what is on no loan
counted_chunk : (p : Pub) (o : ℕ) → 0 < count_of p o → is_chunk p.chunks.mem.segments o ≡ true
counted_chunk p o some =
    ⊎_elim (λ yes. yes) (λ no. absurd (omega (arith, some, cond-false (is_chunk p.chunks.mem.segments o) (slice_index (counts_of p.chunks.counts (segment o)) (bucket p.chunks.mem.segments o)) 0 no)))
    (cases_Bool (is_chunk p.chunks.mem.segments o))

not_lent : (xs : List PointerOffset) (x : PointerOffset) (o : ℕ) → has same_chunk xs x ≡ true → times xs o ≡ 0 → o ≢ x.value
not_lent xs x o live none same = omega (arith, without_times xs x x.value live, one_self x, ap (times xs) same, none)

-- at the port of the call
abbrev Shows : Side → Side → ℕ → Type 0
Shows g h o = times g.port.loans o ≡ 0 → 0 < held_by h.port.id h.links o → (times h.port.loans o ≡ 0) × (shown h.port o ≡ shown g.port o)

-- where bytes stay, memories differ in marks alone, and no loan is new
shows_by : (g h : Side) (o : ℕ) → h.port.bytes ≡ g.port.bytes → SameShape g.port.chunks.mem h.port.chunks.mem → times h.port.loans o ≤ times g.port.loans o → Shows g h o
shows_by g h o b m l lent held = (
  omega (arith, l, lent),
  ap (λ bs. payload h.port.chunks.mem bs o) b ∙ payload_same g.port.chunks.mem h.port.chunks.mem g.port.bytes o m,
)

shows_refl : (g : Side) (o : ℕ) → Shows g g o
shows_refl g o lent held = (lent, refl)

without_fewer : (xs : List PointerOffset) (x : PointerOffset) (o : ℕ) → times (without same_chunk xs x) o ≤ times xs o
without_fewer xs x o =
    ⊎_elim (λ yes. omega (arith, without_times xs x o yes)) (λ no. omega (arith, ap (λ l. times l o) (nothing_out xs x no))) (cases_Bool (has same_chunk xs x))

shows_send : (f : Handler) (g : Side) (x : PointerOffset) (n : ℕ) (es : List SubscriberDetails) (r : Result ℕ SendError) (h : Side) (o : ℕ) → Sends f g x n es r h
    → SafeBank g.links → InOrder g.port.loans [] g → Shows g h o
shows_send f g x n es r h o w safe k =
    ⊎_elim
    (λ live. let s = sending_off f g x n es r h w live safe k in
    shows_by g h o s.course.bytes s.course.shape (omega (arith, ap (λ l. times l o) s.loans, without_fewer g.port.loans x o)))
    (λ dead. subst (λ (z : Side). Shows g z o) (sym (sent_nothing f g x n es r h w dead)) (shows_refl g o))
    (cases_Bool (is_live g.port x))

shows_return : (g : Side) (x : PointerOffset) (o : ℕ) → Shows g (beside g (return_after g.port x)) o
shows_return g x o =
    cond_both (is_live g.port x) (unloaned g.port x) g.port (λ q. Shows g (beside g q) o)
    (λ live. shows_by g (beside g (unloaned g.port x)) o refl (shape_released g.port.chunks x.value) (without_fewer g.port.loans x o))
    (λ dead. shows_refl g o)

shows_fill : (g : Side) (x : PointerOffset) (source : List ℕ) (o : ℕ) → IsMemory g.port.chunks.mem → InOrder g.port.loans [] g → Shows g (beside g (fill_after g.port x source)) o
shows_fill g x source o mem k lent held =
    let m = g.port.chunks.mem in
    let some : 0 < count_of g.port o = omega (arith, k.books.balance o, held) in (
      lent,
      cond_both (is_live g.port x) (filled m g.port.bytes x.value source) g.port.bytes (λ bs. payload m bs o ≡ payload m g.port.bytes o)
          (λ live. filled_apart m g.port.bytes x.value o source mem (counted_chunk g.port o some) (not_lent g.port.loans x o live lent))
          (λ dead. refl),
    )

shows_close : (g : Side) (r : Option CloseError) (h : Side) (o : ℕ) → Closes g r h → InOrder g.port.loans [] g → Shows g h o
shows_close g r h o c k =
    goes g.port.closed c
    (λ before. subst (λ (z : Side). Shows g z o) (sym before.1) (shows_refl g o))
    (λ closes. let m : Side = closes.0 in
    let e = emptied_slots g.port.loans [] closes.1 k in
    let b = history_in_hand g.port.loans [] m.port m.links e.order.books in
    let d = passage_all g.port.loans [] m.links m.port.history (shut m.port) b in
    let z : Side = record { port = let_go_all (shut m.port) m.port.history; links = m.links } in
    subst (λ (y : Side). Shows g y o) (sym closes.3)
    (shows_by g z o (d.course.bytes ∙ e.passage.course.bytes) (shape_trans e.passage.course.shape d.course.shape) (omega (arith, ap (λ l. times l o) d.loans, ap (λ l. times l o) e.passage.loans))))

one_other : (x : PointerOffset) (o : ℕ) → o ≢ x.value → one x o ≡ 0
one_other x o ne = grind (arith, nat_tests)

-- another bucket taken, of a segment that was there or of a new one
taken_apart : (m n : Mem) (asked x o : ℕ) → Takes m asked x n → taken_at m.segments o ≡ true → (o ≢ x) × SameShape m n
taken_apart m n asked x o t e = (
  λ same.
      let tx : taken_at m.segments x ≡ true = sym (ap (taken_at m.segments) same) ∙ e in
      false≢true (sym (ap not (and_parts _ _ tx).1) ∙ (and_parts _ _ t.free).1),
  subst (SameShape m) (sym t.after) (shape_marked m x true),
)

payload_grown : (m n : Mem) (asked : ℕ) (bytes : List ℕ) (o : ℕ) → Grows m asked n → segment o < length m.segments → payload n bytes o ≡ payload m bytes o
payload_grown m n asked bytes o g there =
    let h : home n.segments o ≡ home m.segments o = ap (λ gs. home gs o) g.segments ∙ get_or_append_left m.segments (blank g.start g.size g.count ∷ []) no_segment (segment o) there in
    ap (λ (y : Segment). part bytes (y.start + distance o) y.size) h

shows_lent : (m : Side) (asked : ℕ) (a : Result PointerOffset AllocationError) (n : Mem) (o : ℕ) → Allocates m.port.chunks.mem asked a n
    → taken_at m.port.chunks.mem.segments o ≡ true → Shows m (lent m a n) o
shows_lent m asked (Err e) n o l t = shows_refl m o
shows_lent m asked (Ok x) n o l t = λ none held.
    let gs = m.port.chunks.mem.segments in
    let once = times_push m.port.loans x o in
    ⊎_elim
    (λ takes. let d = taken_apart m.port.chunks.mem n asked x.value o takes t in
    (omega (arith, once, none, one_other x o d.0), payload_same m.port.chunks.mem n m.port.bytes o d.1))
    (λ (grown, grows, last, takes).
    let there = chunk_there gs o (and_parts _ _ t).0 in
    let other : o ≢ x.value = λ same. omega (arith, there, last, ap segment same) in
    let shape = subst (SameShape grown) (sym takes.after) (shape_marked grown x.value true) in
    (omega (arith, once, none, one_other x o other), payload_same grown n m.port.bytes o shape ∙ payload_grown m.port.chunks.mem grown asked m.port.bytes o grows there))
    l

shows_loan : (g : Side) (asked align : ℕ) (r : Result PointerOffset LoanError) (h : Side) (o : ℕ) → Loans g asked align r h → InOrder g.port.loans [] g → Shows g h o
shows_loan g asked align r h o l k =
    let m = reclaimed_all g in
    let c = reclaiming_passes g.port.loans [] g k in
    let w = reclaiming g.port.loans [] g k in
    let first : Shows g m o = shows_by g m o c.course.bytes c.course.shape (omega (arith, ap (λ l. times l o) c.loans)) in
    goes g.port.closed l
    (λ before. subst (λ (z : Side). Shows g z o) (sym before.1) (shows_refl g o))
    (λ ready. goes (may_loan g.port) ready
    (λ (a, (n, fault, allocates, answer, is)). subst (λ (z : Side). Shows g z o) (sym is) (λ none held.
    let b = lent_beside m a n in
    let held_m : 0 < held_by m.port.id m.links o = omega (arith, held, ap (λ i. held_by i (lent m a n).links o) b.0, ap (λ ls. held_by m.port.id ls o) b.1) in
    let x = first none held_m in
    let some : 0 < count_of m.port o = omega (arith, w.books.balance o, held_m) in
    let y = shows_lent m asked a n o allocates (w.books.free o ∙ lt-ltb _ _ some) x.0 held in
    (y.0, y.1 ∙ x.1)))
    (λ full. subst (λ (z : Side). Shows g z o) (sym full.1) first))

-- EVERY CALL

abbrev Stays : State → State → PortId → Pub → ℕ → Type 0
Stays s t id p o = (q : Pub) → pub_of id t.pubs ≡ Some q → Out q t.links o × (shown q o ≡ shown p o)

pub some_same : (x y : Pub) → ◌≡◌ {A = Option Pub} (Some x) (Some y) → x ≡ y
some_same x y e = cc

-- where the publisher's record stays
stays_same : (s t : State) (id : PortId) (p : Pub) (o : ℕ) → t.pubs ≡ s.pubs → pub_of id s.pubs ≡ Some p → Out p s.links o → HeldIn id o t → Stays s t id p o
stays_same s t id p o e f out held q g =
    let same : q ≡ p = some_same q p (sym g ∙ (ap (pub_of id) e ∙ f)) in
    (record { lent = ap (λ (z : Pub). times z.loans o) same ∙ out.lent; held = held q g }, ap (λ (z : Pub). shown z o) same)

-- where a publisher was called
stays_at : (s : State) (i : PortId) (B : Pub → Side → Type 0) (a : Answer) (t : State)
    → MatchOption (pub_of i s.pubs) ((a ≡ NoSuchPort) × (t ≡ s)) (λ x. (h : Side) × B x h × (t ≡ after_pub s i h))
    → (id : PortId) (p : Pub) (o : ℕ) → pub_of id s.pubs ≡ Some p → Out p s.links o → HeldIn id o t
    → ((x : Pub) (h : Side) → pub_of i s.pubs ≡ Some x → B x h → t ≡ after_pub s i h → (h.port.id ≡ x.id) × Shows (side_of s x) h o) → Stays s t id p o
stays_at s i B a t w id p o f out held l = go (pub_of i s.pubs) refl w
  where
    called : (x : Pub) (h : Side) → pub_of i s.pubs ≡ Some x → (h.port.id ≡ x.id) × Shows (side_of s x) h o → HeldIn id o (after_pub s i h) → Stays s (after_pub s i h) id p o
    called x h e (same, shows) after q g =
        ⊎_elim
        (λ is. let one : p ≡ x = some_same p x (sym f ∙ (pub_same id i s.pubs is.0 ∙ e)) in
        let k : 0 < held_by h.port.id h.links o = subst (λ (z : Pub). 0 < held_by z.id h.links o) is.1 (after q g) in
        let y = shows (sym (ap (λ (z : Pub). times z.loans o) one) ∙ out.lent) k in
        (record { lent = ap (λ (z : Pub). times z.loans o) is.1 ∙ y.0; held = after q g }, ap (λ (z : Pub). shown z o) is.1 ∙ (y.1 ∙ ap (λ (z : Pub). shown z o) (sym one))))
        (λ other. let same' : q ≡ p = some_same q p (sym other.1 ∙ f) in
        (record { lent = ap (λ (z : Pub). times z.loans o) same' ∙ out.lent; held = after q g }, ap (λ (z : Pub). shown z o) same'))
        (pub_changed i id h.port s.pubs q (ap (λ z. same_port z i) same ∙ pub_found i s.pubs x e) g)

    go : (x : Option Pub) → pub_of i s.pubs ≡ x → MatchOption x ((a ≡ NoSuchPort) × (t ≡ s)) (λ x. (h : Side) × B x h × (t ≡ after_pub s i h)) → Stays s t id p o
    go None e v = stays_same s t id p o (ap (λ (z : State). z.pubs) v.1) f out held
    go (Some x) e (h, b, is) = subst (λ z. Stays s z id p o) (sym is) (called x h e (l x h e b is) (subst (HeldIn id o) is held))

pub sub_pubs : (s : State) (i : PortId) (B : Sub → Half → Type 0) (a : Answer) (t : State)
    → MatchOption (sub_of i s.subs) ((a ≡ NoSuchPort) × (t ≡ s)) (λ u. (h : Half) × B u h × (t ≡ after_sub s i h)) → t.pubs ≡ s.pubs
sub_pubs s i B a t w = go (sub_of i s.subs) w
  where
    go : (x : Option Sub) → MatchOption x ((a ≡ NoSuchPort) × (t ≡ s)) (λ u. (h : Half) × B u h × (t ≡ after_sub s i h)) → t.pubs ≡ s.pubs
    go None v = ap (λ (z : State). z.pubs) v.1
    go (Some u) (h, b, is) = ap (λ (z : State). z.pubs) is

pub mark_pubs : (s : State) (i : ℕ) (k : Mark) (a : Answer) (t : State) → Step s (SetMark i k) a t → t.pubs ≡ s.pubs
mark_pubs s i k a t w = goes (may_set s i) w.1 (λ set. ap (λ (z : State). z.pubs) set.2) (λ same. ap (λ (z : State). z.pubs) same)

stays_step : (s : State) (c : Call) (a : Answer) (t : State) → Step s c a t → Memories s → Sane s → (id : PortId) (p : Pub) (o : ℕ) → pub_of id s.pubs ≡ Some p → Out p s.links o
    → HeldIn id o t → Stays s t id p o
stays_step s (Loan i size align) a t w m n id p o f out held =
    stays_at s i _ a t w id p o f out held (λ x h e b is.
    let k = n.order i x e in (loan_id (side_of s x) size align b.0 h b.1 k, shows_loan (side_of s x) size align b.0 h o b.1 k))
stays_step s (Fill i y bytes) a t w m n id p o f out held =
    stays_at s i _ a t w id p o f out held (λ x h e b is.
    let g = side_of s x in
    (ap (λ (z : Side). z.port.id) b.0, subst (λ z. Shows g z o) (sym b.0) (shows_fill g y (vec_items bytes) o (m i x e) (n.order i x e))))
stays_step s (Send i y k list) a t w m n id p o f out held =
    stays_at s i _ a t w id p o f out held (λ x h e b is.
    let g = side_of s x in
    ((left_send (s.handlers i) g y k (vec_items list) b.0 h b.1 n.bank (n.order i x e)).id, shows_send (s.handlers i) g y k (vec_items list) b.0 h o b.1 n.bank (n.order i x e)))
stays_step s (Return i y) a t w m n id p o f out held =
    stays_at s i _ a t w id p o f out held (λ x h e b is.
    let g = side_of s x in
    (ap (λ (z : Side). z.port.id) b.0 ∙ returned_id x y, subst (λ z. Shows g z o) (sym b.0) (shows_return g y o)))
stays_step s (ClosePublisher i) a t w m n id p o f out held =
    stays_at s i _ a t w id p o f out held (λ x h e b is.
    let g = side_of s x in
    ((left_close g b.0 h b.1 n.bank (n.order i x e)).id, shows_close g b.0 h o b.1 (n.order i x e)))
stays_step s (Receive i) a t w m n id p o f out held = stays_same s t id p o (sub_pubs s i _ a t w) f out held
stays_step s (Release i x) a t w m n id p o f out held = stays_same s t id p o (sub_pubs s i _ a t w) f out held
stays_step s (Read i x) a t w m n id p o f out held = stays_same s t id p o (sub_pubs s i _ a t w) f out held
stays_step s (Update i k list) a t w m n id p o f out held = stays_same s t id p o (sub_pubs s i _ a t w) f out held
stays_step s (CloseSubscriber i) a t w m n id p o f out held = stays_same s t id p o (sub_pubs s i _ a t w) f out held
stays_step s (SetMark i k) a t w m n id p o f out held = stays_same s t id p o (mark_pubs s i k a t w) f out held
stays_step s (SetPace i k) a t w m n id p o f out held = stays_same s t id p o (ap (λ (z : State). z.pubs) w.1) f out held

-- a publisher that is there was there before
came_at : (s : State) (i : PortId) (B : Pub → Side → Type 0) (a : Answer) (t : State)
    → MatchOption (pub_of i s.pubs) ((a ≡ NoSuchPort) × (t ≡ s)) (λ x. (h : Side) × B x h × (t ≡ after_pub s i h))
    → ((x : Pub) (h : Side) → pub_of i s.pubs ≡ Some x → B x h → h.port.id ≡ x.id)
    → (id : PortId) (q : Pub) → pub_of id t.pubs ≡ Some q → (r : Pub) × (pub_of id s.pubs ≡ Some r)
came_at s i B a t w l id q g = go (pub_of i s.pubs) refl w
  where
    go : (x : Option Pub) → pub_of i s.pubs ≡ x → MatchOption x ((a ≡ NoSuchPort) × (t ≡ s)) (λ x. (h : Side) × B x h × (t ≡ after_pub s i h)) → (r : Pub) × (pub_of id s.pubs ≡ Some r)
    go None e v = (q, sym (ap (λ (z : State). pub_of id z.pubs) v.1) ∙ g)
    go (Some x) e (h, b, is) =
        ⊎_elim
        (λ own. (x, pub_same id i s.pubs own.0 ∙ e))
        (λ other. (q, other.1))
        (pub_changed i id h.port s.pubs q (ap (λ z. same_port z i) (l x h e b) ∙ pub_found i s.pubs x e) (sym (ap (λ (z : State). pub_of id z.pubs) is) ∙ g))

came : (s : State) (c : Call) (a : Answer) (t : State) → Step s c a t → Sane s → (id : PortId) (q : Pub) → pub_of id t.pubs ≡ Some q → (r : Pub) × (pub_of id s.pubs ≡ Some r)
came s (Loan i size align) a t w n id q g = came_at s i _ a t w (λ x h e b. loan_id (side_of s x) size align b.0 h b.1 (n.order i x e)) id q g
came s (Fill i y bytes) a t w n id q g = came_at s i _ a t w (λ x h e b. ap (λ (z : Side). z.port.id) b.0) id q g
came s (Send i y k list) a t w n id q g = came_at s i _ a t w (λ x h e b. (left_send (s.handlers i) (side_of s x) y k (vec_items list) b.0 h b.1 n.bank (n.order i x e)).id) id q g
came s (Return i y) a t w n id q g = came_at s i _ a t w (λ x h e b. ap (λ (z : Side). z.port.id) b.0 ∙ returned_id x y) id q g
came s (ClosePublisher i) a t w n id q g = came_at s i _ a t w (λ x h e b. (left_close (side_of s x) b.0 h b.1 n.bank (n.order i x e)).id) id q g
came s (Receive i) a t w n id q g = (q, sym (ap (pub_of id) (sub_pubs s i _ a t w)) ∙ g)
came s (Release i x) a t w n id q g = (q, sym (ap (pub_of id) (sub_pubs s i _ a t w)) ∙ g)
came s (Read i x) a t w n id q g = (q, sym (ap (pub_of id) (sub_pubs s i _ a t w)) ∙ g)
came s (Update i k list) a t w n id q g = (q, sym (ap (pub_of id) (sub_pubs s i _ a t w)) ∙ g)
came s (CloseSubscriber i) a t w n id q g = (q, sym (ap (pub_of id) (sub_pubs s i _ a t w)) ∙ g)
came s (SetMark i k) a t w n id q g = (q, sym (ap (pub_of id) (mark_pubs s i k a t w)) ∙ g)
came s (SetPace i k) a t w n id q g = (q, sym (ap (λ (z : State). pub_of id z.pubs) w.1) ∙ g)

-- A RUN

pub memories_before : (s : State) (ms : List Moment) (t : State) → Story s ms t → Memories s → All (λ m. Memories m.after) ms → Memories t
memories_before s [] t w m all = subst Memories (sym w) m
memories_before s (x ∷ xs) t w m all = subst Memories (sym w.0) (all 0 x (omega arith))

stays_story : (s : State) (ms : List Moment) (t : State) → Story s ms t → Memories s → All (λ m. Memories m.after) ms → Sane s
    → (id : PortId) (p : Pub) (o : ℕ) → pub_of id s.pubs ≡ Some p → Out p s.links o → All (λ m. HeldIn id o m.after) ms → Stays s t id p o
stays_story s [] t w m all n id p o f out held =
    subst (λ z. Stays s z id p o) (sym w) (λ q g. let same = some_same q p (sym g ∙ f) in (subst (λ z. Out z s.links o) (sym same) out, ap (λ (z : Pub). shown z o) same))
stays_story s (x ∷ xs) t w m all n id p o f out held =
    let rest : All (λ m. Memories m.after) xs = λ k d lt. all (suc k) d (omega (arith, lt)) in
    let b = sane_story s xs x.before w.2 rest n in
    let mb = memories_before s xs x.before w.2 m rest in
    subst (λ z. Stays s z id p o) (sym w.0) (λ q g.
    let r = came x.before x.call x.answer x.after w.1 b id q g in
    let i = stays_story s xs x.before w.2 m rest n id p o f out (λ k d lt. held (suc k) d (omega (arith, lt))) r.0 r.1 in
    let j = stays_step x.before x.call x.answer x.after w.1 mb b id r.0 o r.1 i.0 (held 0 x (omega arith)) q g in
    (j.0, j.1 ∙ i.1))

-- a send
sent_off : (s : State) (id : PortId) (x : PointerOffset) (n : ℕ) (es : List SubscriberDetails) (r : Result ℕ SendError) (h : Side) (p : Pub)
    → Sends (s.handlers id) (side_of s p) x n es r h → Sane s → pub_of id s.pubs ≡ Some p → is_live p x ≡ true
    → (h.port.id ≡ p.id) × (times h.port.loans x.value ≡ 0) × (shown h.port x.value ≡ shown p x.value)
sent_off s id x n es r h p w z e live =
    let g = side_of s p in
    let k = z.order id p e in
    let o = sending_off (s.handlers id) g x n es r h w live z.bank k in
    let less = without_times p.loans x x.value live in
    let one = k.books.alone x.value (omega (arith, less, one_self x)) in (
      o.course.id,
      omega (arith, ap (λ l. times l x.value) o.loans, less, one_self x, one, k.books.balance x.value),
      ap (λ bs. payload h.port.chunks.mem bs x.value) o.course.bytes ∙ payload_same p.chunks.mem h.port.chunks.mem p.bytes x.value o.course.shape,
    )

sent_first : (s : State) (id : PortId) (x : PointerOffset) (n : ℕ) (list : Vec SubscriberDetails Global) (a : Answer) (t : State) → Step s (Send id x n list) a t → Sane s
    → (p q : Pub) → pub_of id s.pubs ≡ Some p → is_live p x ≡ true → pub_of id t.pubs ≡ Some q → (times q.loans x.value ≡ 0) × (shown q x.value ≡ shown p x.value)
sent_first s id x n list a t w z p q e live g = go (pub_of id s.pubs) e w
  where
    go : (y : Option Pub) → y ≡ Some p
        → MatchOption y ((a ≡ NoSuchPort) × (t ≡ s)) (λ p'. (h : Side) × ((r : Result ℕ SendError) × Sends (s.handlers id) (side_of s p') x n (vec_items list) r h × (a ≡ told_send r)) × (t ≡ after_pub s id h))
        → (times q.loans x.value ≡ 0) × (shown q x.value ≡ shown p x.value)
    go None f v = let c : ◌≡◌ {A = ℕ} 0 1 = cc in absurd (omega arith)
    go (Some p') f (h, b, is) =
        let same : p' ≡ p = some_same p' p f in
        let u = sent_off s id x n (vec_items list) b.0 h p (subst (λ (y : Pub). Sends (s.handlers id) (side_of s y) x n (vec_items list) b.0 h) same b.1) z e live in
        let at_id : same_port h.port.id id ≡ true = ap (λ i. same_port i id) u.0 ∙ pub_found id s.pubs p e in
        let here : q ≡ h.port = some_same q h.port (sym g ∙ (ap (λ (y : State). pub_of id y.pubs) is ∙ pub_set id h.port s.pubs p e at_id)) in
        (ap (λ (y : Pub). times y.loans x.value) here ∙ u.1, ap (λ (y : Pub). shown y x.value) here ∙ u.2)

pub sent_bytes_stay : SentBytesStay
sent_bytes_stay = record { sent = sent_first; stay = stays_story }
