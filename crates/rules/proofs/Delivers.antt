-- A send keeps a publisher in order.
use Rattle.std.proofs.Common.{rules, arith, true, false, Bool, cond, ◌≡◌, ℕ, suc, ◌+◌, ◌<◌, ◌≤◌, eqb, List, [], ◌∷◌, ◌++◌, get_or, Some, None, Ok, Err, Option, Result, sym, refl, ap, ◌∙◌, subst, ⊎_elim}
use Rattle.std.specs.Option.{option_to_list}
use Rattle.std.proofs.lemmas.Bool.Decides.{nat_tests}
use Rattle.std.proofs.lemmas.Bool.{cond-true, cond-false, false≢true, cases_Bool, not-true}
use Rattle.container.specs.Queue.{has, without, overflowed, evicted}
use Rattle.elementary.specs.Ids.{same_chunk}
use Rattle.elementary.specs.declared.pointer_offset.PointerOffset.{PointerOffset}
use Rattle.elementary.specs.declared.port_list.SubscriberDetails.{SubscriberDetails}
use Rattle.elementary.specs.declared.settings.PublisherSettings.{PublisherSettings}
use Rattle.elementary.specs.declared.backpressure.BackpressureAction.{BackpressureAction}
use Rattle.elementary.specs.declared.backpressure.BackpressureStrategy.{BackpressureStrategy}
use Rattle.elementary.specs.declared.backpressure.DegradationAction.{DegradationAction}
use Rattle.elementary.specs.declared.error.ZeroCopySendError.{ZeroCopySendError}
use Rattle.elementary.specs.declared.error.SendError.{SendError}
use Rattle.elementary.specs.declared.error.SendError.TheVariants as send
use Rattle.rules.specs.Links.{times}
use Rattle.rules.specs.Bank.{Goes, Places, sends, Turned, SafeBank}
use Rattle.rules.specs.Publisher.{Connection, Pub, Side, slot_at, with_history, with_loans, hold, let_go, let_go_if, reclaimed_all, is_live, noted, Updates, Going, Verdict, passes, Handler, followed, acted, within_budget, degraded, judged, ended, with_links, Tries, tried, turned, Rounds, done, skipped, stopped, next, Delivers, spent, Posts, Sends}
use Rattle.rules.specs.Books.{count_of, Books, InOrder, LeavesOrder, SendsKeepOrder}
use Rattle.rules.proofs.Offsets.{one_self, times_cons, times_append, without_times, overflowed_times, overflowed_length}
use Rattle.rules.proofs.Keep.{holding, letting_go}
use Rattle.rules.proofs.Holdings.{stir_turned}
use Rattle.rules.proofs.Views.{unmoved_held, unmoved_order}
use Rattle.rules.proofs.Passages.{Passage, passage_refl, passage_trans, passage_hold, evict, passage_evict, passage_let_go, passage_links, fits_unmoved, Course, course_trans, course_lists}
use Rattle.rules.proofs.Reclaims.{in_hand, reclaiming, reclaiming_passes, reclaimed_slots}
use Rattle.rules.proofs.Lends.{reloaned}
use Rattle.rules.proofs.Removes.{rewired}
use Rattle.rules.proofs.Posts.{Posted, if_slots, overflowed_evicted, held_few}
use Rattle.rules.proofs.Connects.{take_up}
use Rattle.rules.proofs.Updates.{updating}
use Rattle.rules.proofs.Faults.{passed, list_fault, delivers_passed, updates_fault}

-- ONE TRY

-- a verdict that does not accept leaves publisher and links alone
abbrev Idle : Verdict → Type 0
Idle v = (a : Going) (c : Connection) (o : PointerOffset) → (ended a c o v).side ≡ a.side

idle_passes : Idle passes
idle_passes = search rules

idle_budget : (s : PublisherSettings) (n : ℕ) (v : Verdict) → Idle v → Idle (within_budget s n v)
idle_budget s n v i = search rules

idle_followed : (s : BackpressureStrategy) → Idle (followed s)
idle_followed s = search rules

idle_acted : (s : PublisherSettings) (x : BackpressureAction) → Idle (acted s x)
idle_acted s x = search rules

idle_degraded : (d : DegradationAction) → Idle (degraded d)
idle_degraded d = search rules

idle_cond : (b : Bool) (v w : Verdict) → Idle v → Idle w → Idle (cond b v w)
idle_cond b v w i j = search rules

idle_refused : (f : Handler) (g : Side) (d : Connection) (n : ℕ) (e : ZeroCopySendError) → Idle (judged f g d n (Err e))
idle_refused f g d n e = search rules

-- what a delivery needs of the chunk that it delivers
record Held (hand : List PointerOffset) (o : PointerOffset) (g : Side) : Type 0 where
  safe : SafeBank g.links
  some : 0 < times g.port.history o.value + times hand o.value
  single : times hand o.value ≤ 1

held_after : (hand : List PointerOffset) (o : PointerOffset) (g h : Side) → Passage g h → Held hand o g → Held hand o h
held_after hand o g h p k = record { safe = p.course.bank k.safe; some = omega (arith, ap (λ l. times l o.value) p.history, k.some); single = k.single }

one_try : (loans hand : List PointerOffset) (f : Handler) (o : PointerOffset) (c : Connection) (n : ℕ) (a : Going) (s : ℕ) (r : Result (Option PointerOffset) ZeroCopySendError)
    → slot_at a.side.port s ≡ Some c → sends a.side.links c.place o ≡ r → Held hand o a.side → InOrder loans hand a.side
    → Posted loans hand a.side (ended a c o (judged f a.side c n r)).side
one_try loans hand f o c n a s (Ok e) there takes h k = take_up loans hand a.side s c o (Ok e) there takes h.safe h.some h.single k
one_try loans hand f o c n a s (Err e) there takes h k =
    subst (Posted loans hand a.side) (sym (idle_refused f a.side c n e a c o)) (record { order = k; passage = passage_refl a.side; slots = refl })

turning : (loans hand : List PointerOffset) (p : Pub) (ps qs : Places) → Turned ps qs → InOrder loans hand (record { port = p; links = ps })
    → Posted loans hand (record { port = p; links = ps }) (record { port = p; links = qs })
turning loans hand p ps qs t k =
    let s = stir_turned ps qs t in
    record {
      order = unmoved_order loans hand p ps qs (unmoved_held p.id ps qs s.same) k;
      passage = passage_links p ps qs s.safe (fits_unmoved p ps qs (λ i. ((unmoved_held p.id ps qs s.same).alike i).details)) (λ a ne. unmoved_held a ps qs s.same);
      slots = refl;
    }

tries : (loans hand : List PointerOffset) (f : Handler) (o : PointerOffset) (c : Connection) {n : ℕ} {a b : Going} → Tries f o c n a b → (s : ℕ) → slot_at a.side.port s ≡ Some c
    → Held hand o a.side → InOrder loans hand a.side → Posted loans hand a.side b.side
tries loans hand f o c {n} {a} {b} (tried _ is) s there h k =
    subst (λ (x : Going). Posted loans hand a.side x.side) (sym is) (one_try loans hand f o c n a s (sends a.side.links c.place o) there refl h k)
tries loans hand f o c {n} {a} {b} (turned ps _ t rest) s there h k =
    let w = turning loans hand a.side.port a.side.links ps t k in
    let r = tries loans hand f o c rest s there (held_after hand o a.side (with_links a ps).side w.passage h) w.order in
    record { order = r.order; passage = passage_trans w.passage r.passage; slots = r.slots }

-- THE ROUND

-- each connection of the round stands in a slot
abbrev Slotted : List (Option Connection) → Side → Type 0
Slotted ss g = (j : ℕ) (c : Connection) → get_or ss j None ≡ Some c → (s : ℕ) × (slot_at g.port s ≡ Some c)

slotted_after : (ss : List (Option Connection)) (g h : Side) → h.port.slots ≡ g.port.slots → Slotted ss g → Slotted ss h
slotted_after ss g h same w j c e = let x = w j c e in (x.0, ap (λ xs. get_or xs x.0 None) same ∙ x.1)

rounds : (loans hand : List PointerOffset) (f : Handler) (o : PointerOffset) {ss : List (Option Connection)} {a b : Going} → Rounds f o ss a b → Slotted ss a.side → Held hand o a.side
    → InOrder loans hand a.side → Posted loans hand a.side b.side
rounds loans hand f o {a = a} (done is) w h k = subst (λ (x : Going). Posted loans hand a.side x.side) (sym is) (record { order = k; passage = passage_refl a.side; slots = refl })
rounds loans hand f o (skipped rest) w h k = rounds loans hand f o rest (λ j. w (suc j)) h k
rounds loans hand f o (stopped {c = c} t _) w h k = let x = w 0 c refl in tries loans hand f o c t x.0 x.1 h k
rounds loans hand f o {a = a} (next {c = c} {ss = ss} {m = m} t _ rest) w h k =
    let x = w 0 c refl in
    let y = tries loans hand f o c t x.0 x.1 h k in
    let z = rounds loans hand f o rest (slotted_after ss a.side m.side y.slots (λ j. w (suc j))) (held_after hand o a.side m.side y.passage h) y.order in
    record { order = z.order; passage = passage_trans y.passage z.passage; slots = z.slots ∙ y.slots }

delivering : (loans hand : List PointerOffset) (f : Handler) (g : Side) (o : PointerOffset) (r : Result ℕ SendError) (h : Side) → Delivers f g o r h → Held hand o g → InOrder loans hand g
    → Posted loans hand g h
delivering loans hand f g o r h (b, run, _, is) w k =
    let p = reclaiming_passes loans hand g k in
    let same = reclaimed_slots loans hand g k in
    let x = rounds loans hand f o run (λ j c e. (j, ap (λ xs. get_or xs j None) same ∙ e)) (held_after hand o g (reclaimed_all g) p w) (reclaiming loans hand g k) in
    subst (Posted loans hand g) (sym is) (record { order = x.order; passage = passage_trans p x.passage; slots = x.slots ∙ same })

-- THE HISTORY

-- what the history becomes
abbrev pub history_with : Pub → PointerOffset → List PointerOffset
history_with p o = cond (eqb p.settings.history_size 0) p.history (overflowed p.settings.history_size p.history o)

pub record Noted (loans hand : List PointerOffset) (g : Side) (o : PointerOffset) (h : Side) : Type 0 where
  pub order : InOrder loans hand h
  pub course : Course g h
  pub loans_same : h.port.loans ≡ g.port.loans
  pub closed : h.port.closed ≡ g.port.closed
  pub history : h.port.history ≡ history_with g.port o

entered : (loans hand : List PointerOffset) (p : Pub) (ps : Places) (n : ℕ) (o : PointerOffset) → times p.history o.value ≡ 0 → Books loans (o ∷ hand) p ps
    → Books loans (option_to_list (evicted n p.history o) ++ hand) (with_history p (overflowed n p.history o)) ps
entered loans hand p ps n o absent k = record {
  ledger = k.ledger;
  balance = λ x. omega (arith, k.balance x, times_cons o hand x, times_append (option_to_list (evicted n p.history o)) hand x, overflowed_evicted n p.history o x);
  free = k.free;
  alone = k.alone;
  once = λ x. grind (arith, nat_tests, overflowed_times n p.history o x, absent, k.once x);
}

if_history : (p : Pub) (e : Option PointerOffset) → (let_go_if p e).history ≡ p.history
if_history p e = search rules

noting : (loans hand : List PointerOffset) (g : Side) (o : PointerOffset) → 0 < count_of g.port o.value → count_of g.port o.value < 10 → times loans o.value ≡ 0
    → times g.port.history o.value ≡ 0 → InOrder loans hand g → Noted loans hand g o (record { port = noted g.port o; links = g.links })
noting loans hand g o some few lent absent k = go (eqb p.settings.history_size 0) refl
  where
    p : Pub
    p = g.port

    ps : Places
    ps = g.links

    n : ℕ
    n = p.settings.history_size

    e : Option PointerOffset
    e = evicted n p.history o

    l : List PointerOffset
    l = overflowed n p.history o

    q : Pub
    q = with_history (hold p o) l

    books : Books loans (option_to_list e ++ hand) q ps
    books = entered loans hand (hold p o) ps n o absent (holding loans hand p ps o k.books some few lent)

    passage : Passage (record { port = q; links = ps }) (record { port = let_go_if q e; links = ps })
    passage = passage_evict loans hand ps e q books

    go : (b : Bool) → eqb n 0 ≡ b → Noted loans hand g o (record { port = cond b p (let_go_if q e); links = ps })
    go true is = record { order = k; course = (passage_refl g).course; loans_same = refl; closed = refl; history = sym (cond-true _ _ _ is) }
    go false is = record {
      order = record { books = evict loans hand ps e q books; wired = rewired p (let_go_if q e) ps passage.course.id (if_slots q e) k.wired };
      course = course_trans (passage_hold loans hand ps o p k.books some few).course (course_trans (course_lists (hold p o) ps p.loans l p.closed (overflowed_length n p.history o)) passage.course);
      loans_same = passage.loans;
      closed = passage.closed;
      history = if_history q e ∙ sym (cond-false _ _ _ is);
    }

-- THE SEND

pub record SentOff (g : Side) (o : PointerOffset) (r : Result ℕ SendError) (h : Side) : Type 0 where
  pub order : InOrder h.port.loans [] h
  pub course : Course g h
  pub loans : h.port.loans ≡ without same_chunk g.port.loans o
  pub closed : h.port.closed ≡ g.port.closed
  pub history : h.port.history ≡ cond (passed r) (history_with g.port o) g.port.history
  -- what is closed delivers nothing
  pub opened : g.port.closed ≡ true → passed r ≡ false

-- a publisher whose loan of a chunk is in hand
record InHand (g : Side) (o : PointerOffset) : Type 0 where
  order : InOrder (without same_chunk g.port.loans o) (o ∷ []) g
  lent : times (without same_chunk g.port.loans o) o.value ≡ 0
  absent : times g.port.history o.value ≡ 0

taken_in_hand : (g : Side) (o : PointerOffset) → is_live g.port o ≡ true → InOrder g.port.loans [] g → InHand g o
taken_in_hand g o live k =
    let p = g.port in
    let v = o.value in
    let less = without_times p.loans o v live in
    let b = in_hand [] p g.links o live k.books in
    let alone = k.books.alone v (omega (arith, less, one_self o)) in
    record {
      order = record { books = search rules; wired = k.wired };
      lent = omega (arith, less, one_self o, alone, k.books.balance v);
      absent = omega (arith, less, one_self o, alone, k.books.balance v);
    }

-- the loan ends
spending : (g k : Side) (o : PointerOffset) (r : Result ℕ SendError) → k.port.history ≡ cond (passed r) (history_with g.port o) g.port.history → (g.port.closed ≡ true → passed r ≡ false)
    → k.port.loans ≡ g.port.loans → k.port.closed ≡ g.port.closed → Course g k
    → InOrder (without same_chunk g.port.loans o) (o ∷ []) k → SentOff g o r (spent k o)
spending g k o r history opened loans closed c w =
    let l = without same_chunk g.port.loans o in
    let p = k.port in
    let q : Pub = with_loans p (without same_chunk p.loans o) in
    let same : without same_chunk p.loans o ≡ l = ap (λ x. without same_chunk x o) loans in
    let books : Books l (o ∷ []) q k.links = reloaned l (o ∷ []) p k.links (without same_chunk p.loans o) w.books in
    record {
      order = subst (λ x. InOrder x [] (spent k o)) (sym same) (record {
        books = letting_go l [] q k.links o books;
        wired = rewired p (let_go q o) k.links refl refl w.wired;
      });
      course = course_trans c (course_trans (course_lists p k.links (without same_chunk p.loans o) p.history p.closed (λ r. r)) (passage_let_go l [] k.links o q books).course);
      loans = same;
      closed = closed;
      history = history;
      opened = opened;
    }

history_same : (p q : Pub) (o : PointerOffset) → p.history ≡ q.history → p.settings.history_size ≡ q.settings.history_size → history_with p o ≡ history_with q o
history_same p q o h n = ap (λ xs. cond (eqb p.settings.history_size 0) xs (overflowed p.settings.history_size xs o)) h ∙ ap (λ k. cond (eqb k 0) q.history (overflowed k q.history o)) n

-- between the list and the loan's end
posts : (f : Handler) (g m : Side) (o : PointerOffset) (x : Option SendError) (r : Result ℕ SendError) (k : Side) → Posts f m o x r k → list_fault x ≡ true → g.port.closed ≡ false → Passage g m → SafeBank m.links
    → InHand g o → InOrder (without same_chunk g.port.loans o) (o ∷ []) m → SentOff g o r (spent k o)
posts f g m o (Some e) r k (answer, is) fault opened p safe i w =
    let not_passed : passed r ≡ false = ap passed answer ∙ not-true _ fault in
    subst (λ (z : Side). SentOff g o r (spent z o)) (sym is)
    (spending g m o r (p.history ∙ sym (cond-false _ _ _ not_passed)) (λ _. not_passed) p.loans p.closed p.course w)
posts f g m o None r k d fault opened p safe i w =
    let l = without same_chunk g.port.loans o in
    let v = o.value in
    let self : ◌≡◌ {A = ℕ} (times (o ∷ []) v) 1 = omega (arith, times_cons o [] v, one_self o) in
    let absent : times m.port.history v ≡ 0 = ap (λ h. times h v) p.history ∙ i.absent in
    let held = held_few m.port m.links v safe.sound w.wired in
    let count = w.books.balance v in
    let n = noting l (o ∷ []) m o (omega (arith, count, self)) (omega (arith, count, self, absent, held, i.lent)) i.lent absent w in
    let s : Side = record { port = noted m.port o; links = m.links } in
    let y = delivering l (o ∷ []) f s o r k d (record { safe = n.course.bank safe; some = omega (arith, self); single = omega (arith, self) }) n.order in
    let history : k.port.history ≡ history_with g.port o = y.passage.history ∙ (n.history ∙ history_same m.port g.port o p.history (ap (λ t. t.history_size) p.course.settings)) in
    spending g k o r (history ∙ sym (cond-true _ _ _ (delivers_passed f s o r k d))) (λ shut. absurd (false≢true (sym opened ∙ shut))) (y.passage.loans ∙ (n.loans_same ∙ p.loans)) (y.passage.closed ∙ (n.closed ∙ p.closed)) (course_trans p.course (course_trans n.course y.passage.course)) y.order

single_hand : (o : PointerOffset) (x : ℕ) → times (o ∷ []) x ≤ 1
single_hand o x = search rules

pub sending_off : (f : Handler) (g : Side) (o : PointerOffset) (n : ℕ) (es : List SubscriberDetails) (r : Result ℕ SendError) (h : Side) → Sends f g o n es r h
    → is_live g.port o ≡ true → SafeBank g.links → InOrder g.port.loans [] g → SentOff g o r h
sending_off f g o n es r h w live safe k = was (is_live g.port o) live w
  where
    i : InHand g o
    i = taken_in_hand g o live k

    open_or : (b : Bool) → g.port.closed ≡ b → Goes b ((r ≡ Err send.ConnectionBrokenSinceSenderNoLongerExists) × (h ≡ spent g o))
        ((x : Option SendError) × ((m : Side) × ((k : Side) × Updates g n es x m × Posts f m o x r k × (h ≡ spent k o)))) → SentOff g o r h
    open_or true _ (answer, is) =
        let not_passed : passed r ≡ false = ap passed answer in
        subst (SentOff g o r) (sym is) (spending g g o r (sym (cond-false _ _ _ not_passed)) (λ _. not_passed) refl refl (passage_refl g).course i.order)
    open_or false opened (x, (m, (k, updates, post, is))) =
        let u = updating (without same_chunk g.port.loans o) (o ∷ []) g n es x m updates safe (single_hand o) i.order in
        subst (SentOff g o r) (sym is) (posts f g m o x r k post (updates_fault g n es x m updates) opened u.passage (u.passage.course.bank safe) i u.order)

    was : (b : Bool) → b ≡ true → Goes b (Goes g.port.closed ((r ≡ Err send.ConnectionBrokenSinceSenderNoLongerExists) × (h ≡ spent g o))
        ((x : Option SendError) × ((m : Side) × ((k : Side) × Updates g n es x m × Posts f m o x r k × (h ≡ spent k o))))) ((r ≡ Err send.LoanNotLive) × (h ≡ g)) → SentOff g o r h
    was true e v = open_or g.port.closed refl v
    was false e v = absurd (false≢true e)

-- THE LAW

-- the others see nothing of a course
leaves : (g h : Side) → InOrder h.port.loans [] h → Course g h → SafeBank g.links → LeavesOrder g h
leaves g h k c safe = record { order = k; bank = c.bank safe; others = λ p ne w. unmoved_order p.loans [] p g.links h.links (c.others p.id ne) w }

-- what is not there is not taken out
pub nothing_out : (xs : List PointerOffset) (o : PointerOffset) → has same_chunk xs o ≡ false → without same_chunk xs o ≡ xs
nothing_out [] o e = refl
nothing_out (x ∷ xs) o e = let i = nothing_out xs o in grind (rules, cases_Bool (same_chunk x o), i)

-- a send of what is no live loan is none
pub sent_nothing : (f : Handler) (g : Side) (o : PointerOffset) (n : ℕ) (es : List SubscriberDetails) (r : Result ℕ SendError) (h : Side) → Sends f g o n es r h
    → is_live g.port o ≡ false → h ≡ g
sent_nothing f g o n es r h w dead = go (is_live g.port o) _ dead w
  where
    go : (b : Bool) (A : Type 0) → b ≡ false → Goes b A ((r ≡ Err send.LoanNotLive) × (h ≡ g)) → h ≡ g
    go false A e v = v.1
    go true A e v = absurd (false≢true (sym e))

pub sends_keep_order : SendsKeepOrder
sends_keep_order = record {
  updating = λ g n es f h w safe k.
      let u = updating g.port.loans [] g n es f h w safe (λ o. search rules) k in
      leaves g h (subst (λ x. InOrder x [] h) (sym u.passage.loans) u.order) u.passage.course safe;
  sending = λ f g o n es r h w safe k. ⊎_elim
      (λ live. let s = sending_off f g o n es r h w live safe k in leaves g h s.order s.course safe)
      (λ dead. subst (LeavesOrder g) (sym (sent_nothing f g o n es r h w dead)) (leaves g g k (passage_refl g).course safe))
      (cases_Bool (is_live g.port o));
  ending = λ f g o n es r h w safe k. ⊎_elim
      (λ live. let s = sending_off f g o n es r h w live safe k in (s.loans, s.course.bytes))
      (λ dead. let e = sent_nothing f g o n es r h w dead in (ap (λ (x : Side). x.port.loans) e ∙ sym (nothing_out g.port.loans o dead), ap (λ (x : Side). x.port.bytes) e))
      (cases_Bool (is_live g.port o));
}
