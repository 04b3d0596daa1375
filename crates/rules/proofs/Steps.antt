-- Every call of an exchange keeps every publisher in order.
use Rattle.std.proofs.Common.{rules, arith, true, false, Bool, ◌≡◌, ℕ, suc, ◌+◌, ◌≤◌, List, [], ◌∷◌, length, replicate, get_or, slice_index, Some, None, Ok, Err, Option, Result, sym, refl, ap, ◌∙◌, subst, ⊎_elim, ◌⊎◌, inl, inr, vec_items, nat_lt, cond}
use Rattle.std.proofs.lemmas.Bool.{cases_Bool, cases_lt, cond-true, cond-false, cond_both, false≢true}
use Rattle.std.proofs.lemmas.List.{get_or-replicate, get_or_past, length-replicate}
use Rattle.std.proofs.lemmas.Bool.Decides.{nat_tests}
use Rattle.std.specs.List.{All}
use Rattle.std.specs.Option.{MatchOption}
use Rattle.elementary.specs.Ids.{same_port}
use Rattle.elementary.specs.Refusals as refusals
use Rattle.elementary.specs.Refusals.{close_refusal, releasing_refusal, update_refusal}
use Rattle.elementary.specs.declared.error.UpdateError.{UpdateError}
use Rattle.elementary.specs.declared.port_id.PortId.{PortId}
use Rattle.elementary.specs.declared.pointer_offset.PointerOffset.{PointerOffset}
use Rattle.elementary.specs.declared.port_list.SubscriberDetails.{SubscriberDetails}
use Rattle.elementary.specs.declared.error.LoanError.{LoanError}
use Rattle.elementary.specs.declared.error.SendError.{SendError}
use Rattle.elementary.specs.declared.error.CloseError.{CloseError}
use Rattle.rules.specs.declared.call.Call.{Call}
use Rattle.rules.specs.declared.call.Call.TheVariants.{Loan, Fill, Send, Return, ClosePublisher, Receive, Release, Read, Update, CloseSubscriber, SetMark, SetPace}
use Rattle.rules.specs.declared.call.Answer.{Answer}
use Rattle.rules.specs.declared.call.Answer.TheVariants.{NoSuchPort, Done}
use Rattle.elementary.specs.declared.link.Mark.{Mark}
use Rattle.elementary.specs.declared.link.LinkDetails.{LinkDetails}
use Rattle.rules.specs.Memory.{Mem, IsMemory, is_chunk, bucket}
use Rattle.rules.specs.Counts.{counts_of}
use Rattle.elementary.specs.Ids.{segment}
use Rattle.elementary.specs.Settings.{publisher_in_range}
use Rattle.elementary.specs.declared.settings.PublisherSettings.{PublisherSettings}
use Rattle.elementary.specs.declared.error.AllocationError.{AllocationError}
use Rattle.rules.specs.Bank.{at, Goes, Places, changed, with_mark, SetsMark, SafeBank}
use Rattle.rules.specs.Publisher.{Connection, slot_at, lent, shut, let_go_all, unloaned, Pub, Side, Handler, reclaimed_all, may_loan, is_live, Loans, Sends, Closes, fill_after, fill_refusal, return_after, return_refusal}
use Rattle.rules.specs.Subscriber.{Sub, Half, Updates, receive_after, receive_answer, release_after, release_fault, closed}
use Rattle.rules.specs.Holdings.{Stirred}
use Rattle.rules.specs.Books.{InOrder, beside, LeavesOrder, held_here, held_by, count_of, owns, Ledger}
use Rattle.rules.specs.Exchange.{State, Moment, pub_of, with_pub, sub_of, side_of, half_of, after_pub, after_sub, AtPub, AtSub, may_set, told, told_loan, told_send, told_receive, told_read, read_refused, translation, is_known, Step, Story, New, NewPub}
use Rattle.rules.specs.Sane.{Memories, Sane, StepsKeepOrder, SetUp, Balanced, CountsBalance, LinksStayInOrder}
use Rattle.rules.proofs.Banks.{goes}
use Rattle.rules.proofs.Safe.{safe_marked}
use Rattle.rules.proofs.Holdings.{stir_refl}
use Rattle.rules.proofs.Halves.{only_stirred}
use Rattle.rules.proofs.Views.{sum_alike, own_details, Unmoved, kept_by, unmoved_held, unmoved_order}
use Rattle.rules.proofs.Passages.{Course, passage_refl, passage_all, Snug, snug_course, snug_unmoved}
use Rattle.rules.proofs.Reclaims.{reclaiming_passes, all_id}
use Rattle.rules.proofs.Lends.{loaning}
use Rattle.rules.proofs.Removes.{emptied_slots, history_in_hand, closing}
use Rattle.rules.proofs.Posts.{calls_keep_order, held_few}
use Rattle.rules.specs.Links.{Link, times}
use Rattle.rules.proofs.Delivers.{sending_off, sent_nothing}

-- WHAT ONE PUBLISHER'S CALL LEAVES

pub record Left (g h : Side) : Type 0 where
  pub leaves : LeavesOrder g h
  pub id : h.port.id ≡ g.port.id
  pub snug : Snug g.port g.links → Snug h.port h.links
  pub others : (a : PortId) → same_port a g.port.id ≡ false → Unmoved a g.links h.links

-- the links are those of a side that a course leads to
left_at : (g m h : Side) → InOrder h.port.loans [] h → Course g m → h.links ≡ m.links → h.port.id ≡ g.port.id → (Snug m.port m.links → Snug h.port h.links) → SafeBank g.links → Left g h
left_at g m h k c e i snug safe = record {
  leaves = record {
    order = k;
    bank = subst SafeBank (sym e) (c.bank safe);
    others = λ p ne w. subst (λ ls. InOrder p.loans [] (record { port = p; links = ls })) (sym e) (unmoved_order p.loans [] p g.links m.links (c.others p.id ne) w);
  };
  id = i;
  snug = λ s. snug (snug_course c s);
  others = λ a ne. subst (Unmoved a g.links) (sym e) (c.others a ne);
}

left_same : (g h : Side) → InOrder h.port.loans [] h → h.links ≡ g.links → h.port.id ≡ g.port.id → (Snug g.port g.links → Snug h.port h.links) → SafeBank g.links → Left g h
left_same g h k e i snug safe = left_at g g h k (passage_refl g).course e i snug safe

left_still : (g h : Side) → h ≡ g → SafeBank g.links → InOrder g.port.loans [] g → Left g h
left_still g h same safe k = subst (Left g) (sym same) (left_same g g k refl refl (λ s. s) safe)

pub lent_beside : (m : Side) (a : Result PointerOffset AllocationError) (n : Mem) → ((lent m a n).port.id ≡ m.port.id) × ((lent m a n).links ≡ m.links)
lent_beside m (Ok o) n = (refl, refl)
lent_beside m (Err e) n = (refl, refl)

snug_lent : (m : Side) (a : Result PointerOffset AllocationError) (n : Mem) → Snug m.port m.links → Snug (lent m a n).port (lent m a n).links
snug_lent m (Ok o) n k = record { fits = k.fits; recent = k.recent; slots = k.slots }
snug_lent m (Err e) n k = k

pub loan_id : (g : Side) (asked align : ℕ) (r : Result PointerOffset LoanError) (h : Side) → Loans g asked align r h → InOrder g.port.loans [] g → h.port.id ≡ g.port.id
loan_id g asked align r h l k =
    let i = (reclaiming_passes g.port.loans [] g k).course.id in
    goes g.port.closed l
    (λ before. ap (λ (x : Side). x.port.id) before.1)
    (λ ready. goes (may_loan g.port) ready
    (λ (a, (n, fault, allocates, answer, is)). ap (λ (x : Side). x.port.id) is ∙ ((lent_beside (reclaimed_all g) a n).0 ∙ i))
    (λ full. ap (λ (x : Side). x.port.id) full.1 ∙ i))

pub left_loan : (g : Side) (asked align : ℕ) (r : Result PointerOffset LoanError) (h : Side) → Loans g asked align r h → IsMemory h.port.chunks.mem
    → SafeBank g.links → InOrder g.port.loans [] g → Left g h
left_loan g asked align r h l m safe k =
    let o = loaning [] m.0 g asked align r h l m.1 k in
    let c = (reclaiming_passes g.port.loans [] g k).course in
    goes g.port.closed l
    (λ before. left_still g h before.1 safe k)
    (λ ready. goes (may_loan g.port) ready
    (λ (a, (n, fault, allocates, answer, is)). let b = lent_beside (reclaimed_all g) a n in
    left_at g (reclaimed_all g) h o c (ap (λ (x : Side). x.links) is ∙ b.1) (ap (λ (x : Side). x.port.id) is ∙ (b.0 ∙ c.id))
    (λ s. subst (λ (x : Side). Snug x.port x.links) (sym is) (snug_lent (reclaimed_all g) a n s)) safe)
    (λ full. left_at g (reclaimed_all g) h o c (ap (λ (x : Side). x.links) full.1) (ap (λ (x : Side). x.port.id) full.1 ∙ c.id)
    (λ s. subst (λ (x : Side). Snug x.port x.links) (sym full.1) s) safe))

pub left_send : (f : Handler) (g : Side) (o : PointerOffset) (n : ℕ) (es : List SubscriberDetails) (r : Result ℕ SendError) (h : Side) → Sends f g o n es r h
    → SafeBank g.links → InOrder g.port.loans [] g → Left g h
left_send f g o n es r h w safe k =
    ⊎_elim
    (λ live. let s = sending_off f g o n es r h w live safe k in left_at g h h s.order s.course refl s.course.id (λ x. x) safe)
    (λ dead. left_still g h (sent_nothing f g o n es r h w dead) safe k)
    (cases_Bool (is_live g.port o))

snug_shut : (loans : List PointerOffset) (m : Side) → InOrder loans [] m → Snug m.port m.links → Snug (let_go_all (shut m.port) m.port.history) m.links
snug_shut loans m k s =
    snug_course (passage_all loans [] m.links m.port.history (shut m.port) (history_in_hand loans [] m.port m.links k.books)).course
    (record { fits = s.fits; recent = omega arith; slots = s.slots })

pub left_close : (g : Side) (r : Option CloseError) (h : Side) → Closes g r h → SafeBank g.links → InOrder g.port.loans [] g → Left g h
left_close g r h c safe k =
    let o = closing [] g r h c k in
    goes g.port.closed c
    (λ before. left_still g h before.1 safe k)
    (λ closes. let e = emptied_slots g.port.loans [] closes.1 k in
    left_at g closes.0 h o e.passage.course (ap (λ (x : Side). x.links) closes.3) (ap (λ (x : Side). x.port.id) closes.3 ∙ (all_id closes.0.port.history (shut closes.0.port) ∙ e.passage.course.id))
    (λ s. subst (λ (x : Side). Snug x.port x.links) (sym closes.3) (snug_shut g.port.loans closes.0 e.order s)) safe)

-- PORTS BY THEIR IDS

pub pub_found : (id : PortId) (ps : List Pub) (p : Pub) → pub_of id ps ≡ Some p → same_port p.id id ≡ true
pub_found id [] p e = absurd (let z : ◌≡◌ {A = ℕ} 0 1 = cc in omega arith)
pub_found id (x ∷ xs) p e =
    ⊎_elim
    (λ yes. let f : ◌≡◌ {A = Option Pub} (Some x) (Some p) = sym (cond-true _ _ _ yes) ∙ e in let q : x ≡ p = cc in ap (λ (z : Pub). same_port z.id id) (sym q) ∙ yes)
    (λ no. pub_found id xs p (sym (cond-false _ _ _ no) ∙ e))
    (cases_Bool (same_port x.id id))

pub pub_set : (id : PortId) (q : Pub) (ps : List Pub) (p : Pub) → pub_of id ps ≡ Some p → same_port q.id id ≡ true → pub_of id (with_pub id q ps) ≡ Some q
pub_set id q [] p e s = absurd (let z : ◌≡◌ {A = ℕ} 0 1 = cc in omega arith)
pub_set id q (x ∷ xs) p e s =
    ⊎_elim
    (λ yes. ap (pub_of id) (cond-true _ _ _ yes) ∙ cond-true _ _ _ s)
    (λ no. ap (pub_of id) (cond-false _ _ _ no) ∙ (cond-false _ _ _ no ∙ pub_set id q xs p (sym (cond-false _ _ _ no) ∙ e) s))
    (cases_Bool (same_port x.id id))

-- who is the same as one is not the same as another
same_id : (x y b a : PortId) → same_port x b ≡ true → same_port y b ≡ true → same_port x a ≡ same_port y a
same_id x y b a e f = grind (rules, nat_tests)

apart_from : (x b a : PortId) → same_port x b ≡ true → same_port x a ≡ false → same_port a b ≡ false
apart_from x b a e f = grind (rules, nat_tests)

apart_from' : (x b a : PortId) → same_port x a ≡ true → same_port x b ≡ false → same_port a b ≡ false
apart_from' x b a e f = grind (rules, nat_tests)

both_same : (x b a : PortId) → same_port x b ≡ true → same_port x a ≡ true → same_port a b ≡ true
both_same x b a e f = grind (rules, nat_tests)

-- one id finds what the other does
pub pub_same : (a id : PortId) (ps : List Pub) → same_port a id ≡ true → pub_of a ps ≡ pub_of id ps
pub_same a id [] e = refl
pub_same a id (x ∷ xs) e =
    ap (λ b. cond b (Some x) (pub_of a xs)) (same_other x.id a id e) ∙ ap (cond (same_port x.id id) (Some x)) (pub_same a id xs e)
  where
    same_other : (y b c : PortId) → same_port b c ≡ true → same_port y b ≡ same_port y c
    same_other y b c f = grind (rules, nat_tests)

pub pub_changed : (id a : PortId) (q : Pub) (ps : List Pub) (r : Pub) → same_port q.id id ≡ true → pub_of a (with_pub id q ps) ≡ Some r
    → ((same_port a id ≡ true) × (r ≡ q)) ⊎ ((same_port a id ≡ false) × (pub_of a ps ≡ Some r))
pub_changed id a q [] r s e = absurd (let z : ◌≡◌ {A = ℕ} 0 1 = cc in omega arith)
pub_changed id a q (x ∷ xs) r s e =
    ⊎_elim
    (λ yes. let f = sym (ap (pub_of a) (cond-true _ _ _ yes)) ∙ e in
    ⊎_elim
    (λ here. inl (both_same q.id id a s here, let z : ◌≡◌ {A = Option Pub} (Some q) (Some r) = sym (cond-true _ _ _ here) ∙ f in cc))
    (λ past. inr (apart_from q.id id a s past, cond-false _ _ _ (same_id x.id q.id id a yes s ∙ past) ∙ (sym (cond-false _ _ _ past) ∙ f)))
    (cases_Bool (same_port q.id a)))
    (λ no. let f = sym (ap (pub_of a) (cond-false _ _ _ no)) ∙ e in
    ⊎_elim
    (λ here. inr (apart_from' x.id id a here no, cond-true _ _ _ here ∙ (sym (cond-true _ _ _ here) ∙ f)))
    (λ past. ⊎_elim (λ is. inl is) (λ other. inr (other.0, cond-false _ _ _ past ∙ other.1)) (pub_changed id a q xs r s (sym (cond-false _ _ _ past) ∙ f)))
    (cases_Bool (same_port x.id a)))
    (cases_Bool (same_port x.id id))

others_apart : (r a p id : PortId) → same_port r a ≡ true → same_port p id ≡ true → same_port a id ≡ false → same_port r p ≡ false
others_apart r a p id e f g = grind (rules, nat_tests)

-- A CALL AT A PORT

-- every publisher stays by its settings
pub record Snugs (s : State) : Type 0 where
  pub each : (id : PortId) (p : Pub) → pub_of id s.pubs ≡ Some p → Snug p s.links

record Onward (s t : State) : Type 0 where
  sane : Sane t
  snugs : Snugs s → Snugs t

still : (s t : State) → t ≡ s → Sane s → Onward s t
still s t same n = subst (Onward s) (sym same) (record { sane = n; snugs = λ k. k })

after_call : (s : State) (id : PortId) (p : Pub) (h : Side) → pub_of id s.pubs ≡ Some p → Left (side_of s p) h → Sane s → Onward s (after_pub s id h)
after_call s id p h e l n = record {
  sane = record {
    bank = l.leaves.bank;
    order = each (λ q links. InOrder q.loans [] (record { port = q; links = links })) l.leaves.order (λ a r f ne. l.leaves.others r ne (n.order a r f));
  };
  snugs = λ k. record { each = each Snug (l.snug (k.each id p e)) (λ a r f ne. snug_unmoved r s.links h.links (l.others r.id ne) (k.each a r f)) };
}
  where
    -- what holds of the publisher that was called and of all others
    each : (P : Pub → Places → Type 0) → P h.port h.links → ((a : PortId) (r : Pub) → pub_of a s.pubs ≡ Some r → same_port r.id p.id ≡ false → P r h.links)
        → (a : PortId) (r : Pub) → pub_of a (with_pub id h.port s.pubs) ≡ Some r → P r h.links
    each P here there a r f =
        let own = pub_found id s.pubs p e in
        ⊎_elim
        (λ is. subst (λ (q : Pub). P q h.links) (sym is.1) here)
        (λ other. there a r other.1 (others_apart r.id a p.id id (pub_found a s.pubs r other.1) own other.0))
        (pub_changed id a h.port s.pubs r (ap (λ i. same_port i id) l.id ∙ own) f)

at_pub : (s : State) (id : PortId) (P : Side → Side → Type 0) (a : Answer) (t : State) → AtPub s id P a t → Sane s
    → ((p : Pub) (h : Side) → pub_of id s.pubs ≡ Some p → P (side_of s p) h → t ≡ after_pub s id h → Left (side_of s p) h) → Onward s t
at_pub s id P a t w n l = go (pub_of id s.pubs) refl w
  where
    go : (x : Option Pub) → pub_of id s.pubs ≡ x → MatchOption x ((a ≡ NoSuchPort) × (t ≡ s)) (λ p. (h : Side) × P (side_of s p) h × (t ≡ after_pub s id h)) → Onward s t
    go None e v = still s t v.1 n
    go (Some p) e (h, k, is) = subst (Onward s) (sym is) (after_call s id p h e (l p h e k is) n)

-- what every publisher sees as it was
unmoved_call : (s t : State) → t.pubs ≡ s.pubs → SafeBank t.links → ((id : PortId) → Unmoved id s.links t.links) → Sane s → Onward s t
unmoved_call s t e safe u n = record {
  sane = record { bank = safe; order = λ a r f. unmoved_order r.loans [] r s.links t.links (u r.id) (n.order a r (sym (ap (pub_of a) e) ∙ f)) };
  snugs = λ k. record { each = λ a r f. snug_unmoved r s.links t.links (u r.id) (k.each a r (sym (ap (pub_of a) e) ∙ f)) };
}

at_sub : (s : State) (id : PortId) (P : Half → Half → Type 0) (a : Answer) (t : State) → AtSub s id P a t → Sane s
    → ((u : Sub) (h : Half) → P (half_of s u) h → Stirred s.links h.links) → Onward s t
at_sub s id P a t w n l = go (sub_of id s.subs) w
  where
    go : (x : Option Sub) → MatchOption x ((a ≡ NoSuchPort) × (t ≡ s)) (λ u. (h : Half) × P (half_of s u) h × (t ≡ after_sub s id h)) → Onward s t
    go None v = still s t v.1 n
    go (Some u) (h, k, is) = let st = l u h k in
        subst (Onward s) (sym is) (unmoved_call s (after_sub s id h) refl (st.safe n.bank) (λ i. unmoved_held i s.links h.links st.same) n)

marked_alike : (id : PortId) (ps : Places) (i : ℕ) (x : Mark) → Unmoved id ps (changed ps i (λ l. with_mark l x))
marked_alike id ps i x = record {
  alike = λ j. record {
    details = kept_by (own_details id) (λ l. with_mark l x) (λ l. refl) ps i j;
    holds = λ o. kept_by (held_here id o) (λ l. with_mark l x) (λ l. refl) ps i j;
  };
}

-- EVERY CALL

either : {A B C D : Type 0} (b : Bool) → Goes b A B → (A → C) → (B → D) → Goes b C D
either true v f g = f v
either false v f g = g v

pub returned_id : (p : Pub) (o : PointerOffset) → (return_after p o).id ≡ p.id
returned_id p o = search rules

snug_filled : (g : Side) (o : PointerOffset) (source : List ℕ) → Snug g.port g.links → Snug (fill_after g.port o source) g.links
snug_filled g o source k = record { fits = k.fits; recent = k.recent; slots = k.slots }

snug_returned : (g : Side) (o : PointerOffset) → Snug g.port g.links → Snug (return_after g.port o) g.links
snug_returned g o k = cond_both (is_live g.port o) (unloaned g.port o) g.port (λ q. Snug q g.links) (λ _. record { fits = k.fits; recent = k.recent; slots = k.slots }) (λ _. k)

onward : (s : State) (c : Call) (a : Answer) (t : State) → Step s c a t → Memories t → Sane s → Onward s t
onward s (Loan id size align) a t w m n =
    at_pub s id (λ g h. (r : Result PointerOffset LoanError) × Loans g size align r h × (a ≡ told_loan r)) a t w n
    (λ p h e v is.
    let k = n.order id p e in
    let i = loan_id (side_of s p) size align v.0 h v.1 k in
    let at_id : same_port h.port.id id ≡ true = ap (λ x. same_port x id) i ∙ pub_found id s.pubs p e in
    let mem = m id h.port (ap (λ (x : State). pub_of id x.pubs) is ∙ pub_set id h.port s.pubs p e at_id) in
    left_loan (side_of s p) size align v.0 h v.1 mem n.bank k)
onward s (Fill id o bytes) a t w m n =
    at_pub s id (λ g h. (h ≡ record { port = fill_after g.port o (vec_items bytes); links = g.links }) × (a ≡ told refusals.fill_refusal (fill_refusal g.port o (vec_items bytes)))) a t w n
    (λ p h e v is.
    let g = side_of s p in
    subst (Left g) (sym v.0) (left_same g (beside g (fill_after p o (vec_items bytes))) (calls_keep_order.filling [] g o (vec_items bytes) (n.order id p e)) refl refl (snug_filled g o (vec_items bytes)) n.bank))
onward s (Send id o k list) a t w m n =
    at_pub s id (λ g h. (r : Result ℕ SendError) × Sends (s.handlers id) g o k (vec_items list) r h × (a ≡ told_send r)) a t w n
    (λ p h e v is. left_send (s.handlers id) (side_of s p) o k (vec_items list) v.0 h v.1 n.bank (n.order id p e))
onward s (Return id o) a t w m n =
    at_pub s id (λ g h. (h ≡ record { port = return_after g.port o; links = g.links }) × (a ≡ told refusals.return_refusal (return_refusal g.port o))) a t w n
    (λ p h e v is.
    let g = side_of s p in
    subst (Left g) (sym v.0) (left_same g (beside g (return_after p o)) (calls_keep_order.returning [] g o (n.order id p e)) refl (returned_id p o) (snug_returned g o) n.bank))
onward s (ClosePublisher id) a t w m n =
    at_pub s id (λ g h. (f : Option CloseError) × Closes g f h × (a ≡ told close_refusal f)) a t w n
    (λ p h e v is. left_close (side_of s p) v.0 h v.1 n.bank (n.order id p e))
onward s (Receive id) a t w m n =
    at_sub s id (λ g h. (h ≡ receive_after (translation s) g) × (a ≡ told_receive (receive_answer (translation s) g))) a t w n
    (λ u h v. subst (λ (x : Half). Stirred s.links x.links) (sym v.0) (only_stirred.receiving (translation s) (half_of s u)))
onward s (Release id x) a t w m n =
    at_sub s id (λ g h. (h ≡ release_after g x) × (a ≡ told releasing_refusal (release_fault g x))) a t w n
    (λ u h v. subst (λ (y : Half). Stirred s.links y.links) (sym v.0) (only_stirred.releasing (half_of s u) x))
onward s (Read id x) a t w m n =
    at_sub s id (λ g h. (h ≡ g) × (a ≡ told_read s x (read_refused s g x))) a t w n
    (λ u h v. subst (λ (y : Half). Stirred s.links y.links) (sym v.0) (stir_refl s.links))
onward s (Update id k list) a t w m n =
    at_sub s id (λ g h. (f : Option UpdateError) × Updates (is_known s) g k (vec_items list) f h × (a ≡ told update_refusal f)) a t w n
    (λ u h v. only_stirred.updating (is_known s) (half_of s u) k (vec_items list) v.0 h v.1)
onward s (CloseSubscriber id) a t w m n =
    at_sub s id (λ g h. (h ≡ closed g) × (a ≡ Done)) a t w n
    (λ u h v. subst (λ (y : Half). Stirred s.links y.links) (sym v.0) (only_stirred.closing (half_of s u)))
onward s (SetMark i k) a t w m n =
    let links : State → Places = λ x. x.links in
    let sets : SetsMark s.rigged s.links i k t.links = either (may_set s i) w.1 (λ v. (v.0, v.1, ap links v.2)) (λ e. ap links e) in
    let safe = safe_marked s.rigged s.links i k t.links sets n.bank in
    goes (may_set s i) w.1
    (λ set. unmoved_call s t (ap (λ (x : State). x.pubs) set.2) safe
    (λ b. subst (Unmoved b s.links) (sym (ap links set.2)) (marked_alike b s.links i set.0)) n)
    (λ same. still s t same n)
onward s (SetPace i k) a t w m n = still s t w.1 n

sane_step : (s : State) (c : Call) (a : Answer) (t : State) → Step s c a t → Memories t → Sane s → Sane t
sane_step s c a t w m n = (onward s c a t w m n).sane

pub sane_story : (s : State) (ms : List Moment) (t : State) → Story s ms t → All (λ m. Memories m.after) ms → Sane s → Sane t
sane_story s [] t w m n = subst Sane (sym w) n
sane_story s (x ∷ xs) t w m n =
    let before = sane_story s xs x.before w.2 (λ k d lt. m (suc k) d (omega (arith, lt))) n in
    subst Sane (sym w.0) (sane_step x.before x.call x.answer x.after w.1 (m 0 x (omega arith)) before)

-- and every publisher stays by its settings
pub snug_story : (s : State) (ms : List Moment) (t : State) → Story s ms t → All (λ m. Memories m.after) ms → Sane s → Snugs s → Snugs t
snug_story s [] t w m n k = subst Snugs (sym w) k
snug_story s (x ∷ xs) t w m n k =
    let rest : All (λ m. Memories m.after) xs = λ i d lt. m (suc i) d (omega (arith, lt)) in
    subst Snugs (sym w.0) ((onward x.before x.call x.answer x.after w.1 (m 0 x (omega arith)) (sane_story s xs x.before w.2 rest n)).snugs (snug_story s xs x.before w.2 rest n k))

pub steps_keep_order : StepsKeepOrder
steps_keep_order = record { step = sane_step; story = sane_story }

-- FROM THE BEGINNING

abbrev vacant : Option Connection
vacant = None

-- a new publisher has no connection
no_slot : {A : Type 0} (p : Pub) (i : ℕ) (c : Connection) → NewPub p → slot_at p i ≡ Some c → A
no_slot p i c n e =
    let none : get_or (replicate p.settings.max_subscribers vacant) i vacant ≡ vacant =
    ⊎_elim (λ lt. get_or-replicate p.settings.max_subscribers i vacant vacant lt)
    (λ past. get_or_past (replicate p.settings.max_subscribers vacant) i vacant (omega (arith, past, length-replicate p.settings.max_subscribers vacant)))
    (cases_lt i p.settings.max_subscribers) in
    let f : ◌≡◌ {A = Option Connection} None (Some c) = sym none ∙ (ap (λ xs. get_or xs i vacant) (sym n.slots) ∙ e) in
    absurd (let z : ◌≡◌ {A = ℕ} 0 1 = cc in omega arith)

few_slots : (t : PublisherSettings) → publisher_in_range t ≡ true → t.max_subscribers ≤ 8
few_slots t e = grind (arith, nat_tests)

-- where a place is empty no link is
no_link_there : {A : Type 0} (ps : Places) (i : ℕ) (l : Link) → at ps i ≡ None → at ps i ≡ Some l → A
no_link_there ps i l none e = let f : ◌≡◌ {A = Option Link} None (Some l) = sym none ∙ e in absurd (let z : ◌≡◌ {A = ℕ} 0 1 = cc in omega arith)

new_order : (p : Pub) (ps : Places) → NewPub p → Ledger p.chunks → ((i : ℕ) → at ps i ≡ None) → InOrder p.loans [] (record { port = p; links = ps })
new_order p ps n l none =
    let gs = p.chunks.mem.segments in
    let no_count : (o : ℕ) → count_of p o ≡ 0 = λ o. cond_both (is_chunk gs o) (slice_index (counts_of p.chunks.counts (segment o)) (bucket gs o)) 0 (λ x. x ≡ 0) (λ _. n.counts (segment o) (bucket gs o)) (λ _. refl) in
    let no_link : (o : ℕ) → held_by p.id ps o ≡ 0 = λ o. sum_alike None (held_here p.id o) refl [] ps (λ i. ap (held_here p.id o) (none i)) in
    record {
      books = record {
        ledger = l;
        balance = λ o. omega (arith, no_count o, no_link o, ap (λ os. times os o) n.loans, ap (λ os. times os o) n.history);
        free = λ o. n.free o ∙ ap (nat_lt 0) (sym (no_count o));
        alone = λ o some. absurd (omega (arith, some, ap (λ os. times os o) n.loans));
        once = λ o. omega (arith, ap (λ os. times os o) n.history);
      };
      wired = record {
        own = λ i c e. no_slot p i c n e;
        apart = λ i j c d e f g. no_slot p i c n e;
        cover = λ j e. absurd (false≢true (sym (ap (owns p.id) (none j)) ∙ e));
        few = omega (arith, ap length n.slots, length-replicate p.settings.max_subscribers vacant, few_slots p.settings n.range);
      };
    }

pub sane_new : (s : State) → New s → SetUp s → Sane s
sane_new s n u = record {
  bank = record { sound = record { proper = λ i l e. no_link_there s.links i l (n.links i) e; pairs = λ i j k l lt e f. no_link_there s.links i k (n.links i) e }; unsent = λ i l e. no_link_there s.links i l (n.links i) e };
  order = λ id p e. new_order p s.links (n.pubs p id e) (u id p e) n.links;
}

pub snug_new : (s : State) → New s → Snugs s
snug_new s n = record {
  each = λ id p e. let w = n.pubs p id e in record {
    fits = λ i d own. let f : ◌≡◌ {A = Option LinkDetails} None (Some d) = sym (ap (own_details p.id) (n.links i)) ∙ own in absurd (let z : ◌≡◌ {A = ℕ} 0 1 = cc in omega arith);
    recent = omega (arith, ap length w.history);
    slots = ap length w.slots ∙ length-replicate p.settings.max_subscribers vacant;
  };
}

balanced : (p : Pub) (ps : Places) → SafeBank ps → InOrder p.loans [] (record { port = p; links = ps }) → Balanced p ps
balanced p ps safe k =
    let count : (o : ℕ) → count_of p o ≡ times p.loans o + (times p.history o + held_by p.id ps o) = λ o. omega (arith, k.books.balance o) in
    record {
      count = count;
      taken = k.books.free;
      alone = k.books.alone;
      low = λ o. ⊎_elim
          (λ some. omega (arith, k.books.alone o some))
          (λ none. omega (arith, none, count o, k.books.once o, held_few p ps o safe.sound k.wired))
          (cases_lt 0 (times p.loans o));
    }

pub counts_balance : CountsBalance
counts_balance = record {
  balance = λ s ms t n u w m id p e. let z = sane_story s ms t w m (sane_new s n u) in balanced p t.links z.bank (z.order id p e);
}

pub links_stay_in_order : LinksStayInOrder
links_stay_in_order = record {
  proper = λ s ms t n u w m. (sane_story s ms t w m (sane_new s n u)).bank.sound.proper;
  slot = λ s ms t n u w m id p e j own.
      let k = ((sane_story s ms t w m (sane_new s n u)).order id p e).wired in
      let f = k.cover j own in
      (f.0, (f.1.0, f.1.1, f.1.2, λ i d there same. k.apart i f.0 d f.1.0 there f.1.1 (same ∙ sym f.1.2)));
}
