-- A history is the last sends.
use Rattle.std.proofs.Common.{arith, true, false, Bool, cond, ◌&&◌, ◌≡◌, ℕ, suc, ◌+◌, ◌-◌, ◌<◌, eqb, ltb, List, [], ◌∷◌, ◌++◌, length, drop, drop_of_length-le, Some, None, Ok, Err, Option, Result, sym, refl, ap, ◌∙◌, subst, ⊎_elim, vec_items}
use Rattle.std.specs.List.{All}
use Rattle.std.specs.Option.{MatchOption}
use Rattle.std.proofs.lemmas.Bool.{cases_Bool, cases_lt, cond-true, cond-false, cond_both, false≢true, lt-ltb}
use Rattle.std.proofs.lemmas.List.{append-nil, drop-append-le, length-drop, length_push, drop-drop}
use Rattle.container.specs.Queue.{later, overflowed}
use Rattle.elementary.specs.Ids.{same_port}
use Rattle.elementary.specs.declared.port_id.PortId.{PortId}
use Rattle.elementary.specs.declared.pointer_offset.PointerOffset.{PointerOffset}
use Rattle.elementary.specs.declared.port_list.SubscriberDetails.{SubscriberDetails}
use Rattle.elementary.specs.declared.error.LoanError.{LoanError}
use Rattle.elementary.specs.declared.error.AllocationError.{AllocationError}
use Rattle.rules.specs.Memory.{Mem}
use Rattle.std.proofs.lemmas.Bool.Decides.{nat_tests}
use Rattle.elementary.specs.declared.error.CloseError.{CloseError}
use Rattle.elementary.specs.declared.error.SendError.{SendError}
use Rattle.elementary.specs.declared.error.SendError.TheVariants as send
use Rattle.rules.specs.declared.call.Call.{Call}
use Rattle.rules.specs.declared.call.Call.TheVariants.{Loan, Fill, Send, Return, ClosePublisher, Receive, Release, Read, Update, CloseSubscriber, SetMark, SetPace}
use Rattle.rules.specs.declared.call.Answer.{Answer}
use Rattle.rules.specs.declared.call.Answer.TheVariants.{NoSuchPort}
use Rattle.rules.specs.Bank.{Goes, SafeBank}
use Rattle.rules.specs.Publisher.{Pub, Side, Handler, last_of, lent, shut, unloaned, is_live, may_loan, reclaimed_all, Loans, Sends, Closes, fill_after, return_after}
use Rattle.rules.specs.Books.{InOrder}
use Rattle.rules.specs.Exchange.{State, Moment, pub_of, side_of, after_pub, told_send, Step, Story, New}
use Rattle.rules.specs.Sane.{Memories, Sane, was_delivered, sent_by, sends_of, HistoryIsLastSends}
use Rattle.rules.proofs.Banks.{goes}
use Rattle.rules.proofs.Reclaims.{reclaiming_passes}
use Rattle.rules.proofs.Passages.{passage_all}
use Rattle.rules.proofs.Removes.{emptied_slots, history_in_hand}
use Rattle.rules.proofs.Faults.{passed}
use Rattle.rules.proofs.Delivers.{sending_off, sent_nothing, history_with}
use Rattle.rules.proofs.Steps.{pub_found, pub_same, pub_changed, loan_id, left_send, left_close, returned_id, sane_new, sane_story}
use Rattle.rules.proofs.Stays.{sub_pubs, mark_pubs}

-- ONE MORE

later_drop : {X : Type 0} (xs : List X) → later xs ≡ drop 1 xs
later_drop [] = refl
later_drop (x ∷ xs) = refl

-- a push with overflow onto the last n is the last n of one more
push_last : (n : ℕ) (xs : List PointerOffset) (o : PointerOffset) → 0 < n → overflowed n (last_of n xs) o ≡ last_of n (xs ++ o ∷ [])
push_last n xs o some =
    ⊎_elim
    (λ few. let k : length xs - n ≡ 0 = omega arith in
    let m : length (xs ++ o ∷ []) - n ≡ 0 = omega (arith, length_push xs o, few) in
    ap (λ i. overflowed n (drop i xs) o) k ∙ (cond-true _ _ _ (lt-ltb _ _ few) ∙ ap (λ i. drop i (xs ++ o ∷ [])) (sym m)))
    (λ full. let k : ℕ = length xs - n in
    let long : length (drop k xs) ≡ n = omega (arith, length-drop k xs, full) in
    let not_roomy : ltb (length (drop k xs)) n ≡ false = grind (arith, long) in
    let m : k + 1 ≡ length (xs ++ o ∷ []) - n = omega (arith, length_push xs o, full) in
    cond-false _ _ _ not_roomy ∙ (later_drop (drop k xs ++ o ∷ []) ∙ (ap (drop 1) (sym (drop-append-le k xs (o ∷ []) (omega arith))) ∙ (drop-drop 1 k (xs ++ o ∷ []) ∙ ap (λ i. drop i (xs ++ o ∷ [])) m))))
    (cases_lt (length xs) n)

none_last : (xs : List PointerOffset) → last_of 0 xs ≡ []
none_last xs = drop_of_length-le xs (omega arith)

-- WHAT A CALL MAKES OF A HISTORY

-- the history is the last of these, and none once closed
abbrev Told : List PointerOffset → Pub → Type 0
Told xs p = p.history ≡ cond p.closed [] (last_of p.settings.history_size xs)

abbrev Follows : Pub → Pub → List PointerOffset → Type 0
Follows p q os = (xs : List PointerOffset) → Told xs p → Told (xs ++ os) q

follows_same : (p q : Pub) → q.settings ≡ p.settings → q.closed ≡ p.closed → q.history ≡ p.history → Follows p q []
follows_same p q settings closed history xs h =
    history ∙ (h ∙ (ap (λ c. cond c [] (last_of p.settings.history_size xs)) (sym closed) ∙ (ap (λ t. cond q.closed [] (last_of t.history_size xs)) (sym settings)
    ∙ ap (λ ys. cond q.closed [] (last_of q.settings.history_size ys)) (sym (append-nil xs)))))

-- a delivered send is one more
follows_send : (p q : Pub) (o : PointerOffset) → q.settings ≡ p.settings → p.closed ≡ false → q.closed ≡ false → q.history ≡ history_with p o → Follows p q (o ∷ [])
follows_send p q o settings opened still history xs h = go (eqb n 0) refl
  where
    n : ℕ
    n = p.settings.history_size

    was : p.history ≡ last_of n xs
    was = h ∙ cond-false _ _ _ opened

    told : history_with p o ≡ last_of n (xs ++ o ∷ []) → Told (xs ++ o ∷ []) q
    told e = history ∙ (e ∙ (ap (λ t. last_of t.history_size (xs ++ o ∷ [])) (sym settings) ∙ sym (cond-false _ _ _ still)))

    go : (b : Bool) → eqb n 0 ≡ b → Told (xs ++ o ∷ []) q
    go true zero =
        let z : n ≡ 0 = grind (arith, nat_tests, zero) in
        told (cond-true _ _ _ zero ∙ (was ∙ (ap (λ k. last_of k xs) z ∙ (none_last xs ∙ (sym (none_last (xs ++ o ∷ [])) ∙ ap (λ k. last_of k (xs ++ o ∷ [])) (sym z))))))
    go false some =
        let z : 0 < n = grind (arith, nat_tests, some) in
        told (cond-false _ _ _ some ∙ (ap (λ ys. overflowed n ys o) was ∙ push_last n xs o z))

follows_loan : (g : Side) (asked align : ℕ) (r : Result PointerOffset LoanError) (h : Side) → Loans g asked align r h → InOrder g.port.loans [] g → Follows g.port h.port []
follows_loan g asked align r h l k =
    let p = reclaiming_passes g.port.loans [] g k in
    let m = reclaimed_all g in
    let first : Follows g.port m.port [] = follows_same g.port m.port p.course.settings p.closed p.history in
    goes g.port.closed l
    (λ before. follows_same g.port h.port (ap (λ (x : Side). x.port.settings) before.1) (ap (λ (x : Side). x.port.closed) before.1) (ap (λ (x : Side). x.port.history) before.1))
    (λ ready. goes (may_loan g.port) ready
    (λ (a, (n, fault, allocates, answer, is)). let b = lent_same m a n in
    follows_same g.port h.port (ap (λ (x : Side). x.port.settings) is ∙ (b.0 ∙ p.course.settings)) (ap (λ (x : Side). x.port.closed) is ∙ (b.1 ∙ p.closed)) (ap (λ (x : Side). x.port.history) is ∙ (b.2 ∙ p.history)))
    (λ full. subst (λ (x : Side). Follows g.port x.port []) (sym full.1) first))
  where
    lent_same : (m : Side) (a : Result PointerOffset AllocationError) (n : Mem) → ((lent m a n).port.settings ≡ m.port.settings) × ((lent m a n).port.closed ≡ m.port.closed) × ((lent m a n).port.history ≡ m.port.history)
    lent_same m (Ok o) n = (refl, refl, refl)
    lent_same m (Err e) n = (refl, refl, refl)

follows_return : (p : Pub) (o : PointerOffset) → Follows p (return_after p o) []
follows_return p o = cond_both (is_live p o) (unloaned p o) p (λ q. Follows p q []) (λ _. follows_same p (unloaned p o) refl refl refl) (λ _. follows_same p p refl refl refl)

-- once closed there is none
follows_close : (g : Side) (r : Option CloseError) (h : Side) → Closes g r h → InOrder g.port.loans [] g → Follows g.port h.port []
follows_close g r h c k =
    goes g.port.closed c
    (λ before. follows_same g.port h.port (ap (λ (x : Side). x.port.settings) before.1) (ap (λ (x : Side). x.port.closed) before.1) (ap (λ (x : Side). x.port.history) before.1))
    (λ closes. let m : Side = closes.0 in
    let e = emptied_slots g.port.loans [] closes.1 k in
    let d = passage_all g.port.loans [] m.links m.port.history (shut m.port) (history_in_hand g.port.loans [] m.port m.links e.order.books) in
    λ xs _. ap (λ (x : Side). x.port.history) closes.3 ∙ (d.history ∙ sym (cond-true _ _ _ (ap (λ (x : Side). x.port.closed) closes.3 ∙ d.closed))))

-- the answer says whether it was delivered
told_delivered : (r : Result ℕ SendError) → was_delivered (told_send r) ≡ passed r
told_delivered (Ok n) = refl
told_delivered (Err send.LoanNotLive) = refl
told_delivered (Err send.ConnectionBrokenSinceSenderNoLongerExists) = refl
told_delivered (Err send.MalformedList) = refl
told_delivered (Err (send.ConnectionFailure e)) = refl
told_delivered (Err send.InternalError) = refl
told_delivered (Err send.ConnectionCorrupted) = refl
told_delivered (Err send.UnableToDeliver) = refl

-- what is no live loan is not sent
dead_refused : (f : Handler) (g : Side) (o : PointerOffset) (n : ℕ) (es : List SubscriberDetails) (r : Result ℕ SendError) (h : Side) → Sends f g o n es r h → is_live g.port o ≡ false → passed r ≡ false
dead_refused f g o n es r h w dead = go (is_live g.port o) _ dead w
  where
    go : (b : Bool) (A : Type 0) → b ≡ false → Goes b A ((r ≡ Err send.LoanNotLive) × (h ≡ g)) → passed r ≡ false
    go false A e v = ap passed v.0
    go true A e v = absurd (false≢true (sym e))

follows_sent : (f : Handler) (g : Side) (o : PointerOffset) (n : ℕ) (es : List SubscriberDetails) (r : Result ℕ SendError) (h : Side) → Sends f g o n es r h
    → SafeBank g.links → InOrder g.port.loans [] g → Follows g.port h.port (cond (passed r) (o ∷ []) [])
follows_sent f g o n es r h w safe k =
    ⊎_elim
    (λ live. let s = sending_off f g o n es r h w live safe k in
    ⊎_elim
    (λ yes. subst (Follows g.port h.port) (sym (cond-true _ _ _ yes))
    (let opened : g.port.closed ≡ false = open_where (passed r) g.port.closed yes s.opened in
    follows_send g.port h.port o s.course.settings opened (s.closed ∙ opened) (s.history ∙ cond-true _ _ _ yes)))
    (λ none. subst (Follows g.port h.port) (sym (cond-false _ _ _ none)) (follows_same g.port h.port s.course.settings s.closed (s.history ∙ cond-false _ _ _ none)))
    (cases_Bool (passed r)))
    (λ dead. let same = sent_nothing f g o n es r h w dead in
    subst (Follows g.port h.port) (sym (cond-false _ _ _ (dead_refused f g o n es r h w dead)))
    (follows_same g.port h.port (ap (λ (x : Side). x.port.settings) same) (ap (λ (x : Side). x.port.closed) same) (ap (λ (x : Side). x.port.history) same)))
    (cases_Bool (is_live g.port o))
  where
    open_where : (a b : Bool) → a ≡ true → (b ≡ true → a ≡ false) → b ≡ false
    open_where a true e h = absurd (false≢true (sym (h refl) ∙ e))
    open_where a false e h = refl

-- EVERY CALL

at_call : (s : State) (i : PortId) (B : Pub → Side → Type 0) (a : Answer) (t : State)
    → MatchOption (pub_of i s.pubs) ((a ≡ NoSuchPort) × (t ≡ s)) (λ x. (h : Side) × B x h × (t ≡ after_pub s i h))
    → (id : PortId) (xs os : List PointerOffset) → ((p : Pub) → pub_of id s.pubs ≡ Some p → Told xs p) → (same_port id i ≡ false → os ≡ []) → (a ≡ NoSuchPort → os ≡ [])
    → ((x : Pub) (h : Side) → pub_of i s.pubs ≡ Some x → B x h → (h.port.id ≡ x.id) × (same_port id i ≡ true → Follows x h.port os))
    → (q : Pub) → pub_of id t.pubs ≡ Some q → Told (xs ++ os) q
at_call s i B a t w id xs os told other nowhere l q g = go (pub_of i s.pubs) refl w
  where
    without : (p : Pub) → os ≡ [] → Told xs p → Told (xs ++ os) p
    without p e h = subst (λ ys. Told ys p) (sym (ap (λ ys. xs ++ ys) e ∙ append-nil xs)) h

    go : (y : Option Pub) → pub_of i s.pubs ≡ y → MatchOption y ((a ≡ NoSuchPort) × (t ≡ s)) (λ x. (h : Side) × B x h × (t ≡ after_pub s i h)) → Told (xs ++ os) q
    go None e v = without q (nowhere v.0) (told q (sym (ap (λ (z : State). pub_of id z.pubs) v.1) ∙ g))
    go (Some x) e (h, b, is) =
        let k = l x h e b in
        ⊎_elim
        (λ own. subst (Told (xs ++ os)) (sym own.1) (k.1 own.0 xs (told x (pub_same id i s.pubs own.0 ∙ e))))
        (λ elsewhere. without q (other elsewhere.0) (told q elsewhere.1))
        (pub_changed i id h.port s.pubs q (ap (λ z. same_port z i) k.0 ∙ pub_found i s.pubs x e) (sym (ap (λ (z : State). pub_of id z.pubs) is) ∙ g))

as_before : (s t : State) (id : PortId) (xs : List PointerOffset) → t.pubs ≡ s.pubs → ((p : Pub) → pub_of id s.pubs ≡ Some p → Told xs p) → (q : Pub) → pub_of id t.pubs ≡ Some q → Told (xs ++ []) q
as_before s t id xs same told q g = subst (λ ys. Told ys q) (sym (append-nil xs)) (told q (sym (ap (pub_of id) same) ∙ g))

history_step : (s : State) (c : Call) (a : Answer) (t : State) → Step s c a t → Sane s → (id : PortId) (xs : List PointerOffset) → ((p : Pub) → pub_of id s.pubs ≡ Some p → Told xs p)
    → (q : Pub) → pub_of id t.pubs ≡ Some q → Told (xs ++ sent_by id c a) q
history_step s (Loan i size align) a t w n id xs told =
    at_call s i _ a t w id xs [] told (λ _. refl) (λ _. refl) (λ x h e b.
    let k = n.order i x e in (loan_id (side_of s x) size align b.0 h b.1 k, λ _. follows_loan (side_of s x) size align b.0 h b.1 k))
history_step s (Fill i y bytes) a t w n id xs told =
    at_call s i _ a t w id xs [] told (λ _. refl) (λ _. refl) (λ x h e b.
    (ap (λ (z : Side). z.port.id) b.0, λ _. subst (λ (z : Side). Follows x z.port []) (sym b.0) (follows_same x (fill_after x y (vec_items bytes)) refl refl refl)))
history_step s (Send i y k list) a t w n id xs told =
    at_call s i _ a t w id xs (sent_by id (Send i y k list) a) told
    (λ ne. cond-false _ _ _ (and_left_false _ _ ne)) (λ none. cond-false _ _ _ (and_right_false _ _ (ap was_delivered none))) (λ x h e b.
    let o = n.order i x e in (
      (left_send (s.handlers i) (side_of s x) y k (vec_items list) b.0 h b.1 n.bank o).id,
      λ own. subst (Follows x h.port) (ap (λ z. cond z (y ∷ []) []) (sym (and_left_true _ _ own ∙ (ap was_delivered b.2 ∙ told_delivered b.0)))) (follows_sent (s.handlers i) (side_of s x) y k (vec_items list) b.0 h b.1 n.bank o),
    ))
  where
    and_left_false : (p q : Bool) → p ≡ false → (p && q) ≡ false
    and_left_false p q e = ap (λ z. z && q) e

    and_right_false : (p q : Bool) → q ≡ false → (p && q) ≡ false
    and_right_false true q e = e
    and_right_false false q e = refl

    and_left_true : (p q : Bool) → p ≡ true → (p && q) ≡ q
    and_left_true p q e = ap (λ z. z && q) e
history_step s (Return i y) a t w n id xs told =
    at_call s i _ a t w id xs [] told (λ _. refl) (λ _. refl) (λ x h e b.
    (ap (λ (z : Side). z.port.id) b.0 ∙ returned_id x y, λ _. subst (λ (z : Side). Follows x z.port []) (sym b.0) (follows_return x y)))
history_step s (ClosePublisher i) a t w n id xs told =
    at_call s i _ a t w id xs [] told (λ _. refl) (λ _. refl) (λ x h e b.
    let o = n.order i x e in ((left_close (side_of s x) b.0 h b.1 n.bank o).id, λ _. follows_close (side_of s x) b.0 h b.1 o))
history_step s (Receive i) a t w n id xs told = as_before s t id xs (sub_pubs s i _ a t w) told
history_step s (Release i x) a t w n id xs told = as_before s t id xs (sub_pubs s i _ a t w) told
history_step s (Read i x) a t w n id xs told = as_before s t id xs (sub_pubs s i _ a t w) told
history_step s (Update i k list) a t w n id xs told = as_before s t id xs (sub_pubs s i _ a t w) told
history_step s (CloseSubscriber i) a t w n id xs told = as_before s t id xs (sub_pubs s i _ a t w) told
history_step s (SetMark i k) a t w n id xs told = as_before s t id xs (mark_pubs s i k a t w) told
history_step s (SetPace i k) a t w n id xs told = as_before s t id xs (ap (λ (z : State). z.pubs) w.1) told

-- A RUN

history_story : (s : State) (ms : List Moment) (t : State) → Story s ms t → All (λ m. Memories m.after) ms → Sane s → New s → (id : PortId) (p : Pub) → pub_of id t.pubs ≡ Some p → Told (sends_of id ms) p
history_story s [] t w m n new id p e =
    let z = new.pubs p id (sym (ap (λ (x : State). pub_of id x.pubs) w) ∙ e) in
    z.history ∙ sym (cond_both p.closed [] (last_of p.settings.history_size []) (λ ys. ys ≡ []) (λ _. refl) (λ _. drop_of_length-le [] (omega arith)))
history_story s (x ∷ xs) t w m n new id p e =
    let rest : All (λ m. Memories m.after) xs = λ k d lt. m (suc k) d (omega (arith, lt)) in
    history_step x.before x.call x.answer x.after w.1 (sane_story s xs x.before w.2 rest n) id (sends_of id xs) (λ q f. history_story s xs x.before w.2 rest n new id q f) p
    (sym (ap (λ (z : State). pub_of id z.pubs) w.0) ∙ e)

pub history_is_last_sends : HistoryIsLastSends
history_is_last_sends = record { history = λ s ms t new up w m id p e. history_story s ms t w m (sane_new s new up) new id p e }
