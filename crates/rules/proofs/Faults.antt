-- By what a list may be refused, and by what a round.
use Rattle.std.proofs.Common.{true, false, Bool, not, nat_lt, ◌≡◌, ℕ, ◌&&◌, List, length, Some, None, Ok, Err, Option, Result, refl, ap, ◌∙◌}
use Rattle.std.proofs.lemmas.Bool.{cond_both}
use Rattle.elementary.specs.declared.pointer_offset.PointerOffset.{PointerOffset}
use Rattle.elementary.specs.declared.port_list.SubscriberDetails.{SubscriberDetails}
use Rattle.elementary.specs.declared.settings.PublisherSettings.{PublisherSettings}
use Rattle.elementary.specs.declared.backpressure.BackpressureAction.{BackpressureAction}
use Rattle.elementary.specs.declared.backpressure.BackpressureAction.TheVariants as action
use Rattle.elementary.specs.declared.backpressure.BackpressureStrategy.{BackpressureStrategy}
use Rattle.elementary.specs.declared.backpressure.BackpressureStrategy.TheVariants as strategy
use Rattle.elementary.specs.declared.backpressure.DegradationAction.{DegradationAction}
use Rattle.elementary.specs.declared.backpressure.DegradationAction.TheVariants.{Ignore, Warn, DegradeAndFail}
use Rattle.elementary.specs.declared.error.SendError.{SendError}
use Rattle.elementary.specs.declared.error.SendError.TheVariants as send
use Rattle.elementary.specs.declared.error.ZeroCopySendError.{ZeroCopySendError}
use Rattle.elementary.specs.declared.error.ZeroCopySendError.TheVariants as sending
use Rattle.elementary.specs.declared.error.ZeroCopyCreationError.{ZeroCopyCreationError}
use Rattle.rules.specs.Pools.{by}
use Rattle.rules.specs.Bank.{sends}
use Rattle.rules.specs.Publisher.{Connection, Side, Going, Verdict, accepts, passes, fails, tries_again, Handler, followed, acted, within_budget, degraded, has_receiver, judged, verdict, is_corrupted, is_internal, ended, Tries, tried, turned, Rounds, done, skipped, stopped, next, Delivers, counts, is_seen, malformed, Updates}
use Rattle.rules.proofs.Banks.{goes}

abbrev pub at_delivery : SendError → Bool
at_delivery send.LoanNotLive = false
at_delivery send.ConnectionBrokenSinceSenderNoLongerExists = false
at_delivery send.MalformedList = false
at_delivery (send.ConnectionFailure e) = false
at_delivery send.InternalError = true
at_delivery send.ConnectionCorrupted = true
at_delivery send.UnableToDeliver = true

-- whether a send came to its delivery
abbrev pub passed : Result ℕ SendError → Bool
passed (Ok n) = true
passed (Err e) = at_delivery e

-- WHAT A ROUND FAILS BY

abbrev own_fault : Option SendError → Bool
own_fault None = true
own_fault (Some e) = at_delivery e

abbrev own_verdict : Verdict → Bool
own_verdict (accepts e) = true
own_verdict passes = true
own_verdict (fails e) = at_delivery e
own_verdict tries_again = true

within_own : (t : PublisherSettings) (n : ℕ) (v : Verdict) → own_verdict v ≡ true → own_verdict (within_budget t n v) ≡ true
within_own t n (accepts e) h = refl
within_own t n passes h = refl
within_own t n (fails e) h = h
within_own t n tries_again h = cond_both (nat_lt n t.max_retries) tries_again (fails send.UnableToDeliver) (λ v. own_verdict v ≡ true) (λ _. refl) (λ _. refl)

followed_own : (x : BackpressureStrategy) → own_verdict (followed x) ≡ true
followed_own strategy.RetryUntilDelivered = refl
followed_own strategy.DiscardData = refl

acted_own : (t : PublisherSettings) (a : BackpressureAction) → own_verdict (acted t a) ≡ true
acted_own t action.FollowBackpressureStrategy = followed_own t.backpressure_strategy
acted_own t action.Retry = refl
acted_own t action.DiscardData = refl
acted_own t action.DiscardDataAndFail = refl

degraded_own : (d : DegradationAction) → own_verdict (degraded d) ≡ true
degraded_own Ignore = refl
degraded_own Warn = refl
degraded_own DegradeAndFail = refl

judged_own : (f : Handler) (g : Side) (c : Connection) (n : ℕ) (r : Result (Option PointerOffset) ZeroCopySendError) → own_verdict (judged f g c n r) ≡ true
judged_own f g c n (Ok e) = refl
judged_own f g c n (Err sending.NotConnected) = refl
judged_own f g c n (Err sending.InternalError) = refl
judged_own f g c n (Err sending.ConnectionCorrupted) = degraded_own g.port.settings.degradation_action
judged_own f g c n (Err sending.UsedChunkListFull) = refl
judged_own f g c n (Err sending.ReceiveBufferFull) =
    let t = g.port.settings in
    let a : BackpressureAction = f (record { sender_port_id = g.port.id; receiver_port_id = c.peer; retries = n }) in
    cond_both (has_receiver g.links c.place) (within_budget t n (acted t a)) passes (λ v. own_verdict v ≡ true) (λ _. within_own t n (acted t a) (acted_own t a)) (λ _. refl)

ended_own : (a : Going) (c : Connection) (o : PointerOffset) (v : Verdict) → own_fault a.fault ≡ true → own_verdict v ≡ true → own_fault (ended a c o v).fault ≡ true
ended_own a c o (accepts e) h k = h
ended_own a c o passes h k = h
ended_own a c o (fails e) h k = cond_both (is_corrupted a.fault && not (is_internal (Some e))) a.fault (Some e) (λ x. own_fault x ≡ true) (λ _. h) (λ _. k)
ended_own a c o tries_again h k = h

tries_own : (f : Handler) (o : PointerOffset) (c : Connection) {n : ℕ} {a b : Going} → Tries f o c n a b → own_fault a.fault ≡ true → own_fault b.fault ≡ true
tries_own f o c {n} {a} (tried _ is) h = ap (λ (x : Going). own_fault x.fault) is ∙ ended_own a c o (verdict f a.side c o n) h (judged_own f a.side c n (sends a.side.links c.place o))
tries_own f o c (turned _ _ _ rest) h = tries_own f o c rest h

rounds_own : (f : Handler) (o : PointerOffset) {ss : List (Option Connection)} {a b : Going} → Rounds f o ss a b → own_fault a.fault ≡ true → own_fault b.fault ≡ true
rounds_own f o (done is) h = ap (λ (x : Going). own_fault x.fault) is ∙ h
rounds_own f o (skipped rest) h = rounds_own f o rest h
rounds_own f o (stopped {c = c} t _) h = tries_own f o c t h
rounds_own f o (next {c = c} t _ rest) h = rounds_own f o rest (tries_own f o c t h)

by_fault : (n : ℕ) (x : Option SendError) → own_fault x ≡ true → passed (by x (Ok n) (λ e. Err e)) ≡ true
by_fault n None h = refl
by_fault n (Some e) h = h

pub delivers_passed : (f : Handler) (g : Side) (o : PointerOffset) (r : Result ℕ SendError) (h : Side) → Delivers f g o r h → passed r ≡ true
delivers_passed f g o r h (b, run, answer, _) = ap passed answer ∙ by_fault b.got b.fault (rounds_own f o run refl)

-- WHAT A LIST IS REFUSED BY

abbrev pub list_fault : Option SendError → Bool
list_fault None = true
list_fault (Some e) = not (at_delivery e)

counts_fault : (d : DegradationAction) (x : Option ZeroCopyCreationError) → list_fault (counts d x) ≡ true
counts_fault d None = refl
counts_fault Ignore (Some e) = refl
counts_fault Warn (Some e) = refl
counts_fault DegradeAndFail (Some e) = refl

pub updates_fault : (g : Side) (n : ℕ) (es : List SubscriberDetails) (x : Option SendError) (h : Side) → Updates g n es x h → list_fault x ≡ true
updates_fault g n es x h w =
    goes (is_seen g.port.seen n) w
    (λ (none, _). ap list_fault none)
    (λ v. goes (malformed (length g.port.slots) es) v (λ (bad, _). ap list_fault bad) (λ (y, (m, run, sweeps, is)). ap list_fault is ∙ counts_fault g.port.settings.degradation_action y))
