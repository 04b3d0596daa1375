-- No call of a subscriber changes what the links hold for their senders.
use Rattle.std.proofs.Common.{rules, ◌≡◌, ℕ, zero, suc, ◌+◌, Bool, true, false, cond, List, [], ◌∷◌, length, get_or, drop, is_some, Some, None, Ok, Err, Option, Result, sym, refl, subst}
use Rattle.std.specs.List.{remove}
use Rattle.elementary.specs.declared.port_id.PortId.{PortId}
use Rattle.elementary.specs.declared.pointer_offset.PointerOffset.{PointerOffset}
use Rattle.elementary.specs.declared.port_list.PublisherDetails.{PublisherDetails}
use Rattle.elementary.specs.declared.chunk_details.ChunkDetails.{ChunkDetails}
use Rattle.elementary.specs.declared.link.End.TheVariants.{Receiver}
use Rattle.elementary.specs.declared.error.ReceiveError.{ReceiveError}
use Rattle.elementary.specs.declared.error.UpdateError.{UpdateError}
use Rattle.elementary.specs.declared.error.ZeroCopyReceiveError.{ZeroCopyReceiveError}
use Rattle.elementary.specs.declared.error.ZeroCopyCreationError.{ZeroCopyCreationError}
use Rattle.rules.specs.Publisher.{is_seen, first_of}
use Rattle.rules.specs.Subscriber.{malformed, begun, Stored, Half, with_links, with_expired, key_at, stored_at, has_borrows, dropped, victim, struck, has_room, room_made, listed, busy, key_prepared, prepared, prepare_fault, tag_slot, has_peer, wanted, has_key, stored_new, made_at, MakesBy, link_fault, Enters, entry_fault, stops, is_stale, taken_out, visited, visit_fault, swept, finished, Cycles, Updates, Translation, left, asks, asked, Way, gives, drops, ends, Walk, passed, walk, Walked, onward, walks, expired_walk, Served, served, serve, receive_after, over, release_after, ends_detached}
use Rattle.rules.specs.Pools.{by}
use Rattle.rules.specs.Bank.{Places, receives, received, given_back, MayTake, created, detached, receive_at, release_at, has_data}
use Rattle.rules.specs.Holdings.{Stirred, NothingTakenAway, OnlyStirred}
use Rattle.rules.proofs.Banks.{goes}
use Rattle.rules.proofs.Holdings.{stir_refl, stir_trans, stir_moved, stir_detached, stir_created, stir_turned}

module _ (ps : Places) where
  -- by cases, at a subscriber's records and at places
  half_by : {X : Type 0} (o : Option X) (s : Half) (f : X → Half) → Stirred ps s.links → ((x : X) → Stirred ps (f x).links) → Stirred ps (by o s f).links
  half_by None s f a b = a
  half_by (Some x) s f a b = b x

  half_cond : (b : Bool) (s t : Half) → Stirred ps s.links → Stirred ps t.links → Stirred ps (cond b s t).links
  half_cond true s t a b = a
  half_cond false s t a b = b

  links_by : {X : Type 0} (o : Option X) (qs : Places) (f : X → Places) → Stirred ps qs → ((x : X) → Stirred ps (f x)) → Stirred ps (by o qs f)
  links_by None qs f a b = a
  links_by (Some x) qs f a b = b x

half_like : (ps : Places) (s t : Half) → t ≡ s → Stirred ps s.links → Stirred ps t.links
half_like ps s t e h = subst (λ (x : Half). Stirred ps x.links) (sym e) h

-- PREPARING

stir_dropped : (s : Half) (k : ℕ) → Stirred s.links (dropped s k).links
stir_dropped s k = half_by s.links (stored_at s k) s _ (stir_refl s.links) (λ c. stir_detached s.links c.place)

stir_struck : (s : Half) (n k : ℕ) → Stirred s.links (struck s n k).links
stir_struck s n k = stir_dropped (with_expired s (remove s.port.expired n)) k

stir_room : (s : Half) (b : Bool) → Stirred s.links (room_made s b).links
stir_room s b = half_cond s.links (has_room s) s _ (stir_refl s.links) (half_by s.links (victim s b) s _ (stir_refl s.links) (λ e. stir_struck s e.0 e.1))

stir_listed : (s : Half) (k : ℕ) (b : Bool) → Stirred s.links (listed s k b).links
stir_listed s k b = half_cond s.links (has_room s) _ _ (stir_refl s.links) (half_cond s.links b s _ (stir_refl s.links) (stir_dropped s k))

stir_key : (s : Half) (k : ℕ) → Stirred s.links (key_prepared s k).links
stir_key s k = half_by s.links (stored_at s k) s _ (stir_refl s.links)
    (λ c. let b = has_borrows s.links c.place in half_cond s.links (busy s c) _ _ (stir_trans (stir_room s b) (stir_listed (room_made s b) k b)) (stir_dropped s k))

stir_prepared : (s : Half) (i : ℕ) → Stirred s.links (prepared s i).links
stir_prepared s i = half_by s.links (key_at s i) s (key_prepared s) (stir_refl s.links) (stir_key s)

-- THE END OF A CYCLE

stir_taken_out : (s : Half) (i : ℕ) → Stirred s.links (taken_out s i).links
stir_taken_out s i = half_cond s.links (is_some (prepare_fault s i)) _ _ (stir_prepared s i) (stir_prepared s i)

stir_visited : (s : Half) (i : ℕ) → Stirred s.links (visited s i).links
stir_visited s i = half_cond s.links (is_stale s i) _ s (stir_taken_out s i) (stir_refl s.links)

stir_swept : (m : ℕ) (s : Half) (i : ℕ) → Stirred s.links (swept s i m).half.links
stir_swept zero s i = stir_refl s.links
stir_swept (suc m) s i = go (is_some (visit_fault s i)) (stir_swept m (visited s i) (i + 1))
  where
    go : (b : Bool) → Stirred (visited s i).links (swept (visited s i) (i + 1) m).half.links
        → Stirred s.links (cond b (record { fault = visit_fault s i; half = visited s i }) (swept (visited s i) (i + 1) m)).half.links
    go true h = stir_visited s i
    go false h = stir_trans (stir_visited s i) h

stir_finished : (s : Half) → Stirred s.links (finished s).half.links
stir_finished s = stir_swept (length s.port.slots) s 0

-- RECEIVING

stir_left : (t : Translation) (c : Stored) (r : Result (Option PointerOffset) ZeroCopyReceiveError) (ps : Places) → Stirred ps (left t c r ps)
stir_left t c (Ok None) ps = stir_refl ps
stir_left t c (Ok (Some o)) ps = links_by ps (t c.peer c.segments o) (given_back ps c.place o) (λ a. ps) (stir_moved ps (release_at c.place o)) (λ a. stir_refl ps)
stir_left t c (Err e) ps = stir_refl ps

stir_asked : (t : Translation) (ps : Places) (c : Stored) → Stirred ps (asked t ps c)
stir_asked t ps c = stir_trans (stir_moved ps (receive_at c.place)) (stir_left t c (receives ps c.place) (received ps c.place))

stir_passed : (n k : ℕ) (c : Stored) (qs : Places) (r : Result (Option ChunkDetails) ReceiveError) (rest : Walk) → Stirred qs rest.links → Stirred qs (passed qs n k c r rest).links
stir_passed n k c qs r rest h = search rules

stir_walk : (t : Translation) (st : List (Option Stored)) (ks : List ℕ) (ps : Places) (n : ℕ) → Stirred ps (walk t st ps n ks).links
stir_walk t st [] ps n = stir_refl ps
stir_walk t st (k ∷ ks) ps n = go (get_or st k None) (λ c. stir_walk t st ks (asked t ps c) (n + 1))
  where
    go : (o : Option Stored) → ((c : Stored) → Stirred (asked t ps c) (walk t st (asked t ps c) (n + 1) ks).links)
        → Stirred ps (by o (record { way = drops n k; links = ps }) (λ c. passed (asked t ps c) n k c (asks t ps k c) (walk t st (asked t ps c) (n + 1) ks))).links
    go None h = stir_refl ps
    go (Some c) h = stir_trans (stir_asked t ps c) (stir_passed n k c (asked t ps c) (asks t ps k c) (walk t st (asked t ps c) (n + 1) ks) (h c))

stir_onward : (s : Half) (w : Way) (f : Half → ℕ → Walked) → ((x : Half) (n : ℕ) → Stirred x.links (f x n).half.links) → Stirred s.links (onward s w f).half.links
stir_onward s (gives x) f h = stir_refl s.links
stir_onward s (drops n k) f h = stir_trans (stir_struck s n k) (h (struck s n k) n)
stir_onward s ends f h = stir_refl s.links

stir_walks : (t : Translation) (m : ℕ) (s : Half) (skip : ℕ) → Stirred s.links (walks t s skip m).half.links
stir_walks t zero s skip = stir_refl s.links
stir_walks t (suc m) s skip =
    stir_trans (stir_walk t s.port.storage (drop skip s.port.expired) s.links 0)
    (stir_onward (with_links s (walk t s.port.storage s.links 0 (drop skip s.port.expired)).links) (walk t s.port.storage s.links 0 (drop skip s.port.expired)).way (λ x n. walks t x n m) (λ x n. stir_walks t m x n))

stir_served : (qs : Places) (r : Result (Option ChunkDetails) ReceiveError) (x y : Served) → Stirred qs x.links → Stirred qs y.links → Stirred qs (served qs r x y).links
stir_served qs r x y h k = search rules

stir_serve : (t : Translation) (cs : List (Option Stored)) (ps : Places) (so fr : Bool) (k : ℕ) → Stirred ps (serve t ps so fr k cs).links
stir_serve t [] ps so fr k = stir_refl ps
stir_serve t (None ∷ cs) ps so fr k = stir_serve t cs ps so fr (k + 1)
stir_serve t (Some c ∷ cs) ps so fr k =
    go (has_data ps c.place) (stir_serve t cs ps so fr (k + 1)) (stir_serve t cs (asked t ps c) true fr (k + 1)) (stir_serve t cs (asked t ps c) true true (k + 1))
  where
    go : (b : Bool) → Stirred ps (serve t ps so fr (k + 1) cs).links → Stirred (asked t ps c) (serve t (asked t ps c) true fr (k + 1) cs).links → Stirred (asked t ps c) (serve t (asked t ps c) true true (k + 1) cs).links
        → Stirred ps (cond b (served (asked t ps c) (asks t ps k c) (serve t (asked t ps c) true fr (k + 1) cs) (serve t (asked t ps c) true true (k + 1) cs)) (serve t ps so fr (k + 1) cs)).links
    go true x y z = stir_trans (stir_asked t ps c) (stir_served (asked t ps c) (asks t ps k c) _ _ y z)
    go false x y z = x

stir_receive : (t : Translation) (s : Half) → Stirred s.links (receive_after t s).links
stir_receive t s =
    let w : Stirred s.links (expired_walk t s).half.links = stir_walks t (length s.port.expired) s 0 in
    half_by s.links (expired_walk t s).chunk _ (λ x. (expired_walk t s).half) (stir_trans w (stir_serve t (expired_walk t s).half.port.storage (expired_walk t s).half.links false false 0)) (λ x. w)

stir_release : (s : Half) (x : ChunkDetails) → Stirred s.links (release_after s x).links
stir_release s x = half_by s.links (over s x) s _ (stir_refl s.links) (λ c. stir_moved s.links (release_at c.place x.offset))

stir_all : (cs : List (Option Stored)) (ps : Places) → Stirred ps (ends_detached ps cs)
stir_all [] ps = stir_refl ps
stir_all (None ∷ cs) ps = stir_all cs ps
stir_all (Some c ∷ cs) ps = stir_trans (stir_detached ps c.place) (stir_all cs (detached Receiver ps c.place))

-- UPDATING

stir_made : (s : Half) (e : PublisherDetails) (q : ℕ) → link_fault s e ≡ None → MayTake s.links (wanted s e) q → Stirred s.links (made_at s e q).links
stir_made s e q none may =
    let new = stir_created s.links (wanted s e) q none may in
    half_cond s.links (has_key s) (stored_new s e q) _ new (stir_trans new (stir_detached (created Receiver s.links (wanted s e) q) q))

stir_makes : (f : Option ZeroCopyCreationError) (s : Half) (e : PublisherDetails) (t : Half) → link_fault s e ≡ f → MakesBy f s e t → Stirred s.links t.links
stir_makes None s e t none w = half_like s.links (made_at s e w.0) t w.2 (stir_made s e w.0 none w.1)
stir_makes (Some f) s e t some w = half_like s.links s t w (stir_refl s.links)

stir_begun : (s : Half) (n : ℕ) → Stirred s.links (begun s n).links
stir_begun s n = half_cond s.links _ _ _ (stir_refl s.links) (stir_refl s.links)

stir_tagged : (s : Half) (i : ℕ) → Stirred s.links (tag_slot s i).links
stir_tagged s i = half_by s.links (key_at s i) s _ (stir_refl s.links) (λ k. stir_refl s.links)

stir_enters : (s : Half) (e : PublisherDetails) (t : Half) → Enters s e t → Stirred s.links t.links
stir_enters s e t w =
    let p = prepared s e.place in
    goes (has_peer s e) w (λ same. half_like s.links (tag_slot s e.place) t same (stir_tagged s e.place))
    (λ v. goes (is_some (prepare_fault s e.place)) v (λ same. half_like s.links p t same (stir_prepared s e.place))
    (λ made. stir_trans (stir_prepared s e.place) (stir_makes (link_fault p e) p e t refl made)))

stir_cycles : (es : List PublisherDetails) (s : Half) (p r : Option UpdateError) (t : Half) → Cycles s es p r t → Stirred s.links t.links
stir_cycles [] s p r t w = half_like s.links (finished s).half t w.1 (stir_finished s)
stir_cycles (e ∷ es) s p r t w =
    stir_trans (stir_enters s e w.0 w.1)
    (goes (stops (entry_fault s e)) w.2 (λ v. half_like w.0.links w.0 t v.1 (stir_refl w.0.links)) (λ v. stir_cycles es w.0 (first_of p (entry_fault s e)) r t v))

-- by hand: a search finds it, and takes seconds longer
stir_updates : (known : PortId → Bool) (s : Half) (n : ℕ) (es : List PublisherDetails) (r : Option UpdateError) (t : Half) → Updates known s n es r t → Stirred s.links t.links
stir_updates known s n es r t w =
    goes (is_seen s.port.seen n) w (λ v. half_like s.links s t v.1 (stir_refl s.links))
    (λ v. goes (malformed known (length s.port.slots) es) v (λ bad. half_like s.links s t bad.1 (stir_refl s.links))
    (λ run. stir_trans (stir_begun s n) (stir_cycles es (begun s n) None r t run)))

pub nothing_taken_away : NothingTakenAway
nothing_taken_away = record {
  turning = λ ps qs t. (stir_turned ps qs t).same;
  receiving = λ t s. (stir_receive t s).same;
  releasing = λ s x. (stir_release s x).same;
  updating = λ known s n es r t w. (stir_updates known s n es r t w).same;
  closing = λ s. (stir_all s.port.storage s.links).same;
}

pub only_stirred : OnlyStirred
only_stirred = record { turning = stir_turned; receiving = stir_receive; releasing = stir_release; updating = stir_updates; closing = λ s. stir_all s.port.storage s.links }
