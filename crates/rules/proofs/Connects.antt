-- A new link, with the history that it gets, keeps a publisher in order.
use Rattle.std.proofs.Common.{rules, arith, true, false, cond, ◌≡◌, ℕ, ◌+◌, ◌-◌, ◌<◌, ◌≤◌, eqb, ◌⊎◌, List, [], ◌∷◌, length, get_or, set, is_some, Some, None, Ok, Err, fold, Option, Result, sym, refl, ap, ◌∙◌, subst, ⊎_elim, MatchOption}
use Rattle.std.proofs.lemmas.Bool.Decides.{nat_tests}
use Rattle.std.proofs.lemmas.List.Sums.{sum_by-take-drop, sum_by-set}
use Rattle.std.proofs.lemmas.List.{get_or-set_same, get_or-set_other, length-set}
use Rattle.std.proofs.lemmas.Bool.{cases_eq, cond-true, and_parts, false≢true}
use Rattle.elementary.specs.declared.port_id.PortId.{PortId}
use Rattle.elementary.specs.declared.pointer_offset.PointerOffset.{PointerOffset}
use Rattle.elementary.specs.declared.port_list.SubscriberDetails.{SubscriberDetails}
use Rattle.elementary.specs.declared.link.LinkDetails.{LinkDetails}
use Rattle.elementary.specs.declared.link.Standing.{Standing}
use Rattle.elementary.specs.declared.link.Event.TheVariants.{Attach}
use Rattle.elementary.specs.declared.link.End.TheVariants.{Sender}
use Rattle.elementary.specs.declared.error.ZeroCopySendError.{ZeroCopySendError}
use Rattle.elementary.specs.declared.error.ZeroCopyCreationError.{ZeroCopyCreationError}
use Rattle.rules.specs.Pools.{by}
use Rattle.rules.specs.Links.{Link, attached, never, next_standing, stepped, fresh, listed, times}
use Rattle.rules.specs.Bank.{Places, at, sends, first, connects, agree, create_fault, MayTake, SafeBank}
use Rattle.rules.specs.Publisher.{Connection, Side, slot_at, with_slots, wanted, connect_fault, taken_up, handed, last_of, connected, Connects, reclaimed_all}
use Rattle.rules.specs.Books.{mine, held_here, held_by, owns, Wired, InOrder}
use Rattle.rules.proofs.Offsets.{one_self, times_cons}
use Rattle.rules.proofs.Banks.{creatable, first_found}
use Rattle.rules.proofs.Safe.{safe_created}
use Rattle.rules.proofs.Views.{none_held, foreign, not_mine, unmoved_set}
use Rattle.rules.proofs.Passages.{Passage, Fits, shape_refl, passage_refl, passage_trans}
use Rattle.rules.proofs.Reclaims.{reclaiming, reclaiming_passes, reclaimed_slots}
use Rattle.rules.proofs.Posts.{Posted, posted}

-- THE NEW LINK

-- what is there of a link that a sender end was just attached to
record Fresh (id : PortId) (d : LinkDetails) (x : Option Link) (l : Link) : Type 0 where
  was : (a : PortId) → owns a x ≡ false
  now : mine id l ≡ true
  empty : (o : ℕ) → times (listed l) o ≡ 0
  buffer : l.details.buffer_size ≡ d.buffer_size
  borrow : l.details.max_borrowed_samples ≡ d.max_borrowed_samples

attach_never : (s : Standing) → never s ≡ true → attached (next_standing s Attach) ≡ true
attach_never s e = search rules

-- a link that a sender end never had is nobody's
nobody's : (l : Link) → never l.sender_end ≡ true → (a : PortId) → owns a (Some l) ≡ false
nobody's l e a = search rules

-- a link that may be joined has the settings that were asked for
join_agrees : (ps : Places) (d : LinkDetails) (l : Link) → create_fault Sender ps d ≡ None → first (connects d) ps < length ps → at ps (first (connects d) ps) ≡ Some l
    → agree l.details d ≡ true
join_agrees ps d l e lt here = search (rules, creatable)

newly : (id : PortId) (ps : Places) (d : LinkDetails) (q : ℕ) → d.sender_port_id ≡ id → SafeBank ps → create_fault Sender ps d ≡ None → MayTake ps d q
    → Fresh id d (at ps q) (stepped Sender Attach (by (at ps q) (fresh d) (λ k. k)))
newly id ps d q sender safe e may = grind (arith, nat_tests, first_found, creatable)

-- A SLOT FILLED

-- a slot's connection and its link, where there were none
abbrev joined_at : Side → ℕ → Connection → Link → Side
joined_at g i c l = record { port = with_slots g.port (set g.port.slots i (Some c)); links = set g.links c.place (Some l) }

slot_now : (xs : List (Option Connection)) (i : ℕ) (c : Connection) (j : ℕ) (d : Connection) → i < length xs → get_or (set xs i (Some c)) j None ≡ Some d
    → ((j ≡ i) × (d ≡ c)) ⊎ ((j ≡ i → ⊥) × (get_or xs j None ≡ Some d))
slot_now xs i c j d lt e = search rules

wire_joined : (g : Side) (i : ℕ) (c : Connection) (l : Link) → i < length g.port.slots → c.place < length g.links → slot_at g.port i ≡ None
    → ((a : PortId) → owns a (at g.links c.place) ≡ false) → mine g.port.id l ≡ true → Wired g.port g.links → Wired (joined_at g i c l).port (joined_at g i c l).links
wire_joined g i c l lt within vacant was now w = record {
  own = λ j d e. grind (arith, slot_now xs i c j d lt e, get_or-set_same ps q (Some l) None within, get_or-set_other ps q d.place (Some l) None, elsewhere j d, w.own j d, now);
  apart = λ j k d f a b e. grind (arith, slot_now xs i c j d lt a, slot_now xs i c k f lt b, elsewhere k f, elsewhere j d, w.apart j k d f);
  cover = λ j e. ⊎_elim
      (λ same. (i, (c, get_or-set_same xs i (Some c) None lt, sym same)))
      (λ other. let f = w.cover j (ap (owns id) (sym (get_or-set_other ps q j (Some l) None other)) ∙ e) in
      let ne : f.0 ≡ i → ⊥ = λ same. false≢true (ap is_some (sym vacant ∙ (ap (λ k. get_or xs k None) (sym same) ∙ f.1.1))) in
      (f.0, (f.1.0, get_or-set_other xs i f.0 (Some c) None ne ∙ f.1.1, f.1.2)))
      (cases_eq j q);
  few = omega (arith, length-set xs i (Some c), w.few);
}
  where
    id : PortId
    id = g.port.id

    xs : List (Option Connection)
    xs = g.port.slots

    ps : Places
    ps = g.links

    q : ℕ
    q = c.place

    qs : Places
    qs = set ps q (Some l)

    elsewhere : (j : ℕ) (d : Connection) → get_or xs j None ≡ Some d → d.place ≡ q → ⊥
    elsewhere j d e same = false≢true (sym (was id) ∙ (ap (λ k. owns id (at ps k)) (sym same) ∙ w.own j d e))

join_order : (loans hand : List PointerOffset) (g : Side) (i : ℕ) (c : Connection) (d : LinkDetails) (l : Link) → i < length g.port.slots → c.place < length g.links
    → slot_at g.port i ≡ None → Fresh g.port.id d (at g.links c.place) l → InOrder loans hand g → InOrder loans hand (joined_at g i c l)
join_order loans hand g i c d l lt within vacant f k =
    let p = g.port in
    let ps = g.links in
    let b = k.books in
    let same : (o : ℕ) → held_by p.id (set ps c.place (Some l)) o ≡ held_by p.id ps o
    = λ o. let z : held_here p.id o (Some l) ≡ 0 = cond-true _ _ _ f.now ∙ f.empty o in
    omega (arith, sum_by-set (held_here p.id o) ps c.place (Some l) None within, z, (none_held p.id (at ps c.place) (f.was p.id)).1 o) in
    record {
      books = record { ledger = b.ledger; balance = λ o. omega (arith, b.balance o, same o); free = b.free; alone = b.alone; once = b.once };
      wired = wire_joined g i c l lt within vacant f.was f.now k.wired;
    }

join_passes : (g : Side) (i : ℕ) (c : Connection) (d : LinkDetails) (l : Link) → c.place < length g.links → Fresh g.port.id d (at g.links c.place) l
    → (SafeBank g.links → SafeBank (set g.links c.place (Some l))) → d.buffer_size ≤ g.port.settings.subscriber_max_buffer_size
    → d.max_borrowed_samples ≡ g.port.settings.subscriber_max_borrowed_samples → Passage g (joined_at g i c l)
join_passes g i c d l within f safe small limit = record {
  course = record {
    id = refl;
    settings = refl;
    bytes = refl;
    slots = length-set g.port.slots i (Some c);
    shape = shape_refl g.port.chunks.mem;
    fewer = λ o h. h;
    bank = safe;
    fits = fits;
    recent = λ r. r;
    others = λ a ne. unmoved_set a ps q (Some l) (foreign a (at ps q) (Some l) (f.was a) (not_mine a g.port.id l ne (and_parts (attached l.sender_end) _ f.now).1));
  };
  loans = refl;
  history = refl;
  closed = refl;
}
  where
    ps : Places
    ps = g.links

    q : ℕ
    q = c.place

    fits : Fits g.port ps → Fits (joined_at g i c l).port (set ps q (Some l))
    fits h j e is = grind (arith, get_or-set_same ps q (Some l) None within, get_or-set_other ps q j (Some l) None, f.now, f.buffer, f.borrow, h j e, small, limit)

-- THE HISTORY HANDED ON

pub take_up : (loans hand : List PointerOffset) (g : Side) (s : ℕ) (c : Connection) (o : PointerOffset) (r : Result (Option PointerOffset) ZeroCopySendError) → slot_at g.port s ≡ Some c
    → sends g.links c.place o ≡ r → SafeBank g.links → 0 < times g.port.history o.value + times hand o.value → times hand o.value ≤ 1
    → InOrder loans hand g → Posted loans hand g (taken_up g c.place o r)
take_up loans hand g s c o (Ok e) there takes safe kept single k = (posted loans hand g s c o e there takes safe.sound kept single k).0
take_up loans hand g s c o (Err f) there takes safe kept single k = record { order = k; passage = passage_refl g; slots = refl }

hand_over : (loans hand : List PointerOffset) (g : Side) (s : ℕ) (c : Connection) (o : PointerOffset) → slot_at g.port s ≡ Some c → SafeBank g.links
    → 0 < times g.port.history o.value → times hand o.value ≤ 1 → InOrder loans hand g → Posted loans hand g (handed c.place g o)
hand_over loans hand g s c o there safe kept single k =
    let m = reclaimed_all g in
    let p = reclaiming_passes loans hand g k in
    let same = reclaimed_slots loans hand g k in
    let some : 0 < times m.port.history o.value + times hand o.value = omega (arith, ap (λ h. times h o.value) p.history, kept) in
    let r = take_up loans hand m s c o (sends m.links c.place o) (ap (λ xs. get_or xs s None) same ∙ there) refl (p.course.bank safe) some single (reclaiming loans hand g k) in
    record { order = r.order; passage = passage_trans p r.passage; slots = r.slots ∙ same }

hand_all : (loans hand : List PointerOffset) (os : List PointerOffset) (g : Side) (s : ℕ) (c : Connection) → slot_at g.port s ≡ Some c → SafeBank g.links
    → ((o : PointerOffset) → 0 < times os o.value → 0 < times g.port.history o.value) → ((o : ℕ) → times hand o ≤ 1) → InOrder loans hand g
    → Posted loans hand g (fold (handed c.place) g os)
hand_all loans hand [] g s c there safe kept single k = record { order = k; passage = passage_refl g; slots = refl }
hand_all loans hand (o ∷ os) g s c there safe kept single k =
    let a = hand_over loans hand g s c o there safe (kept o (omega (arith, times_cons o os o.value, one_self o))) (single o.value) k in
    let h = handed c.place g o in
    let b = hand_all loans hand os h s c (ap (λ xs. get_or xs s None) a.slots ∙ there) (a.passage.course.bank safe)
    (λ x some. let z = kept x (omega (arith, times_cons o os x.value, some)) in omega (arith, ap (λ l. times l x.value) a.passage.history, z)) single a.order in
    record { order = b.order; passage = passage_trans a.passage b.passage; slots = b.slots ∙ a.slots }

-- CONNECTING

pub record Joined (loans hand : List PointerOffset) (g h : Side) : Type 0 where
  pub order : InOrder loans hand h
  pub passage : Passage g h

small_buffer : (g : Side) (e : SubscriberDetails) → connect_fault g e ≡ None
    → (e.buffer_size ≤ g.port.settings.subscriber_max_buffer_size) × (create_fault Sender g.links (wanted g.port e) ≡ None)
small_buffer g e none = search rules

connect : (loans hand : List PointerOffset) (g : Side) (e : SubscriberDetails) (q : ℕ) → connect_fault g e ≡ None → MayTake g.links (wanted g.port e) q
    → e.place < length g.port.slots → slot_at g.port e.place ≡ None → SafeBank g.links → ((o : ℕ) → times hand o ≤ 1) → InOrder loans hand g
    → Joined loans hand g (connected g e q)
connect loans hand g e q none may lt vacant safe single k =
    let d = wanted g.port e in
    let b = small_buffer g e none in
    let c : Connection = record { peer = e.port_id; place = q; tag = g.port.cycle } in
    let l = stepped Sender Attach (by (at g.links q) (fresh d) (λ z. z)) in
    let f = newly g.port.id g.links d q refl safe b.1 may in
    let m = joined_at g e.place c l in
    let p = join_passes g e.place c d l may.within f (safe_created Sender g.links d q b.1 may) b.0 refl in
    let r = hand_all loans hand (last_of e.buffer_size g.port.history) m e.place c (get_or-set_same g.port.slots e.place (Some c) None lt) (p.course.bank safe)
    (λ o some. omega (arith, sum_by-take-drop (λ (x : PointerOffset). cond (eqb x.value o.value) 1 0) g.port.history (length g.port.history - e.buffer_size), some)) single
    (join_order loans hand g e.place c d l lt may.within vacant f k) in
    record { order = r.order; passage = passage_trans p r.passage }

pub connecting : (loans hand : List PointerOffset) (g : Side) (e : SubscriberDetails) (h : Side) → Connects g e h
    → e.place < length g.port.slots → slot_at g.port e.place ≡ None → SafeBank g.links → ((o : ℕ) → times hand o ≤ 1) → InOrder loans hand g → Joined loans hand g h
connecting loans hand g e h w lt vacant safe single k = through (connect_fault g e) refl w
  where
    through : (x : Option ZeroCopyCreationError) → connect_fault g e ≡ x
        → MatchOption x ((q : ℕ) × MayTake g.links (wanted g.port e) q × (h ≡ connected g e q)) (λ f. h ≡ g) → Joined loans hand g h
    through None none (q, may, is) = subst (Joined loans hand g) (sym is) (connect loans hand g e q none may lt vacant safe single k)
    through (Some f) some is = subst (Joined loans hand g) (sym is) (record { order = k; passage = passage_refl g })
