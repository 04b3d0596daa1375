-- A list of subscribers keeps a publisher in order.
use Rattle.std.proofs.Common.{rules, arith, ◌≡◌, ℕ, ◌+◌, ◌<◌, ◌≤◌, Bool, true, false, List, [], ◌∷◌, length, Some, None, Option, sym, refl, ap, ◌∙◌, subst}
use Rattle.std.specs.Option.{option_map}
use Rattle.std.proofs.lemmas.List.{get_or-set_same, length-set, length-map}
use Rattle.elementary.specs.declared.pointer_offset.PointerOffset.{PointerOffset}
use Rattle.elementary.specs.declared.port_list.SubscriberDetails.{SubscriberDetails}
use Rattle.elementary.specs.declared.error.ZeroCopyCreationError.{ZeroCopyCreationError}
use Rattle.elementary.specs.declared.error.SendError.{SendError}
use Rattle.elementary.specs.declared.error.SendError.TheVariants as send
use Rattle.rules.specs.Links.{times}
use Rattle.rules.specs.Bank.{Goes, Places, SafeBank}
use Rattle.rules.specs.Publisher.{Pub, Side, slot_at, Removes, tagged, tag_slot, has_peer, Enters, Entries, is_stale, Sweeps, swept, visited, begun, is_seen, malformed, Cycles, Updates}
use Rattle.rules.specs.Books.{InOrder, beside}
use Rattle.rules.proofs.Banks.{goes}
use Rattle.rules.proofs.Passages.{Passage, passage_refl, passage_trans}
use Rattle.rules.proofs.Reclaims.{all_slots}
use Rattle.rules.proofs.Removes.{slot_there, removing, removing_passes}
use Rattle.rules.proofs.Cycles.{tagging, beginning, sweeping}
use Rattle.rules.proofs.Connects.{Joined, connecting}

-- SLOTS AND TAGS

-- a publisher with other slots, cycle and list seen
reslotted : (p q : Pub) (ps : Places) → q.id ≡ p.id → q.settings ≡ p.settings → q.bytes ≡ p.bytes → q.loans ≡ p.loans → q.history ≡ p.history → q.closed ≡ p.closed
    → length q.slots ≡ length p.slots → q.chunks ≡ p.chunks → Passage (record { port = p; links = ps }) (record { port = q; links = ps })
reslotted p q ps id settings bytes loans history closed slots chunks = search rules

tag_passes : (g : Side) (i : ℕ) → Passage g (beside g (tag_slot g.port i))
tag_passes g i = reslotted g.port (tag_slot g.port i) g.links refl refl refl refl refl refl (length-set g.port.slots i (option_map (tagged g.port.cycle) (slot_at g.port i))) refl

begun_passes : (g : Side) (n : ℕ) → Passage g (beside g (begun g.port n))
begun_passes g n = grind (arith, length-map)

-- the slot of a removed link is empty
vacated : (g : Side) (i : ℕ) (h : Side) → Removes g i h → slot_at h.port i ≡ None
vacated g i h r = grind (arith, all_slots, get_or-set_same, slot_there)

-- ONE ENTRY

entering : (loans hand : List PointerOffset) (g : Side) (e : SubscriberDetails) (f : Option ZeroCopyCreationError) (h : Side) → Enters g e f h → e.place < length g.port.slots
    → SafeBank g.links → ((o : ℕ) → times hand o ≤ 1) → InOrder loans hand g → Joined loans hand g h
entering loans hand g e f h w lt safe single k =
    goes (has_peer e.port_id (slot_at g.port e.place)) w
    (λ has. subst (Joined loans hand g) (sym has.1) (record { order = tagging loans hand g e.place k; passage = tag_passes g e.place }))
    (λ new. let m = new.0 in
    let p = removing_passes loans hand g e.place m new.1 k in
    let j = connecting loans hand m e h new.3 (omega (arith, lt, p.course.slots)) (vacated g e.place m new.1) (p.course.bank safe) single (removing loans hand g e.place m new.1 k) in
    record { order = j.order; passage = passage_trans p j.passage })

-- an entry of a well-formed list names a slot
names_slot : (n : ℕ) (e : SubscriberDetails) (es : List SubscriberDetails) → malformed n (e ∷ es) ≡ false → (e.place < n) × (malformed n es ≡ false)
names_slot n e es ok = search rules

entries : (loans hand : List PointerOffset) (es : List SubscriberDetails) (g : Side) (f : Option ZeroCopyCreationError) (h : Side) → Entries g es f h
    → malformed (length g.port.slots) es ≡ false → SafeBank g.links → ((o : ℕ) → times hand o ≤ 1) → InOrder loans hand g → Joined loans hand g h
entries loans hand [] g f h w ok safe single k = subst (Joined loans hand g) (sym w.1) (record { order = k; passage = passage_refl g })
entries loans hand (e ∷ es) g f h (x, (y, (m, enters, rest, _))) ok safe single k =
    let n = names_slot (length g.port.slots) e es ok in
    let a = entering loans hand g e x m enters n.0 safe single k in
    let b = entries loans hand es m y h rest (ap (λ z. malformed z es) a.passage.course.slots ∙ n.1) (a.passage.course.bank safe) single a.order in
    record { order = b.order; passage = passage_trans a.passage b.passage }

-- THE CYCLE

sweep_passes : (loans hand : List PointerOffset) (i n : ℕ) (g h : Side) → Sweeps i n g h → InOrder loans hand g → Passage g h
sweep_passes loans hand i n g h (swept z same) k = subst (Passage g) (sym same) (passage_refl g)
sweep_passes loans hand i _ g h (visited {n = n} {m = m} v rest) k =
    goes (is_stale g.port i) v
    (λ r. passage_trans (removing_passes loans hand g i m r k) (sweep_passes loans hand (i + 1) n m h rest (removing loans hand g i m r k)))
    (λ same. passage_trans (subst (Passage g) (sym same) (passage_refl g)) (sweep_passes loans hand (i + 1) n m h rest (subst (InOrder loans hand) (sym same) k)))

begun_slots : (p : Pub) (n : ℕ) → length (begun p n).slots ≡ length p.slots
begun_slots p n = (begun_passes (record { port = p; links = [] }) n).course.slots

cycling : (loans hand : List PointerOffset) (g : Side) (n : ℕ) (es : List SubscriberDetails) (f : Option SendError) (h : Side) → Cycles g n es f h
    → malformed (length g.port.slots) es ≡ false → SafeBank g.links → ((o : ℕ) → times hand o ≤ 1) → InOrder loans hand g → Joined loans hand g h
cycling loans hand g n es f h (x, (m, run, sweeps, _)) ok safe single k =
    let s = beside g (begun g.port n) in
    let a = entries loans hand es s x m run (ap (λ z. malformed z es) (begun_slots g.port n) ∙ ok) safe single (beginning loans hand g n k) in
    record {
      order = sweeping loans hand 0 (length m.port.slots) m h sweeps a.order;
      passage = passage_trans (begun_passes g n) (passage_trans a.passage (sweep_passes loans hand 0 (length m.port.slots) m h sweeps a.order));
    }

pub updating : (loans hand : List PointerOffset) (g : Side) (n : ℕ) (es : List SubscriberDetails) (f : Option SendError) (h : Side) → Updates g n es f h
    → SafeBank g.links → ((o : ℕ) → times hand o ≤ 1) → InOrder loans hand g → Joined loans hand g h
updating loans hand g n es f h w safe single k =
    goes (is_seen g.port.seen n) w (λ v. still v.1) (λ v. formed (malformed (length g.port.slots) es) refl v)
  where
    still : h ≡ g → Joined loans hand g h
    still same = subst (Joined loans hand g) (sym same) (record { order = k; passage = passage_refl g })

    formed : (b : Bool) → malformed (length g.port.slots) es ≡ b → Goes b ((f ≡ Some send.MalformedList) × (h ≡ g)) (Cycles g n es f h) → Joined loans hand g h
    formed true bad v = still v.1
    formed false ok v = cycling loans hand g n es f h v ok safe single k
