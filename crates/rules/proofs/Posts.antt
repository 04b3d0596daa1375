-- Sending to one link keeps a publisher in order.
use Rattle.std.proofs.Common.{rules, arith, true, false, Bool, cond, ◌≡◌, ℕ, zero, suc, ◌+◌, ◌<◌, ◌≤◌, List, [], ◌∷◌, ◌++◌, length, get_or, set, Some, None, Ok, Err, sum_by, Option, Result, sym, refl, ap, ◌∙◌, ⊎_elim}
use Rattle.std.specs.Option.{option_to_list, option_map}
use Rattle.std.proofs.lemmas.Option.{none-some}
use Rattle.std.proofs.lemmas.List.Sums.{sum_by-le-sum_by, count_by-le-length, sum_by-cons, sum_by-set}
use Rattle.std.proofs.lemmas.List.{get_or-set_same, get_or-set_other, get_or_past, set_past}
use Rattle.std.proofs.lemmas.Bool.{cases_lt, cond_both, false≢true}
use Rattle.container.specs.Queue.{roomy, later, oldest, overflowed, evicted}
use Rattle.elementary.specs.declared.port_id.PortId.{PortId}
use Rattle.elementary.specs.declared.pointer_offset.PointerOffset.{PointerOffset}
use Rattle.elementary.specs.declared.link.Mark.{Mark}
use Rattle.elementary.specs.declared.error.ZeroCopySendError.{ZeroCopySendError}
use Rattle.elementary.specs.declared.error.ZeroCopySendError.TheVariants as sending
use Rattle.rules.specs.Books.{owns, mine, held_here, held_by, count_of, Books, Wired, InOrder, CallsKeepOrder}
use Rattle.rules.specs.Pools.{by}
use Rattle.rules.specs.Links.{Link, attached, listed, times, marked_send, send_answer, send_after}
use Rattle.rules.specs.Bank.{Places, at, sends, sent, SoundBank}
use Rattle.rules.specs.Publisher.{Connection, Pub, Side, slot_at, hold, let_go_if, taken_up}
use Rattle.rules.proofs.Views.{kept_by, own_details, unmoved_changed}
use Rattle.rules.proofs.Offsets.{one, times_cons, times_append, times_push, times_split, absent_times}
use Rattle.rules.proofs.Banks.{listed_times, accepted}
use Rattle.rules.proofs.Safe.{safe_sent}
use Rattle.rules.proofs.Keep.{holding, moving}
use Rattle.rules.proofs.Passages.{Passage, passage_trans, passage_hold, evict, passage_evict, passage_links, fits_unmoved}
use Rattle.rules.proofs.Reclaims.{held_set, reclaiming, filling, returning}
use Rattle.rules.proofs.Lends.{loaning}
use Rattle.rules.proofs.Removes.{rewired, slot_there, removing, closing}
use Rattle.rules.proofs.Cycles.{beginning, tagging, sweeping}

-- ONE LINK

-- what comes in and what leaves
pub overflowed_evicted : (n : ℕ) (xs : List PointerOffset) (x : PointerOffset) (o : ℕ) → times (overflowed n xs x) o + times (option_to_list (evicted n xs x)) o ≡ times xs o + one x o
overflowed_evicted n xs x o = go (roomy n xs)
  where
    go : (b : Bool) → times (cond b (xs ++ x ∷ []) (later (xs ++ x ∷ []))) o + times (option_to_list (cond b None (oldest (xs ++ x ∷ [])))) o ≡ times xs o + one x o
    go true = omega (arith, times_push xs x o)
    go false = omega (arith, times_push xs x o, times_split (xs ++ x ∷ []) o)

abbrev payload : Result (Option PointerOffset) ZeroCopySendError → Option PointerOffset
payload (Ok e) = e
payload (Err f) = None

answer_is : (a : Bool) (m : Mark) (l : Link) (o : PointerOffset) (e : Option PointerOffset) → cond a (marked_send m l o) (Err sending.NotConnected) ≡ Ok e
    → evicted l.details.buffer_size l.waiting o ≡ e
answer_is a m l o e h = search rules

sent_times : (l : Link) (o : PointerOffset) (e : Option PointerOffset) (x : ℕ) → send_answer l o ≡ Ok e
    → times (listed (send_after l o)) x + times (option_to_list e) x ≡ times (listed l) x + one o x
sent_times l o e x h =
    let n = l.details.buffer_size in
    grind (arith, answer_is (attached l.sender_end) l.mark l o e h, overflowed_evicted n l.waiting o x, listed_times (send_after l o) x, listed_times l x)

here_sent : (id : PortId) (ps : Places) (i : ℕ) (o : PointerOffset) (e : Option PointerOffset) (x : ℕ) → owns id (at ps i) ≡ true → sends ps i o ≡ Ok e
    → held_here id x (option_map (λ l. send_after l o) (at ps i)) + times (option_to_list e) x ≡ held_here id x (at ps i) + one o x
here_sent id ps i o e x h k = grind (arith, sent_times)

-- POSTING

if_id : (p : Pub) (e : Option PointerOffset) → (let_go_if p e).id ≡ p.id
if_id p e = search rules

pub if_slots : (p : Pub) (e : Option PointerOffset) → (let_go_if p e).slots ≡ p.slots
if_slots p e = search rules

pub record Posted (loans hand : List PointerOffset) (g h : Side) : Type 0 where
  pub order : InOrder loans hand h
  pub passage : Passage g h
  pub slots : h.port.slots ≡ g.port.slots

-- a link that takes the chunk is one holder more, and what it evicts has one less
one_post : (loans hand : List PointerOffset) (g : Side) (i : ℕ) (o : PointerOffset) (e : Option PointerOffset) → owns g.port.id (at g.links i) ≡ true
    → sends g.links i o ≡ Ok e → 0 < count_of g.port o.value → count_of g.port o.value < 10 → times loans o.value ≡ 0
    → InOrder loans hand g → Posted loans hand g (taken_up g i o (Ok e))
one_post loans hand g i o e own takes some few lent k =
    let p = g.port in
    let ps = g.links in
    let qs : Places = sent ps i o in
    let after : Link → Link = λ l. send_after l o in
    let same : (x : ℕ) → held_by p.id qs x + times (option_to_list e ++ hand) x ≡ held_by p.id ps x + times (o ∷ hand) x
    = λ x. omega (arith, held_set p.id ps i (option_map after (at ps i)) x own, here_sent p.id ps i o e x own takes, times_append (option_to_list e) hand x, times_cons o hand x) in
    let w = k.wired in
    let out : Books loans (option_to_list e ++ hand) (hold p o) qs
    = moving loans (o ∷ hand) (option_to_list e ++ hand) (hold p o) ps qs same (holding loans hand p ps o k.books some few lent) in
    record {
      order = record {
        books = evict loans hand qs e (hold p o) out;
        wired = rewired p (let_go_if (hold p o) e) qs (if_id (hold p o) e) (if_slots (hold p o) e)
            (record { own = λ j c s. kept_by (owns p.id) after (λ _. refl) ps i c.place ∙ w.own j c s; apart = w.apart; cover = λ j e'. w.cover j (sym (kept_by (owns p.id) after (λ _. refl) ps i j) ∙ e'); few = w.few });
      };
      passage = passage_trans (passage_hold loans hand ps o p k.books some few)
          (passage_trans
          (passage_links (hold p o) ps qs (safe_sent ps i o) (fits_unmoved (hold p o) ps qs (kept_by (own_details p.id) after (λ _. refl) ps i)) (λ a ne. unmoved_changed a p.id ps i after (λ _. refl) ne own))
          (passage_evict loans hand qs e (hold p o) out));
      slots = if_slots (hold p o) e;
    }

-- HOW MANY MAY HOLD ONE CHUNK

-- how often a slot's link holds a chunk
abbrev pub slot_holds : PortId → ℕ → Places → Option Connection → ℕ
slot_holds id o ps x = by x 0 (λ c. held_here id o (at ps c.place))

nothing_owned : (id : PortId) (o : ℕ) (ps : Places) → ((j : ℕ) → owns id (at ps j) ≡ true → ⊥) → held_by id ps o ≤ 0
nothing_owned id o [] h = omega arith
nothing_owned id o (x ∷ ps) h = omega (arith, sum_by-cons (held_here id o) x ps, nothing_owned id o ps (λ j. h (suc j)), here x (h 0))
  where
    here : (y : Option Link) → (owns id y ≡ true → ⊥) → held_here id o y ≤ 0
    here y f = search rules

-- one place emptied
emptied_place : (id : PortId) (o : ℕ) (ps : Places) (i : ℕ) → held_by id ps o ≤ held_by id (set ps i None) o + held_here id o (at ps i)
emptied_place id o ps i = grind (arith, sum_by-set, set_past)

none_there : (ps : Places) (i : ℕ) → at (set ps i None) i ≡ None
none_there ps i = grind (arith, get_or-set_same, set_past, get_or_past)

emptied_less : (id : PortId) (o : ℕ) (ps : Places) (i : ℕ) (xs : List (Option Connection)) → sum_by (slot_holds id o (set ps i None)) xs ≤ sum_by (slot_holds id o ps) xs
emptied_less id o ps i xs = sum_by-le-sum_by (slot_holds id o (set ps i None)) (slot_holds id o ps) xs here
  where
    here : (y : Option Connection) → slot_holds id o (set ps i None) y ≤ slot_holds id o ps y
    here y = search (rules, none_there, get_or-set_other)

-- all that hold a chunk are links of slots
pub slots_hold : (id : PortId) (o : ℕ) (xs : List (Option Connection)) (ps : Places)
    → ((j : ℕ) → owns id (at ps j) ≡ true → (i : ℕ) × ((c : Connection) × (get_or xs i None ≡ Some c) × (c.place ≡ j)))
    → held_by id ps o ≤ sum_by (slot_holds id o ps) xs
slots_hold id o [] ps cover = nothing_owned id o ps (λ j e. let f = cover j e in none-some f.1.0 f.1.1)
slots_hold id o (None ∷ xs) ps cover =
    omega (arith, sum_by-cons (slot_holds id o ps) None xs, slots_hold id o xs ps (λ j e. let f = cover j e in later_slot j f.0 f.1.0 f.1.1 f.1.2))
  where
    later_slot : (j i : ℕ) (c : Connection) → get_or (None ∷ xs) i None ≡ Some c → c.place ≡ j → (i : ℕ) × ((c : Connection) × (get_or xs i None ≡ Some c) × (c.place ≡ j))
    later_slot j i c e p = search rules
slots_hold id o (Some d ∷ xs) ps cover =
    omega (
      arith,
      sum_by-cons (slot_holds id o ps) (Some d) xs,
      emptied_place id o ps d.place,
      emptied_less id o ps d.place xs,
      slots_hold id o xs (set ps d.place None) (λ j e. rest j e),
    )
  where
    later_slot : (j i : ℕ) (c : Connection) → (j ≡ d.place → ⊥) → get_or (Some d ∷ xs) i None ≡ Some c → c.place ≡ j → (i : ℕ) × ((c : Connection) × (get_or xs i None ≡ Some c) × (c.place ≡ j))
    later_slot j i c ne e p = search rules

    rest : (j : ℕ) → owns id (at (set ps d.place None) j) ≡ true → (i : ℕ) × ((c : Connection) × (get_or xs i None ≡ Some c) × (c.place ≡ j))
    rest j e =
        let other : j ≡ d.place → ⊥ = λ same. false≢true (sym (ap (owns id) (none_there ps d.place)) ∙ (ap (λ k. owns id (at (set ps d.place None) k)) (sym same) ∙ e)) in
        let f = cover j (ap (owns id) (sym (get_or-set_other ps d.place j None None other)) ∙ e) in
        later_slot j f.0 f.1.0 other f.1.1 f.1.2

-- at most one each
at_most_all : {X : Type 0} (f : X → ℕ) (xs : List X) → ((x : X) → f x ≤ 1) → sum_by f xs ≤ length xs
at_most_all f xs most = omega (arith, sum_by-le-sum_by f (λ _. 1) xs most, count_by-le-length (λ _. true) xs)

-- and none in one of them
one_without : {X : Type 0} (f : X → ℕ) (d : X) (xs : List X) (k : ℕ) → ((x : X) → f x ≤ 1) → k < length xs → f (get_or xs k d) ≡ 0 → sum_by f xs + 1 ≤ length xs
one_without f d [] k most lt e = absurd (omega arith)
one_without f d (x ∷ xs) zero most lt e = omega (arith, sum_by-cons f x xs, e, at_most_all f xs most)
one_without f d (x ∷ xs) (suc k) most lt e = omega (arith, sum_by-cons f x xs, most x, one_without f d xs k most (omega arith) e)

-- a link that takes a chunk did not hold it
untaken : (id : PortId) (ps : Places) (i : ℕ) (o : PointerOffset) (e : Option PointerOffset) → sends ps i o ≡ Ok e → held_here id o.value (at ps i) ≡ 0
untaken id ps i o e = through (at ps i)
  where
    through : (x : Option Link) → by x (Err sending.NotConnected) (λ l. send_answer l o) ≡ Ok e → held_here id o.value x ≡ 0
    through None h = refl
    through (Some l) h =
        grind (arith, accepted l o, listed_times l o.value, absent_times l.waiting o, absent_times l.borrowed o, absent_times l.returned o)

at_most_one : (id : PortId) (ps : Places) (o : ℕ) → SoundBank ps → (x : Option Connection) → slot_holds id o ps x ≤ 1
at_most_one id ps o s None = omega arith
at_most_one id ps o s (Some c) = through (at ps c.place) refl
  where
    through : (y : Option Link) → at ps c.place ≡ y → held_here id o y ≤ 1
    through None e = omega arith
    through (Some l) e = cond_both (mine id l) (times (listed l) o) 0 (λ n. n ≤ 1) (λ _. (s.proper c.place l e).once o) (λ _. omega arith)

-- no chunk is held by more links than there are slots
pub held_few : (p : Pub) (ps : Places) (o : ℕ) → SoundBank ps → Wired p ps → held_by p.id ps o ≤ 8
held_few p ps o sound w =
    omega (arith, slots_hold p.id o p.slots ps w.cover, at_most_all (slot_holds p.id o ps) p.slots (at_most_one p.id ps o sound), w.few)

pub posted : (loans hand : List PointerOffset) (g : Side) (s : ℕ) (c : Connection) (o : PointerOffset) (e : Option PointerOffset) → slot_at g.port s ≡ Some c
    → sends g.links c.place o ≡ Ok e → SoundBank g.links → 0 < times g.port.history o.value + times hand o.value → times hand o.value ≤ 1
    → InOrder loans hand g → Posted loans hand g (taken_up g c.place o (Ok e)) × (count_of g.port o.value < 10)
posted loans hand g s c o e there takes sound kept single k =
    let p = g.port in
    let v = o.value in
    let b = k.books in
    let w = k.wired in
    let not_lent : times loans v ≡ 0 = ⊎_elim (λ some. absurd (omega (arith, b.balance v, b.alone v some, some, kept))) (λ none. omega (arith, none)) (cases_lt 0 (times loans v)) in
    let holders = slots_hold p.id v p.slots g.links w.cover in
    let without_this = one_without (slot_holds p.id v g.links) None p.slots s (at_most_one p.id g.links v sound) (slot_there p.slots s c there)
    (ap (slot_holds p.id v g.links) there ∙ untaken p.id g.links c.place o e takes) in
    let some : 0 < count_of p v = omega (arith, b.balance v, kept) in
    let few : count_of p v < 10 = omega (arith, b.balance v, not_lent, b.once v, holders, without_this, w.few, single) in
    (one_post loans hand g c.place o e (w.own s c there) takes some few not_lent k, few)

pub posting : (loans hand : List PointerOffset) (g : Side) (s : ℕ) (c : Connection) (o : PointerOffset) (e : Option PointerOffset) → slot_at g.port s ≡ Some c
    → sends g.links c.place o ≡ Ok e → SoundBank g.links → 0 < times g.port.history o.value + times hand o.value → times hand o.value ≤ 1
    → InOrder loans hand g → InOrder loans hand (taken_up g c.place o (Ok e)) × (count_of g.port o.value < 10)
posting loans hand g s c o e there takes sound kept single k = let r = posted loans hand g s c o e there takes sound kept single k in (r.0.order, r.1)

-- EVERY CALL SO FAR

pub calls_keep_order : CallsKeepOrder
calls_keep_order = record {
  reclaiming = reclaiming;
  removing = removing;
  posting = posting;
  beginning = beginning;
  tagging = tagging;
  sweeping = sweeping;
  loaning = loaning;
  filling = filling;
  returning = returning;
  closing = closing;
}
