-- Removing links and closing keep a publisher in order.
use Rattle.std.proofs.Common.{rules, arith, true, false, cond, ◌≡◌, ℕ, ◌+◌, ◌<◌, eqb, List, ◌++◌, length, get_or, set, Some, None, Option, sym, refl, ap, ◌∙◌, subst, ⊎_elim, MatchOption}
use Rattle.std.specs.List.Sorted.{IsPermutation}
use Rattle.std.proofs.lemmas.Bool.{false≢true}
use Rattle.std.proofs.lemmas.Option.{none-some}
use Rattle.std.proofs.lemmas.List.{get_or-set_same, get_or-set_other, length-set}
use Rattle.std.proofs.lemmas.List.Sorted.{sum_by-IsPermutation}
use Rattle.elementary.specs.declared.port_id.PortId.{PortId}
use Rattle.elementary.specs.declared.pointer_offset.PointerOffset.{PointerOffset}
use Rattle.elementary.specs.declared.link.Standing.{Standing}
use Rattle.elementary.specs.declared.link.Event.TheVariants.{Detach}
use Rattle.elementary.specs.declared.link.End.TheVariants.{Sender}
use Rattle.elementary.specs.declared.error.CloseError.{CloseError}
use Rattle.rules.specs.Pools.{by}
use Rattle.rules.specs.Links.{Link, attached, next_standing, stepped, times}
use Rattle.rules.specs.Bank.{Places, at, kept, detached, held_at}
use Rattle.rules.specs.Publisher.{Connection, Pub, Side, slot_at, with_slots, let_go_all, Removes, Empties, none, one, shut, Closes}
use Rattle.rules.specs.Books.{held_here, held_by, Books, owns, Wired, InOrder}
use Rattle.rules.proofs.Banks.{goes}
use Rattle.rules.proofs.Lists.{within, set_cases}
use Rattle.rules.proofs.Offsets.{times_append}
use Rattle.rules.proofs.Safe.{safe_detached}
use Rattle.rules.proofs.Keep.{moving}
use Rattle.rules.proofs.Views.{unmoved_set, none_held, foreign, not_owned_by_other}
use Rattle.rules.proofs.Passages.{Passage, Fits, passage_refl, passage_trans, all_go, passage_all, passage_links}
use Rattle.rules.proofs.Reclaims.{owned_there, held_set, all_id, all_slots, all_loans}

-- ONE LINK

detached_end : (s : Standing) → attached (next_standing s Detach) ≡ false
detached_end s = search rules

-- a link whose sender end is gone is nobody's, and holds nothing for anybody
not_owned : (id : PortId) (l : Link) → attached l.sender_end ≡ false → owns id (kept l) ≡ false
not_owned id l e = search rules

holds_nothing : (id : PortId) (o : ℕ) (l : Link) → attached l.sender_end ≡ false → held_here id o (kept l) ≡ 0
holds_nothing id o l e = search rules

here_removed : (id : PortId) (ps : Places) (i o : ℕ) → owns id (at ps i) ≡ true
    → held_here id o (by (at ps i) None (λ l. kept (stepped Sender Detach l))) + times (held_at ps i) o ≡ held_here id o (at ps i)
here_removed id ps i o h = search rules

-- ONE SLOT

pub slot_there : (xs : List (Option Connection)) (i : ℕ) (c : Connection) → get_or xs i None ≡ Some c → i < length xs
slot_there xs i c e = within xs i None (λ none. none-some c (sym none ∙ e))

-- what stands in a slot when another was emptied
slot_back : (xs : List (Option Connection)) (i : ℕ) (c : Connection) → get_or xs i None ≡ Some c
    → (j : ℕ) (d : Connection) → get_or (set xs i None) j None ≡ Some d → (j ≡ i → ⊥) × (get_or xs j None ≡ Some d)
slot_back xs i c there j d e =
    ⊎_elim (λ new. absurd (none-some d (sym new.1 ∙ e))) (λ old. (old.0 (slot_there xs i c there), sym old.1 ∙ e)) (set_cases xs i None None j)

-- REMOVING

-- the slots and the id that a publisher has decide how it is wired
pub rewired : (p q : Pub) (ps : Places) → q.id ≡ p.id → q.slots ≡ p.slots → Wired p ps → Wired q ps
rewired p q ps id slots w = search rules

abbrev pub place_of : Option Connection → ℕ
place_of x = by x 0 (λ c. c.place)

-- a place whose sender end was detached is no publisher's any more
no_longer_owned : (id : PortId) (x : Option Link) → owns id (by x None (λ l. kept (stepped Sender Detach l))) ≡ false
no_longer_owned id x = search rules

released_place : (id : PortId) (ps : Places) (i : ℕ) → owns id (at ps i) ≡ true → owns id (at (detached Sender ps i) i) ≡ false
released_place id ps i e = grind (arith, get_or-set_same, owned_there)

unwired : (p : Pub) (ps : Places) (i : ℕ) (c : Connection) → slot_at p i ≡ Some c → Wired p ps → Wired (with_slots p (set p.slots i None)) (detached Sender ps c.place)
unwired p ps i c there w =
    let back = slot_back p.slots i c there in
    record {
      own = λ j d e. grind (arith, back j d e, get_or-set_other, w.apart j i d c, w.own j d);
      apart = λ j k d f a b. w.apart j k d f (back j d a).1 (back k f b).1;
      cover = λ j e. let other : j ≡ c.place → ⊥ = λ same. false≢true (sym (released_place p.id ps c.place (w.own i c there)) ∙ (ap (λ k. owns p.id (at (detached Sender ps c.place) k)) (sym same) ∙ e)) in
          let f = w.cover j (ap (owns p.id) (sym (get_or-set_other ps c.place j _ None other)) ∙ e) in
          let elsewhere : f.0 ≡ i → ⊥ = λ same. other (sym f.1.2 ∙ ap place_of (sym f.1.1 ∙ (ap (slot_at p) same ∙ there))) in
          (f.0, (f.1.0, get_or-set_other p.slots i f.0 None None elsewhere ∙ f.1.1, f.1.2));
      few = omega (arith, length-set p.slots i None, w.few);
    }

-- the slot is emptied, and then the sender end detached
slot_emptied : (p : Pub) (ps : Places) (i : ℕ) → Passage (record { port = p; links = ps }) (record { port = with_slots p (set p.slots i None); links = ps })
slot_emptied p ps i = search rules

detached_passes : (p : Pub) (ps : Places) (i : ℕ) → owns p.id (at ps i) ≡ true → Passage (record { port = p; links = ps }) (record { port = p; links = detached Sender ps i })
detached_passes p ps i own = passage_links p ps (detached Sender ps i) (safe_detached Sender ps i) fits
    (λ a ne. unmoved_set a ps i _ (foreign a (at ps i) _ (not_owned_by_other a p.id (at ps i) ne own) (no_longer_owned a (at ps i))))
  where
    fits : Fits p ps → Fits p (detached Sender ps i)
    fits f j d e = grind (arith, none_held p.id (at (detached Sender ps i) i) (released_place p.id ps i own), get_or-set_other, f j d)

pub record Removed (loans hand : List PointerOffset) (g h : Side) : Type 0 where
  pub order : InOrder loans hand h
  pub passage : Passage g h

remove : (loans hand : List PointerOffset) (g : Side) (i : ℕ) (c : Connection) (os : List PointerOffset) → slot_at g.port i ≡ Some c
    → IsPermutation (held_at g.links c.place) os → InOrder loans hand g
    → Removed loans hand g (record { port = let_go_all (with_slots g.port (set g.port.slots i None)) os; links = detached Sender g.links c.place })
remove loans hand g i c os there shuffled k =
    let p = g.port in
    let ps = g.links in
    let q : Pub = with_slots p (set p.slots i None) in
    let qs : Places = detached Sender ps c.place in
    let own = k.wired.own i c there in
    let b = k.books in
    let same : (o : ℕ) → held_by p.id qs o + times (os ++ hand) o ≡ held_by p.id ps o + times hand o
    = λ o. omega (
      arith,
      held_set p.id ps c.place (by (at ps c.place) None (λ l. kept (stepped Sender Detach l))) o own,
      here_removed p.id ps c.place o own,
      times_append os hand o,
      sum_by-IsPermutation (λ (x : PointerOffset). cond (eqb x.value o) 1 0) (held_at ps c.place) os shuffled,
    ) in
    let start : Books loans hand q ps = search rules in
    let out : Books loans (os ++ hand) q qs = moving loans hand (os ++ hand) q ps qs same start in
    record {
      order = record {
        books = all_go loans hand qs os q out;
        wired = rewired q (let_go_all q os) qs (all_id os q) (all_slots os q) (unwired p ps i c there k.wired);
      };
      passage = passage_trans (slot_emptied p ps i) (passage_trans (detached_passes q ps c.place own) (passage_all loans hand qs os q out));
    }

removed : (loans hand : List PointerOffset) (g : Side) (i : ℕ) (h : Side) → Removes g i h → InOrder loans hand g → Removed loans hand g h
removed loans hand g i h r k = through (slot_at g.port i) refl r
  where
    through : (x : Option Connection) → slot_at g.port i ≡ x
        → MatchOption x (h ≡ g) (λ c. (os : List PointerOffset) × IsPermutation (held_at g.links c.place) os
        × (h ≡ record { port = let_go_all (with_slots g.port (set g.port.slots i None)) os; links = detached Sender g.links c.place }))
        → Removed loans hand g h
    through None e same = subst (Removed loans hand g) (sym same) (record { order = k; passage = passage_refl g })
    through (Some c) e (os, shuffled, same) = subst (Removed loans hand g) (sym same) (remove loans hand g i c os e shuffled k)

pub removing : (loans hand : List PointerOffset) (g : Side) (i : ℕ) (h : Side) → Removes g i h → InOrder loans hand g → InOrder loans hand h
removing loans hand g i h r k = (removed loans hand g i h r k).order

pub removing_passes : (loans hand : List PointerOffset) (g : Side) (i : ℕ) (h : Side) → Removes g i h → InOrder loans hand g → Passage g h
removing_passes loans hand g i h r k = (removed loans hand g i h r k).passage

-- CLOSING

pub emptied_slots : (loans hand : List PointerOffset) {i n : ℕ} {g h : Side} → Empties i n g h → InOrder loans hand g → Removed loans hand g h
emptied_slots loans hand {i} {n} {g} {h} (none z same) k = subst (Removed loans hand g) (sym same) (record { order = k; passage = passage_refl g })
emptied_slots loans hand (one r rest) k =
    let a = removed loans hand _ _ _ r k in
    let b = emptied_slots loans hand rest a.order in
    record { order = b.order; passage = passage_trans a.passage b.passage }

-- the history comes into hand
-- by hand: a search finds it, and takes seconds longer
pub history_in_hand : (loans hand : List PointerOffset) (p : Pub) (ps : Places) → Books loans hand p ps → Books loans (p.history ++ hand) (shut p) ps
history_in_hand loans hand p ps k = record {
  ledger = k.ledger;
  balance = λ o. omega (arith, k.balance o, times_append p.history hand o);
  free = k.free;
  alone = k.alone;
  once = λ o. omega arith;
}

pub closing : (hand : List PointerOffset) (g : Side) (r : Option CloseError) (h : Side) → Closes g r h → InOrder g.port.loans hand g → InOrder h.port.loans hand h
closing hand g r h c k =
    goes g.port.closed c
    (λ shut_before. subst (λ (x : Side). InOrder x.port.loans hand x) (sym shut_before.1) k)
    (λ closes. let m : Side = closes.0 in
    let e = emptied_slots g.port.loans hand closes.1 k in
    let p : Pub = m.port in
    let loans_same : (let_go_all (shut p) p.history).loans ≡ g.port.loans = all_loans p.history (shut p) ∙ e.passage.loans in
    subst (λ (x : Side). InOrder x.port.loans hand x) (sym closes.3)
    (subst (λ l. InOrder l hand (record { port = let_go_all (shut p) p.history; links = m.links })) (sym loans_same)
    (record {
      books = all_go g.port.loans hand m.links p.history (shut p) (history_in_hand g.port.loans hand p m.links e.order.books);
      wired = rewired (shut p) (let_go_all (shut p) p.history) m.links (all_id p.history (shut p)) (all_slots p.history (shut p))
          (rewired p (shut p) m.links refl refl e.order.wired);
    })))
