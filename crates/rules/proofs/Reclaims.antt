-- Reclaiming, filling and returning keep a publisher's books.
use Rattle.std.proofs.Common.{rules, arith, true, cond, ◌≡◌, ℕ, suc, ◌+◌, ◌<◌, List, [], ◌∷◌, ◌++◌, length, get_or, set, Some, None, fold, Option, sym, refl, ap, ◌∙◌, subst}
use Rattle.std.specs.Option.{option_map}
use Rattle.std.proofs.lemmas.Bool.{cond_both, and_parts, false≢true}
use Rattle.std.proofs.lemmas.List.Sums.{sum_by-set}
use Rattle.container.specs.Queue.{without}
use Rattle.elementary.specs.Ids.{same_chunk}
use Rattle.elementary.specs.declared.port_id.PortId.{PortId}
use Rattle.elementary.specs.declared.pointer_offset.PointerOffset.{PointerOffset}
use Rattle.rules.specs.Books.{owns, held_here, held_by, Books, InOrder, beside}
use Rattle.rules.specs.Pools.{by}
use Rattle.rules.specs.Links.{Link, attached, times}
use Rattle.rules.specs.Bank.{Places, at, changed}
use Rattle.rules.specs.Publisher.{Connection, Pub, Side, slot_at, with_loans, let_go, let_go_all, returned_at, cleared, emptied, reclaimed_all, is_live, unloaned, fill_after, return_after}
use Rattle.rules.proofs.Views.{kept_by, own_details, unmoved_changed}
use Rattle.rules.proofs.Lists.{within}
use Rattle.rules.proofs.Offsets.{one, times_cons, times_append, without_times}
use Rattle.rules.proofs.Banks.{listed_times}
use Rattle.rules.proofs.Safe.{safe_cleared}
use Rattle.rules.proofs.Keep.{letting_go, moving}
use Rattle.rules.proofs.Passages.{Passage, passage_refl, passage_trans, all_go, passage_all, passage_links, fits_unmoved}

-- ONE PLACE

pub owned_there : (id : PortId) (ps : Places) (i : ℕ) → owns id (at ps i) ≡ true → i < length ps
owned_there id ps i e = within ps i None (λ none. false≢true (sym (ap (owns id) none) ∙ e))

-- another link at one place of the bank
pub held_set : (id : PortId) (ps : Places) (i : ℕ) (x : Option Link) (o : ℕ) → owns id (at ps i) ≡ true
    → held_by id (set ps i x) o + held_here id o (at ps i) ≡ held_by id ps o + held_here id o x
held_set id ps i x o e = sum_by-set (held_here id o) ps i x None (owned_there id ps i e)

-- what is returned leaves the link
here_cleared : (id : PortId) (ps : Places) (i o : ℕ) → owns id (at ps i) ≡ true
    → held_here id o (option_map cleared (at ps i)) + times (returned_at ps i) o ≡ held_here id o (at ps i)
here_cleared id ps i o = through (at ps i)
  where
    through : (x : Option Link) → owns id x ≡ true
        → held_here id o (option_map cleared x) + times (by x [] (λ l. cond (attached l.sender_end) l.returned [])) o ≡ held_here id o x
    through None e = absurd (false≢true e)
    through (Some l) e =
        grind (arith, and_parts (attached l.sender_end) _ e, listed_times (cleared l) o, listed_times l o)

-- LETTING ALL GO

pub all_id : (os : List PointerOffset) (p : Pub) → (let_go_all p os).id ≡ p.id
all_id [] p = refl
all_id (o ∷ os) p = all_id os (let_go p o)

pub all_slots : (os : List PointerOffset) (p : Pub) → (let_go_all p os).slots ≡ p.slots
all_slots [] p = refl
all_slots (o ∷ os) p = all_slots os (let_go p o)

pub all_loans : (os : List PointerOffset) (p : Pub) → (let_go_all p os).loans ≡ p.loans
all_loans [] p = refl
all_loans (o ∷ os) p = all_loans os (let_go p o)

-- RECLAIMING

record Kept (loans hand : List PointerOffset) (g h : Side) : Type 0 where
  books : Books loans hand h.port h.links
  slots : h.port.slots ≡ g.port.slots
  owned : (j : ℕ) → owns g.port.id (at h.links j) ≡ owns g.port.id (at g.links j)
  passage : Passage g h

emptied_kept : (loans hand : List PointerOffset) (g : Side) (c : Connection) → owns g.port.id (at g.links c.place) ≡ true
    → Books loans hand g.port g.links → Kept loans hand g (emptied g (Some c))
emptied_kept loans hand g c e k =
    let p = g.port in
    let ps = g.links in
    let i = c.place in
    let os = returned_at ps i in
    let qs : Places = changed ps i cleared in
    let same : (o : ℕ) → held_by p.id qs o + times (os ++ hand) o ≡ held_by p.id ps o + times hand o
    = λ o. omega (arith, held_set p.id ps i (option_map cleared (at ps i)) o e, here_cleared p.id ps i o e, times_append os hand o) in
    let out : Books loans (os ++ hand) p qs = moving loans hand (os ++ hand) p ps qs same k in
    record {
      books = all_go loans hand qs os p out;
      slots = all_slots os p;
      owned = kept_by (owns p.id) cleared (λ _. refl) ps i;
      passage = passage_trans
          (passage_links p ps qs (safe_cleared ps i) (fits_unmoved p ps qs (kept_by (own_details p.id) cleared (λ _. refl) ps i)) (λ a ne. unmoved_changed a p.id ps i cleared (λ _. refl) ne e))
          (passage_all loans hand qs os p out);
    }

walk : (loans hand : List PointerOffset) (xs : List (Option Connection)) (g : Side)
    → ((i : ℕ) (c : Connection) → get_or xs i None ≡ Some c → owns g.port.id (at g.links c.place) ≡ true)
    → Books loans hand g.port g.links → Kept loans hand g (fold emptied g xs)
walk loans hand [] g own k = record { books = k; slots = refl; owned = λ _. refl; passage = passage_refl g }
walk loans hand (None ∷ xs) g own k = walk loans hand xs g (λ i. own (suc i)) k
walk loans hand (Some c ∷ xs) g own k =
    let one_kept = emptied_kept loans hand g c (own 0 c refl) k in
    let h = emptied g (Some c) in
    let id = one_kept.passage.course.id in
    let rest = walk loans hand xs h (λ i d e. ap (λ x. owns x (at h.links d.place)) id ∙ (one_kept.owned d.place ∙ own (suc i) d e)) one_kept.books in
    record {
      books = rest.books;
      slots = rest.slots ∙ one_kept.slots;
      owned = λ j. ap (λ x. owns x (at (fold emptied h xs).links j)) (sym id) ∙ (rest.owned j ∙ (ap (λ x. owns x (at h.links j)) id ∙ one_kept.owned j));
      passage = passage_trans one_kept.passage rest.passage;
    }

pub reclaiming : (loans hand : List PointerOffset) (g : Side) → InOrder loans hand g → InOrder loans hand (reclaimed_all g)
reclaiming loans hand g k =
    let w = k.wired in
    let r = walk loans hand g.port.slots g w.own k.books in
    let back : (i : ℕ) (c : Connection) → slot_at (reclaimed_all g).port i ≡ Some c → slot_at g.port i ≡ Some c
    = λ i c e. sym (ap (λ xs. get_or xs i None) r.slots) ∙ e in
    record {
      books = r.books;
      wired = record {
        own = λ i c e. ap (λ id. owns id (at (reclaimed_all g).links c.place)) r.passage.course.id ∙ (r.owned c.place ∙ w.own i c (back i c e));
        apart = λ i j c d a b. w.apart i j c d (back i c a) (back j d b);
        cover = λ j e. let f = w.cover j (sym (r.owned j) ∙ (sym (ap (λ id. owns id (at (reclaimed_all g).links j)) r.passage.course.id) ∙ e)) in
            (f.0, (f.1.0, ap (λ xs. get_or xs f.0 None) r.slots ∙ f.1.1, f.1.2));
        few = omega (arith, ap length r.slots, w.few);
      };
    }

pub reclaiming_passes : (loans hand : List PointerOffset) (g : Side) → InOrder loans hand g → Passage g (reclaimed_all g)
reclaiming_passes loans hand g k = (walk loans hand g.port.slots g k.wired.own k.books).passage

pub reclaimed_slots : (loans hand : List PointerOffset) (g : Side) → InOrder loans hand g → (reclaimed_all g).port.slots ≡ g.port.slots
reclaimed_slots loans hand g k = (walk loans hand g.port.slots g k.wired.own k.books).slots

pub reclaimed_loans : (hand : List PointerOffset) (g : Side) → InOrder g.port.loans hand g → InOrder (reclaimed_all g).port.loans hand (reclaimed_all g)
reclaimed_loans hand g k = subst (λ l. InOrder l hand (reclaimed_all g)) (sym (reclaiming_passes g.port.loans hand g k).loans) (reclaiming g.port.loans hand g k)

-- FILLING AND RETURNING

pub filling : (hand : List PointerOffset) (g : Side) (o : PointerOffset) (source : List ℕ) → InOrder g.port.loans hand g
    → InOrder (fill_after g.port o source).loans hand (beside g (fill_after g.port o source))
filling hand g o source k = search rules

-- a loan comes into hand
pub in_hand : (hand : List PointerOffset) (p : Pub) (ps : Places) (o : PointerOffset) → is_live p o ≡ true → Books p.loans hand p ps
    → Books (without same_chunk p.loans o) (o ∷ hand) (with_loans p (without same_chunk p.loans o)) ps
in_hand hand p ps o live k = search (rules, one, without_times, times_cons)

ended : (hand : List PointerOffset) (p : Pub) (ps : Places) (o : PointerOffset) → is_live p o ≡ true → Books p.loans hand p ps
    → Books (unloaned p o).loans hand (unloaned p o) ps
ended hand p ps o live k = letting_go (without same_chunk p.loans o) hand (with_loans p (without same_chunk p.loans o)) ps o (in_hand hand p ps o live k)

pub returning : (hand : List PointerOffset) (g : Side) (o : PointerOffset) → InOrder g.port.loans hand g
    → InOrder (return_after g.port o).loans hand (beside g (return_after g.port o))
returning hand g o k =
    cond_both (is_live g.port o) (unloaned g.port o) g.port (λ q. InOrder q.loans hand (beside g q))
    (λ yes. record { books = ended hand g.port g.links o yes k.books; wired = search rules }) (λ _. k)
