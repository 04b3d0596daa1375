-- The calls of a receiver end leave what a link holds for its sender.
use Rattle.std.proofs.Common.{rules, arith, true, false, Bool, cond, ◌≡◌, ℕ, ◌+◌, ◌&&◌, List, [], ◌∷◌, ◌++◌, set, is_some, Some, None, Option, sym, refl, ap, ◌∙◌}
use Rattle.std.specs.Option.{option_map, option_to_list}
use Rattle.container.specs.Queue.{oldest, later, without}
use Rattle.elementary.specs.Ids.{same_chunk}
use Rattle.elementary.specs.declared.pointer_offset.PointerOffset.{PointerOffset}
use Rattle.elementary.specs.declared.link.LinkDetails.{LinkDetails}
use Rattle.elementary.specs.declared.link.Event.TheVariants.{Detach}
use Rattle.elementary.specs.declared.link.End.TheVariants.{Receiver}
use Rattle.rules.specs.Links.{Link, attached, stepped, times, with_lists, can_borrow, receive_after, release_fault, release_after}
use Rattle.rules.specs.Bank.{Places, at, changed, received, given_back, create_fault, MayTake, created, kept, detached, Move, receive_at, release_at, moved, Turned}
use Rattle.rules.specs.Holdings.{Keeps, HeldSame, Stirred}
use Rattle.rules.proofs.Banks.{turned_by, listed_times, releasable}
use Rattle.rules.proofs.Lists.{set_each}
use Rattle.rules.proofs.Offsets.{times_append, times_push, times_split, without_times}
use Rattle.rules.proofs.Safe.{safe_moved, safe_detached, safe_created}

pub keeps_refl : (x : Option Link) → Keeps x x
keeps_refl x = record { owner = refl; holds = λ o. refl }

held_refl : (ps : Places) → HeldSame ps ps
held_refl ps = record { keeps = λ i. keeps_refl (at ps i) }

held_trans : {ps qs rs : Places} → HeldSame ps qs → HeldSame qs rs → HeldSame ps rs
held_trans a b = record { keeps = λ i. record { owner = (b.keeps i).owner ∙ (a.keeps i).owner; holds = λ o. (b.keeps i).holds o ∙ (a.keeps i).holds o } }

-- one place set
held_set : (ps : Places) (i : ℕ) (x : Option Link) → Keeps (at ps i) x → HeldSame ps (set ps i x)
held_set ps i x k = record { keeps = set_each Keeps keeps_refl ps i x None k }

held_changed : (ps : Places) (i : ℕ) (f : Link → Link) → ((l : Link) → Keeps (Some l) (Some (f l))) → HeldSame ps (changed ps i f)
held_changed ps i f k = held_set ps i (option_map f (at ps i)) (go (at ps i))
  where
    go : (x : Option Link) → Keeps x (option_map f x)
    go None = keeps_refl None
    go (Some l) = k l

-- other lists with the same offsets, each as often
same_lists : (l : Link) (w b r : List PointerOffset)
    → ((o : ℕ) → times w o + (times b o + times r o) ≡ times l.waiting o + (times l.borrowed o + times l.returned o)) → Keeps (Some l) (Some (with_lists l w b r))
same_lists l w b r t = record {
  owner = refl;
  holds = λ o. ap (λ n. cond (attached l.sender_end) n 0) (listed_times (with_lists l w b r) o ∙ (t o ∙ sym (listed_times l o)));
}

receive_keeps : (l : Link) → Keeps (Some l) (Some (receive_after l))
receive_keeps l = go (attached l.receiver_end && can_borrow l)
  where
    go : (t : Bool) → Keeps (Some l) (Some (with_lists l (cond t (later l.waiting) l.waiting) (cond t (l.borrowed ++ option_to_list (oldest l.waiting)) l.borrowed) l.returned))
    go true = same_lists l _ _ _ (λ o. omega (arith, times_append l.borrowed (option_to_list (oldest l.waiting)) o, times_split l.waiting o))
    go false = same_lists l _ _ _ (λ o. refl)

release_keeps : (x : PointerOffset) (l : Link) → Keeps (Some l) (Some (release_after l x))
release_keeps x l = go (is_some (release_fault l x)) refl
  where
    go : (t : Bool) → is_some (release_fault l x) ≡ t
        → Keeps (Some l) (Some (with_lists l l.waiting (cond t l.borrowed (without same_chunk l.borrowed x)) (cond t l.returned (l.returned ++ x ∷ []))))
    go true e = same_lists l _ _ _ (λ o. refl)
    go false e = same_lists l _ _ _ (λ o. omega (arith, without_times l.borrowed x o (releasable l x e).0, times_push l.returned x o))

kept_keeps : (l : Link) → Keeps (Some l) (kept (stepped Receiver Detach l))
kept_keeps l = search rules

-- the bank's calls at a receiver end
held_received : (ps : Places) (i : ℕ) → HeldSame ps (received ps i)
held_received ps i = held_changed ps i receive_after receive_keeps

held_given_back : (ps : Places) (i : ℕ) (o : PointerOffset) → HeldSame ps (given_back ps i o)
held_given_back ps i o = held_changed ps i (λ l. release_after l o) (release_keeps o)

held_detached : (ps : Places) (i : ℕ) → HeldSame ps (detached Receiver ps i)
held_detached ps i = grind (arith, held_set)

held_created : (ps : Places) (d : LinkDetails) (q : ℕ) → HeldSame ps (created Receiver ps d q)
held_created ps d q = search (rules, held_set)

-- WITH THE BANK KEPT SAFE

pub stir_refl : (ps : Places) → Stirred ps ps
stir_refl ps = record { same = held_refl ps; safe = λ s. s }

pub stir_trans : {ps qs rs : Places} → Stirred ps qs → Stirred qs rs → Stirred ps rs
stir_trans a b = record { same = held_trans a.same b.same; safe = λ s. b.safe (a.safe s) }

pub stir_moved : (ps : Places) (m : Move) → Stirred ps (moved ps m)
stir_moved ps (receive_at i) = record { same = held_received ps i; safe = safe_moved ps (receive_at i) }
stir_moved ps (release_at i o) = record { same = held_given_back ps i o; safe = safe_moved ps (release_at i o) }

pub stir_turned : (ps qs : Places) → Turned ps qs → Stirred ps qs
stir_turned ps qs t = turned_by (Stirred ps) (λ rs m s. stir_trans s (stir_moved rs m)) ps qs t (stir_refl ps)

pub stir_detached : (ps : Places) (i : ℕ) → Stirred ps (detached Receiver ps i)
stir_detached ps i = record { same = held_detached ps i; safe = safe_detached Receiver ps i }

pub stir_created : (ps : Places) (d : LinkDetails) (q : ℕ) → create_fault Receiver ps d ≡ None → MayTake ps d q → Stirred ps (created Receiver ps d q)
stir_created ps d q e m = record { same = held_created ps d q; safe = safe_created Receiver ps d q e m }
