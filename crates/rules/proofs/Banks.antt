-- Every call keeps a bank sound.
use Rattle.std.proofs.Common.{rules, arith, true, false, Bool, cond, ◌≡◌, ℕ, ◌+◌, ◌<◌, ◌≤◌, ◌&&◌, ◌⊎◌, List, [], ◌∷◌, ◌++◌, length, set, is_some, is_ok, Some, None, Err, fold, Option, sym, refl, ap, ◌∙◌, subst, ⊎_elim}
use Rattle.std.specs.List.{position_or_len}
use Rattle.std.specs.Option.{option_to_list}
use Rattle.std.proofs.lemmas.Bool.Decides.{nat_tests}
use Rattle.std.proofs.lemmas.List.{get_or_past, length-append, length_push}
use Rattle.std.proofs.lemmas.List.Sums.{passes_at_first, fails_before_first}
use Rattle.std.proofs.lemmas.List.Recursion.{is_position_or_len}
use Rattle.std.proofs.lemmas.Bool.{and_parts, or_parts, cond_both, ltb-true}
use Rattle.container.specs.Queue.{oldest, later, overflowed, has, without}
use Rattle.elementary.specs.Ids.{same_chunk}
use Rattle.elementary.specs.declared.link.Event.{Event}
use Rattle.elementary.specs.declared.pointer_offset.PointerOffset.{PointerOffset}
use Rattle.elementary.specs.declared.link.LinkDetails.{LinkDetails}
use Rattle.elementary.specs.declared.link.Event.TheVariants.{Attach, Detach}
use Rattle.elementary.specs.declared.link.End.{End}
use Rattle.elementary.specs.declared.link.End.TheVariants.{Sender, Receiver}
use Rattle.elementary.specs.declared.link.Mark.{Mark}
use Rattle.elementary.specs.declared.error.ZeroCopySendError.TheVariants as sending
use Rattle.rules.specs.Bank.{Goes, Places, at, changed, sent, reclaimed, first, between, connects, bad_buffer, bad_borrow, create_fault, MayTake, created, kept, detached, Move, receive_at, release_at, moved, Turned, with_mark, SetsMark, SoundBank, Lasts}
use Rattle.rules.specs.Pools.{by}
use Rattle.rules.specs.Links.{Link, Proper, attached, never, standing, stepped, alive, fresh, listed, lists, times, with_lists, marked_send, send_answer, send_after, reclaim_after, can_borrow, receive_after, release_fault, release_after, most_returned}
use Rattle.rules.proofs.Lists.{set_cases}
use Rattle.rules.proofs.Offsets.{times_append, times_push, times_split, later_short, absent_times, without_times, without_length, overflowed_length, overflowed_times}

-- from either of two statements
pub goes : {A B C : Type 0} (t : Bool) → Goes t A B → (A → C) → (B → C) → C
goes t h k w = search rules

-- LISTS OF A LINK

-- how often the three lists together have an offset
pub listed_times : (l : Link) (o : ℕ) → times (listed l) o ≡ times l.waiting o + (times l.borrowed o + times l.returned o)
listed_times l o = omega (arith, times_append l.waiting (l.borrowed ++ l.returned) o, times_append l.borrowed l.returned o)

-- a link with other lists is proper if they are short enough and no offset comes more often
pub proper_lists : (l : Link) (w b r : List PointerOffset) → Proper l → length w ≤ l.details.buffer_size → length b ≤ l.details.max_borrowed_samples → length r ≤ most_returned l
    → ((o : ℕ) → times w o + (times b o + times r o) ≤ 1) → Proper (with_lists l w b r)
proper_lists l w b r p hw hb hr once = search (rules, listed_times)

pub before : (l : Link) → Proper l → (o : ℕ) → times l.waiting o + (times l.borrowed o + times l.returned o) ≤ 1
before l p o = omega (arith, p.once o, listed_times l o)

-- an offset that is listed is not accepted
refused : (a : Bool) (m : Mark) (l : Link) (o : PointerOffset) → lists l o ≡ true → is_ok (cond a (marked_send m l o) (Err sending.NotConnected)) ≡ false
refused a m l o h = search rules

pub accepted : (l : Link) (o : PointerOffset) → is_ok (send_answer l o) ≡ true → lists l o ≡ false
accepted l o e = search rules

-- so it comes once now
sent_once : (l : Link) (o : PointerOffset) (p : ℕ) → Proper l → lists l o ≡ false
    → times (overflowed l.details.buffer_size l.waiting o) p + (times l.borrowed p + times l.returned p) ≤ 1
sent_once l o p proper e =
    let a = or_parts _ _ e in
    let b = or_parts _ _ a.1 in
    grind (arith, nat_tests, overflowed_times l.details.buffer_size l.waiting o p, absent_times l.waiting o a.0, absent_times l.borrowed o b.0, absent_times l.returned o b.1, before l proper p)

proper_send : (l : Link) (o : PointerOffset) → Proper l → Proper (send_after l o)
proper_send l o p =
    cond_both (is_ok (send_answer l o)) (overflowed l.details.buffer_size l.waiting o) l.waiting (λ w. Proper (with_lists l w l.borrowed l.returned))
    (λ yes. proper_lists l _ l.borrowed l.returned p (overflowed_length _ l.waiting o p.waiting) p.borrowed p.returned (λ q. sent_once l o q p (accepted l o yes)))
    (λ _. proper_lists l l.waiting l.borrowed l.returned p p.waiting p.borrowed p.returned (before l p))

proper_reclaim : (l : Link) → Proper l → Proper (reclaim_after l)
proper_reclaim l p =
    cond_both (attached l.sender_end) (later l.returned) l.returned (λ r. Proper (with_lists l l.waiting l.borrowed r))
    (λ _. proper_lists l l.waiting l.borrowed (later l.returned) p p.waiting p.borrowed (later_short l.returned _ (omega (arith, p.returned)))
    (λ o. omega (arith, before l p o, times_split l.returned o)))
    (λ _. proper_lists l l.waiting l.borrowed l.returned p p.waiting p.borrowed p.returned (before l p))

one_more : (xs : List PointerOffset) → length (option_to_list (oldest xs)) ≤ 1
one_more xs = search rules

proper_receive : (l : Link) → Proper l → Proper (receive_after l)
proper_receive l p = go (attached l.receiver_end && can_borrow l) refl
  where
    go : (t : Bool) → (attached l.receiver_end && can_borrow l) ≡ t
        → Proper (with_lists l (cond t (later l.waiting) l.waiting) (cond t (l.borrowed ++ option_to_list (oldest l.waiting)) l.borrowed) l.returned)
    go false e = proper_lists l l.waiting l.borrowed l.returned p p.waiting p.borrowed p.returned (before l p)
    go true e =
        let room : length l.borrowed < l.details.max_borrowed_samples = ltb-true (length l.borrowed) l.details.max_borrowed_samples (and_parts (attached l.receiver_end) (can_borrow l) e).1 in
        proper_lists l (later l.waiting) (l.borrowed ++ option_to_list (oldest l.waiting)) l.returned p
        (later_short l.waiting _ (omega (arith, p.waiting)))
        (omega (arith, length-append l.borrowed (option_to_list (oldest l.waiting)), one_more l.waiting))
        p.returned
        (λ o. omega (arith, before l p o, times_append l.borrowed (option_to_list (oldest l.waiting)) o, times_split l.waiting o))

-- what a release that is not refused found
pub releasable : (l : Link) (o : PointerOffset) → is_some (release_fault l o) ≡ false → (has same_chunk l.borrowed o ≡ true) × (length l.returned < most_returned l)
releasable l o e = search rules

proper_release : (l : Link) (o : PointerOffset) → Proper l → Proper (release_after l o)
proper_release l o p = go (is_some (release_fault l o)) refl
  where
    go : (t : Bool) → is_some (release_fault l o) ≡ t
        → Proper (with_lists l l.waiting (cond t l.borrowed (without same_chunk l.borrowed o)) (cond t l.returned (l.returned ++ o ∷ [])))
    go true e = proper_lists l l.waiting l.borrowed l.returned p p.waiting p.borrowed p.returned (before l p)
    go false e =
        let r = releasable l o e in
        proper_lists l l.waiting (without same_chunk l.borrowed o) (l.returned ++ o ∷ []) p p.waiting (without_length l.borrowed o _ p.borrowed)
        (omega (arith, length_push l.returned o, r.1))
        (λ q. omega (arith, before l p q, without_times l.borrowed o q r.0, times_push l.returned o q))

-- ONE PLACE CHANGED

-- a place after a change of place i: what f made of it, or as it was
pub changed_at : (ps : Places) (i : ℕ) (f : Link → Link) (j : ℕ) (l : Link) → at (changed ps i f) j ≡ Some l
    → (k : Link) × (at ps j ≡ Some k) × (((l ≡ f k) × (j ≡ i)) ⊎ (l ≡ k))
changed_at ps i f j l e = search (rules, set_cases)

-- a change that keeps a link proper and its details
pub sound_changed : (ps : Places) (i : ℕ) (f : Link → Link) → ((l : Link) → Proper l → Proper (f l)) → ((l : Link) → (f l).details ≡ l.details) → SoundBank ps → SoundBank (changed ps i f)
sound_changed ps i f proper same s = record {
  proper = λ j l e. let c = changed_at ps i f j l e in
      ⊎_elim (λ y. subst Proper (sym y.0) (proper c.0 (s.proper j c.0 c.1))) (λ y. subst Proper (sym y) (s.proper j c.0 c.1)) c.2;
  pairs = λ j k x y lt ex ey b.
      let c = changed_at ps i f j x ex in
      let d = changed_at ps i f k y ey in
      s.pairs j k c.0 d.0 lt c.1 d.1
      (ap (λ z. between z d.0.details) (sym (kept_details j x c.0 c.2)) ∙ (ap (between x.details) (sym (kept_details k y d.0 d.2)) ∙ b));
}
  where
    kept_details : (j : ℕ) (l k : Link) → (((l ≡ f k) × (j ≡ i)) ⊎ (l ≡ k)) → l.details ≡ k.details
    kept_details j l k w = ⊎_elim (λ y. ap (λ (z : Link). z.details) y.0 ∙ same k) (λ y. ap (λ (z : Link). z.details) y) w

pub sound_sent : (ps : Places) (i : ℕ) (o : PointerOffset) → SoundBank ps → SoundBank (sent ps i o)
sound_sent ps i o = sound_changed ps i (λ l. send_after l o) (λ l. proper_send l o) (λ l. refl)

pub sound_reclaimed : (ps : Places) (i : ℕ) → SoundBank ps → SoundBank (reclaimed ps i)
sound_reclaimed ps i = sound_changed ps i reclaim_after proper_reclaim (λ l. refl)

pub sound_moved : (ps : Places) (m : Move) → SoundBank ps → SoundBank (moved ps m)
sound_moved ps (receive_at i) = sound_changed ps i receive_after proper_receive (λ l. refl)
sound_moved ps (release_at i o) = sound_changed ps i (λ l. release_after l o) (λ l. proper_release l o) (λ l. refl)

-- what each move keeps, a turn keeps
pub turned_by : (P : Places → Type 0) → ((ps : Places) (m : Move) → P ps → P (moved ps m)) → (ps qs : Places) → Turned ps qs → P ps → P qs
turned_by P keep ps qs t k = subst P (sym t.1) (go t.0 ps k)
  where
    go : (ms : List Move) (rs : Places) → P rs → P (fold moved rs ms)
    go [] rs s = s
    go (m ∷ ms) rs s = go ms (moved rs m) (keep rs m s)

pub sound_turned : (ps qs : Places) → Turned ps qs → SoundBank ps → SoundBank qs
sound_turned = turned_by SoundBank sound_moved

-- ONE PLACE SET

-- two pairs of ports that are equal are so either way round
between_sym : (d e : LinkDetails) → between d e ≡ true → between e d ≡ true
between_sym d e b = search rules

pub set_place : (ps : Places) (i : ℕ) (x : Option Link) (j : ℕ) (l : Link) → at (set ps i x) j ≡ Some l → ((j ≡ i) × (x ≡ Some l)) ⊎ (at ps j ≡ Some l)
set_place ps i x j l e = search (rules, set_cases)

-- events change neither lists nor details
event_details : (end : End) (e : Event) (l : Link) → (stepped end e l).details ≡ l.details
event_details end e l = search rules

proper_event : (end : End) (e : Event) (l : Link) → Proper l → alive (stepped end e l) ≡ true → Proper (stepped end e l)
proper_event Sender e l p a = record { buffer = p.buffer; borrow = p.borrow; waiting = p.waiting; borrowed = p.borrowed; returned = p.returned; once = p.once; live = a }
proper_event Receiver e l p a = record { buffer = p.buffer; borrow = p.borrow; waiting = p.waiting; borrowed = p.borrowed; returned = p.returned; once = p.once; live = a }

-- a place set to a proper link whose ports no other link has
sound_set : (ps : Places) (i : ℕ) (x : Option Link) → SoundBank ps → ((l : Link) → x ≡ Some l → Proper l)
    → ((l : Link) (j : ℕ) (k : Link) → x ≡ Some l → (j ≡ i → ⊥) → at ps j ≡ Some k → between k.details l.details ≡ true → ⊥) → SoundBank (set ps i x)
sound_set ps i x s proper apart = record {
  proper = λ j l e. ⊎_elim (λ y. proper l y.1) (λ y. s.proper j l y) (set_place ps i x j l e);
  pairs = λ j k a b lt ea eb bt.
      ⊎_elim
      (λ y. ⊎_elim (λ z. omega (arith, y.0, z.0)) (λ z. apart a k b y.1 (λ e. omega (arith, y.0, e)) z (between_sym a.details b.details bt)) (set_place ps i x k b eb))
      (λ y. ⊎_elim (λ z. apart b j a z.1 (λ e. omega (arith, z.0, e)) y bt) (λ z. s.pairs j k a b lt y z bt) (set_place ps i x k b eb))
      (set_place ps i x j a ea);
}

-- DETACHING

-- what a detached end leaves of its place
pub left_of : (end : End) (x : Option Link) (l : Link) → by x None (λ k. kept (stepped end Detach k)) ≡ Some l
    → (k : Link) × (x ≡ Some k) × (l ≡ stepped end Detach k) × (alive l ≡ true)
left_of end x l h = search rules

-- another link than the one at place i has other ports than it
others_apart : (ps : Places) (i : ℕ) (k : Link) → SoundBank ps → at ps i ≡ Some k → (j : ℕ) (m : Link) → (j ≡ i → ⊥) → at ps j ≡ Some m → between m.details k.details ≡ true → ⊥
others_apart ps i k s ek j m ne em b = search (rules, between_sym)

pub sound_detached : (end : End) (ps : Places) (i : ℕ) → SoundBank ps → SoundBank (detached end ps i)
sound_detached end ps i s =
    sound_set ps i _ s
    (λ l e. let c = left_of end (at ps i) l e in
    subst Proper (sym c.2) (proper_event end Detach c.0 (s.proper i c.0 c.1) (ap alive (sym c.2) ∙ c.3)))
    (λ l j m e ne em b. let c = left_of end (at ps i) l e in
    others_apart ps i c.0 s c.1 j m ne em (ap (between m.details) (sym (ap (λ (z : Link). z.details) c.2 ∙ event_details end Detach c.0)) ∙ b))

-- CREATING

-- the first place is the library's
is_first : (t : Option Link → Bool) (ps : Places) → first t ps ≡ position_or_len t ps
is_first t = is_position_or_len (first t) t refl (λ p ps. ap (cond (t p) 0) (omega arith))

pub first_found : (t : Option Link → Bool) (ps : Places) → first t ps < length ps → t (at ps (first t ps)) ≡ true
first_found t ps h = let e = is_first t ps in ap (λ n. t (at ps n)) e ∙ passes_at_first t ps None (omega (arith, e))

pub first_none : (t : Option Link → Bool) (ps : Places) → t None ≡ false → length ps ≤ first t ps → (j : ℕ) → t (at ps j) ≡ false
first_none t ps n h j = search (rules, is_first, fails_before_first, get_or_past)

never_fresh : (end : End) (d : LinkDetails) → never (standing end (fresh d)) ≡ true
never_fresh end d = search rules

-- an end that was never attached is attached now
attach_alive : (end : End) (l : Link) → never (standing end l) ≡ true → alive (stepped end Attach l) ≡ true
attach_alive end l h = search rules

-- what is known where no cause applies
pub record Creatable (end : End) (ps : Places) (d : LinkDetails) : Type 0 where
  pub buffer : bad_buffer d ≡ false
  pub joined : first (connects d) ps < length ps → (l : Link) → at ps (first (connects d) ps) ≡ Some l → never (standing end l) ≡ true
  pub borrow : length ps ≤ first (connects d) ps → bad_borrow d ≡ false

pub creatable : (end : End) (ps : Places) (d : LinkDetails) → create_fault end ps d ≡ None → Creatable end ps d
creatable end ps d e = search rules

proper_fresh : (end : End) (d : LinkDetails) → bad_buffer d ≡ false → bad_borrow d ≡ false → Proper (stepped end Attach (fresh d))
proper_fresh end d b r = search rules

-- the link of these ports, joined
sound_joined : (end : End) (ps : Places) (p : ℕ) (k : Link) → SoundBank ps → at ps p ≡ Some k → never (standing end k) ≡ true → SoundBank (set ps p (Some (stepped end Attach k)))
sound_joined end ps p k s e n =
    sound_set ps p _ s
    (λ l el. let m : l ≡ stepped end Attach k = cc in subst Proper (sym m) (proper_event end Attach k (s.proper p k e) (attach_alive end k n)))
    (λ l j m el ne em b. let q : l ≡ stepped end Attach k = cc in
    others_apart ps p k s e j m ne em (ap (between m.details) (sym (ap (λ (z : Link). z.details) q ∙ event_details end Attach k)) ∙ b))

-- the place of a link's ports has a link
pub found_link : (d : LinkDetails) (x : Option Link) → connects d x ≡ true → (k : Link) × (x ≡ Some k)
found_link d x e = search rules

sound_made : (end : End) (ps : Places) (p : ℕ) (d : LinkDetails) → SoundBank ps → bad_buffer d ≡ false → bad_borrow d ≡ false → length ps ≤ first (connects d) ps
    → SoundBank (set ps p (Some (stepped end Attach (fresh d))))
sound_made end ps p d s b r le = grind (arith, sound_set, proper_fresh, first_none)

pub sound_created : (end : End) (ps : Places) (d : LinkDetails) (p : ℕ) → create_fault end ps d ≡ None → MayTake ps d p → SoundBank ps → SoundBank (created end ps d p)
sound_created end ps d p e m s = grind (arith, nat_tests, first_found, sound_joined, sound_made)

-- A RIG'S MARKS

-- a change that a rig may make, or none
pub marking_by : (P : Places → Type 0) → ((ps : Places) (i : ℕ) (x : Mark) → P ps → P (changed ps i (λ l. with_mark l x)))
    → (rigged : Bool) (ps : Places) (i : ℕ) (m : Mark) (qs : Places) → SetsMark rigged ps i m qs → P ps → P qs
marking_by P keep rigged ps i m qs w k = search rules

pub proper_marked : (x : Mark) (l : Link) → Proper l → Proper (with_mark l x)
proper_marked x l p = record { buffer = p.buffer; borrow = p.borrow; waiting = p.waiting; borrowed = p.borrowed; returned = p.returned; once = p.once; live = p.live }

pub sound_marked : (rigged : Bool) (ps : Places) (i : ℕ) (m : Mark) (qs : Places) → SetsMark rigged ps i m qs → SoundBank ps → SoundBank qs
sound_marked = marking_by SoundBank (λ ps i x. sound_changed ps i (λ l. with_mark l x) (proper_marked x) (λ l. refl))

pub stays_sound : Lasts SoundBank
stays_sound = record {
  sending = sound_sent;
  reclaiming = sound_reclaimed;
  turning = sound_turned;
  creating = sound_created;
  detaching = sound_detached;
  marking = sound_marked;
}
