-- Where no sender was ever attached, nothing was ever sent: every call keeps it so.
use Rattle.std.proofs.Common.{rules, arith, true, false, Bool, ◌≡◌, ℕ, ◌+◌, ◌≤◌, [], length, set, Some, None, Option, sym, refl, ◌∙◌, subst}
use Rattle.std.proofs.lemmas.Option.{same_Some}
use Rattle.std.proofs.lemmas.Bool.{cond-false, cond_both}
use Rattle.elementary.specs.declared.pointer_offset.PointerOffset.{PointerOffset}
use Rattle.elementary.specs.declared.link.LinkDetails.{LinkDetails}
use Rattle.elementary.specs.declared.link.End.{End}
use Rattle.elementary.specs.declared.link.Event.TheVariants.{Attach, Detach}
use Rattle.elementary.specs.declared.link.Standing.{Standing}
use Rattle.elementary.specs.declared.link.Mark.{Mark}
use Rattle.rules.specs.Pools.{by}
use Rattle.rules.specs.Links.{Link, Proper, times, attached, never, stepped, fresh, most_returned, send_after, reclaim_after, receive_after, release_after}
use Rattle.rules.specs.Bank.{Places, at, changed, sent, reclaimed, create_fault, MayTake, created, detached, Move, receive_at, release_at, moved, Turned, with_mark, SetsMark, SoundBank, Unsent, SafeBank, StaysSafe}
use Rattle.rules.specs.Publisher.{cleared}
use Rattle.rules.proofs.Banks.{turned_by, proper_marked, proper_lists, before, changed_at, set_place, left_of, marking_by, sound_changed, sound_sent, sound_reclaimed, sound_moved, sound_created, sound_detached, stays_sound}

-- ONE LINK

pub never_attached : (s : Standing) → never s ≡ true → attached s ≡ false
never_attached s h = search rules

unsent_send : (o : PointerOffset) (l : Link) → Unsent l → Unsent (send_after l o)
unsent_send o l h = search rules

unsent_reclaim : (l : Link) → Unsent l → Unsent (reclaim_after l)
unsent_reclaim l u n = let k = u n in (k.0, k.1, cond-false _ _ _ (never_attached l.sender_end n) ∙ k.2)

unsent_cleared : (l : Link) → Unsent l → Unsent (cleared l)
unsent_cleared l u n = let k = u n in (k.0, k.1, cond-false _ _ _ (never_attached l.sender_end n) ∙ k.2)

unsent_receive : (l : Link) → Unsent l → Unsent (receive_after l)
unsent_receive l h = search rules

unsent_release : (o : PointerOffset) (l : Link) → Unsent l → Unsent (release_after l o)
unsent_release o l h = search rules

-- an end that comes or goes changes no list, and no sender end becomes one that never was
unsent_detached : (end : End) (l : Link) → Unsent l → Unsent (stepped end Detach l)
unsent_detached end l h = search rules

unsent_attached : (end : End) (l : Link) → Unsent l → Unsent (stepped end Attach l)
unsent_attached end l h = search rules

-- THE BANK

pub safe_changed : (ps : Places) (i : ℕ) (f : Link → Link) → ((l : Link) → Unsent l → Unsent (f l)) → (SoundBank ps → SoundBank (changed ps i f)) → SafeBank ps → SafeBank (changed ps i f)
safe_changed ps i f keep sound s = record {
  sound = sound s.sound;
  unsent = λ j l e. grind (arith, changed_at ps i f j l e, s.unsent j, keep);
}

safe_set : (ps : Places) (i : ℕ) (x : Option Link) → ((l : Link) → x ≡ Some l → Unsent l) → (SoundBank ps → SoundBank (set ps i x)) → SafeBank ps → SafeBank (set ps i x)
safe_set ps i x keep sound s = search (rules, set_place)

pub safe_sent : (ps : Places) (i : ℕ) (o : PointerOffset) → SafeBank ps → SafeBank (sent ps i o)
safe_sent ps i o = safe_changed ps i (λ l. send_after l o) (unsent_send o) (sound_sent ps i o)

pub safe_reclaimed : (ps : Places) (i : ℕ) → SafeBank ps → SafeBank (reclaimed ps i)
safe_reclaimed ps i = safe_changed ps i reclaim_after unsent_reclaim (sound_reclaimed ps i)

-- what was returned is taken out
proper_cleared : (l : Link) → Proper l → Proper (cleared l)
proper_cleared l p = proper_lists l l.waiting l.borrowed (cleared l).returned p p.waiting p.borrowed
    (cond_both (attached l.sender_end) [] l.returned (λ r. length r ≤ most_returned l) (λ _. omega arith) (λ _. p.returned))
    (λ o. cond_both (attached l.sender_end) [] l.returned (λ r. times l.waiting o + (times l.borrowed o + times r o) ≤ 1) (λ _. omega (arith, before l p o)) (λ _. before l p o))

pub safe_cleared : (ps : Places) (i : ℕ) → SafeBank ps → SafeBank (changed ps i cleared)
safe_cleared ps i = safe_changed ps i cleared unsent_cleared (sound_changed ps i cleared proper_cleared (λ l. refl))

pub safe_moved : (ps : Places) (m : Move) → SafeBank ps → SafeBank (moved ps m)
safe_moved ps (receive_at i) = safe_changed ps i receive_after unsent_receive (sound_moved ps (receive_at i))
safe_moved ps (release_at i o) = safe_changed ps i (λ l. release_after l o) (unsent_release o) (sound_moved ps (release_at i o))

pub safe_turned : (ps qs : Places) → Turned ps qs → SafeBank ps → SafeBank qs
safe_turned = turned_by SafeBank safe_moved

pub safe_detached : (end : End) (ps : Places) (i : ℕ) → SafeBank ps → SafeBank (detached end ps i)
safe_detached end ps i s =
    safe_set ps i _ (λ l e. let c = left_of end (at ps i) l e in subst Unsent (sym c.2) (unsent_detached end c.0 (s.unsent i c.0 c.1))) (sound_detached end ps i) s

pub safe_created : (end : End) (ps : Places) (d : LinkDetails) (p : ℕ) → create_fault end ps d ≡ None → MayTake ps d p → SafeBank ps → SafeBank (created end ps d p)
safe_created end ps d p e m s = safe_set ps p _ (λ l el. subst Unsent (same_Some _ _ el) (joined (at ps p) refl)) (sound_created end ps d p e m) s
  where
    joined : (x : Option Link) → at ps p ≡ x → Unsent (stepped end Attach (by x (fresh d) (λ k. k)))
    joined None ex = unsent_attached end (fresh d) (λ _. (refl, refl, refl))
    joined (Some k) ex = unsent_attached end k (s.unsent p k ex)

pub safe_marked : (rigged : Bool) (ps : Places) (i : ℕ) (m : Mark) (qs : Places) → SetsMark rigged ps i m qs → SafeBank ps → SafeBank qs
safe_marked rigged ps i m qs w s =
    marking_by SafeBank (λ rs j x. safe_changed rs j (λ l. with_mark l x) (λ l u. u)
    (λ k. sound_changed rs j (λ l. with_mark l x) (proper_marked x) (λ l. refl) k))
    rigged ps i m qs w s

pub bank_stays_safe : StaysSafe
bank_stays_safe = record {
  sound = stays_sound;
  safe = record {
    sending = safe_sent;
    reclaiming = safe_reclaimed;
    turning = safe_turned;
    creating = safe_created;
    detaching = safe_detached;
    marking = safe_marked;
  };
}
