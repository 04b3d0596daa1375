-- What a publisher sees of the bank: its own links, and what they hold.
use Rattle.std.proofs.Common.{arith, rules, true, false, cond, ◌≡◌, ℕ, suc, List, [], ◌∷◌, get_or, set, is_some, Some, None, sum_by, Option, sym, refl, ap, ◌∙◌}
use Rattle.std.specs.Option.{option_map}
use Rattle.std.proofs.lemmas.List.Sums.{sum_by-cons}
use Rattle.elementary.specs.Ids.{same_port}
use Rattle.elementary.specs.declared.port_id.PortId.{PortId}
use Rattle.elementary.specs.declared.pointer_offset.PointerOffset.{PointerOffset}
use Rattle.elementary.specs.declared.link.LinkDetails.{LinkDetails}
use Rattle.rules.specs.Pools.{by}
use Rattle.rules.specs.Links.{Link}
use Rattle.rules.specs.Bank.{Places, at, changed}
use Rattle.rules.specs.Publisher.{Pub}
use Rattle.rules.specs.Holdings.{owned, holding, HeldSame}
use Rattle.rules.specs.Books.{mine, held_here, held_by, owns, Wired, InOrder}
use Rattle.rules.proofs.Lists.{set_each}

-- PORT IDS

pub same_port_eq : (a b : PortId) → same_port a b ≡ true → a ≡ b
same_port_eq a b e = search rules

pub same_port_refl : (a : PortId) → same_port a a ≡ true
same_port_refl a = search rules

-- two ids that differ do so either way round
pub apart_ports : (a b : PortId) → same_port a b ≡ false → same_port b a ≡ false
apart_ports a b e = search rules

-- ONE PLACE

abbrev pub own_details : PortId → Option Link → Option LinkDetails
own_details id x = by x None (λ l. cond (mine id l) (Some l.details) None)

pub record Alike (id : PortId) (x y : Option Link) : Type 0 where
  pub details : own_details id y ≡ own_details id x
  pub holds : (o : ℕ) → held_here id o y ≡ held_here id o x

-- every place has for a publisher what it had
pub record Unmoved (id : PortId) (ps qs : Places) : Type 0 where
  pub alike : (i : ℕ) → Alike id (at ps i) (at qs i)

pub alike_refl : (id : PortId) (x : Option Link) → Alike id x x
alike_refl id x = record { details = refl; holds = λ o. refl }

pub unmoved_refl : (id : PortId) (ps : Places) → Unmoved id ps ps
unmoved_refl id ps = record { alike = λ i. alike_refl id (at ps i) }

pub unmoved_trans : {id : PortId} {ps qs rs : Places} → Unmoved id ps qs → Unmoved id qs rs → Unmoved id ps rs
unmoved_trans a b = record { alike = λ i. record { details = (b.alike i).details ∙ (a.alike i).details; holds = λ o. (b.alike i).holds o ∙ (a.alike i).holds o } }

pub unmoved_set : (id : PortId) (ps : Places) (i : ℕ) (x : Option Link) → Alike id (at ps i) x → Unmoved id ps (set ps i x)
unmoved_set id ps i x k = record { alike = set_each (Alike id) (alike_refl id) ps i x None k }

-- whether a place is a publisher's own
owned_by : (id : PortId) (x : Option Link) → owns id x ≡ is_some (own_details id x)
owned_by id x = search rules

pub unmoved_owns : (id : PortId) (ps qs : Places) → Unmoved id ps qs → (i : ℕ) → owns id (at qs i) ≡ owns id (at ps i)
unmoved_owns id ps qs u i = owned_by id (at qs i) ∙ (ap is_some (u.alike i).details ∙ sym (owned_by id (at ps i)))

-- two places that are not a publisher's own are alike for it
pub none_held : (id : PortId) (x : Option Link) → owns id x ≡ false → (own_details id x ≡ None) × ((o : ℕ) → held_here id o x ≡ 0)
none_held id x h = search rules

pub foreign : (id : PortId) (x y : Option Link) → owns id x ≡ false → owns id y ≡ false → Alike id x y
foreign id x y a b = search rules

-- a link that is one publisher's is no other's
pub not_mine : (a id : PortId) (l : Link) → same_port a id ≡ false → same_port l.details.sender_port_id id ≡ true → mine a l ≡ false
not_mine a id l ne e = search rules

pub not_owned_by_other : (a id : PortId) (x : Option Link) → same_port a id ≡ false → owns id x ≡ true → owns a x ≡ false
not_owned_by_other a id x h k = search rules

-- one publisher's link changed, as no other publisher sees
pub unmoved_changed : (a id : PortId) (ps : Places) (i : ℕ) (f : Link → Link) → ((l : Link) → (f l).details ≡ l.details) → same_port a id ≡ false → owns id (at ps i) ≡ true
    → Unmoved a ps (changed ps i f)
unmoved_changed a id ps i f same ne e = grind (arith, unmoved_set, foreign, not_owned_by_other, not_mine)

-- what a change of a link keeps of it, a change of a place keeps of each place
pub kept_by : {R : Type 0} (h : Option Link → R) (f : Link → Link) → ((l : Link) → h (Some (f l)) ≡ h (Some l)) → (ps : Places) (i j : ℕ) → h (at (changed ps i f) j) ≡ h (at ps j)
kept_by h f keep ps i = set_each (λ x y. h y ≡ h x) (λ x. refl) ps i _ None (through (at ps i))
  where
    through : (x : Option Link) → h (option_map f x) ≡ h x
    through x = search rules

-- WHAT SUBSCRIBERS AND TURNS LEAVE

abbrev narrowed : PortId → Option LinkDetails → Option LinkDetails
narrowed id x = by x None (λ d. cond (same_port d.sender_port_id id) (Some d) None)

own_narrowed : (id : PortId) (x : Option Link) → own_details id x ≡ narrowed id (owned x)
own_narrowed id x = search rules

here_narrowed : (id : PortId) (o : ℕ) (x : Option Link) → held_here id o x ≡ by (owned x) 0 (λ d. cond (same_port d.sender_port_id id) (holding x o) 0)
here_narrowed id o x = search rules

pub unmoved_held : (id : PortId) (ps qs : Places) → HeldSame ps qs → Unmoved id ps qs
unmoved_held id ps qs h = grind (arith, here_narrowed)

-- A PUBLISHER IN ORDER

-- two lists that are alike at every place add up to the same
pub sum_alike : {X : Type 0} (d : X) (f : X → ℕ) → f d ≡ 0 → (xs ys : List X) → ((i : ℕ) → f (get_or ys i d) ≡ f (get_or xs i d)) → sum_by f ys ≡ sum_by f xs
sum_alike d f z [] [] h = refl
sum_alike d f z [] (y ∷ ys) h = omega (arith, sum_by-cons f y ys, sum_alike d f z [] ys (λ i. h (suc i)), h 0, z)
sum_alike d f z (x ∷ xs) [] h = omega (arith, sum_by-cons f x xs, sum_alike d f z xs [] (λ i. h (suc i)), h 0, z)
sum_alike d f z (x ∷ xs) (y ∷ ys) h = omega (arith, sum_by-cons f y ys, sum_by-cons f x xs, sum_alike d f z xs ys (λ i. h (suc i)), h 0)

pub unmoved_held_by : (id : PortId) (ps qs : Places) → Unmoved id ps qs → (o : ℕ) → held_by id qs o ≡ held_by id ps o
unmoved_held_by id ps qs u o = sum_alike None (held_here id o) refl ps qs (λ i. (u.alike i).holds o)

pub unmoved_wired : (p : Pub) (ps qs : Places) → Unmoved p.id ps qs → Wired p ps → Wired p qs
unmoved_wired p ps qs u w = grind (arith, unmoved_owns)

pub unmoved_order : (loans hand : List PointerOffset) (p : Pub) (ps qs : Places) → Unmoved p.id ps qs
    → InOrder loans hand (record { port = p; links = ps }) → InOrder loans hand (record { port = p; links = qs })
unmoved_order loans hand p ps qs u k = grind (arith, unmoved_held_by)
