-- What a cycle does to the slots keeps a publisher in order.
use Rattle.std.proofs.Common.{rules, ◌≡◌, ℕ, ◌+◌, ◌-◌, ◌^◌, ltb, List, length, get_or, set, Some, None, Option, sym, refl, ap, ◌∙◌, subst}
use Rattle.std.specs.Option.{option_map}
use Rattle.std.proofs.lemmas.Bool.{cond_both}
use Rattle.std.proofs.lemmas.List.{length-set, length-map}
use Rattle.std.proofs.Math.ListN.{get_or-map}
use Rattle.elementary.specs.declared.pointer_offset.PointerOffset.{PointerOffset}
use Rattle.rules.specs.Bank.{Places}
use Rattle.rules.specs.Publisher.{Connection, Pub, Side, slot_at, tagged, tag_slot, begun, is_stale, Sweeps, swept, visited}
use Rattle.rules.specs.Books.{Wired, InOrder, beside}
use Rattle.rules.proofs.Banks.{goes}
use Rattle.rules.proofs.Lists.{set_each}
use Rattle.rules.proofs.Removes.{removing}

-- TAGS

abbrev places : Option Connection → Option ℕ
places x = option_map (λ (c : Connection). c.place) x

found : (x : Option Connection) (n : ℕ) → places x ≡ Some n → (d : Connection) × (x ≡ Some d) × (d.place ≡ n)
found x n h = search rules

-- slots that differ by tags alone are wired alike
retagged : (p q : Pub) (ps : Places) → q.id ≡ p.id → length q.slots ≡ length p.slots → ((j : ℕ) → places (slot_at q j) ≡ places (slot_at p j)) → Wired p ps → Wired q ps
retagged p q ps id long same w = search rules

tag_places : (n : ℕ) (x : Option Connection) → places (option_map (tagged n) x) ≡ places x
tag_places n x = search rules

-- the books do not look at slots, tags and lists
pub tagging : (loans hand : List PointerOffset) (g : Side) (i : ℕ) → InOrder loans hand g → InOrder loans hand (beside g (tag_slot g.port i))
tagging loans hand g i k =
    let p = g.port in
    let b = k.books in
    let y = option_map (tagged p.cycle) (slot_at p i) in
    let same : (j : ℕ) → places (get_or (set p.slots i y) j None) ≡ places (slot_at p j)
    = set_each (λ c d. places d ≡ places c) (λ c. refl) p.slots i y None (tag_places p.cycle (slot_at p i)) in
    record {
      books = search rules;
      wired = retagged p (tag_slot p i) g.links refl (length-set p.slots i y) same k.wired;
    }

pub beginning : (loans hand : List PointerOffset) (g : Side) (n : ℕ) → InOrder loans hand g → InOrder loans hand (beside g (begun g.port n))
beginning loans hand g n k =
    let p = g.port in
    cond_both (ltb p.cycle (2 ^ 64 - 1)) _ _ (λ q. InOrder loans hand (beside g q))
    (λ _. record { books = search rules; wired = search rules })
    (λ _. record {
      books = search rules;
      wired = retagged p _ g.links refl (length-map p.slots (option_map (tagged 0))) (λ j. ap places (get_or-map (option_map (tagged 0)) p.slots j None) ∙ tag_places 0 (slot_at p j)) k.wired;
    })

-- SWEEPING

pub sweeping : (loans hand : List PointerOffset) (i n : ℕ) (g h : Side) → Sweeps i n g h → InOrder loans hand g → InOrder loans hand h
sweeping loans hand i n g h (swept z same) k = subst (InOrder loans hand) (sym same) k
sweeping loans hand i _ g h (visited {n = n} {m = m} v rest) k =
    sweeping loans hand (i + 1) n m h rest
    (goes (is_stale g.port i) v (λ r. removing loans hand g i m r k) (λ same. subst (InOrder loans hand) (sym same) k))
