-- What taking and giving back do to the buckets of a segment.
use Rattle.std.proofs.Common.{rules, ◌≡◌, ℕ, zero, suc, ◌+◌, ◌<◌, ◌≤◌, Bool, true, false, cond, List, [], ◌∷◌, ◌++◌, length, get_or, set, replicate, vec_items, vec_capacity, sym, refl, ap, ◌∙◌, arith}
use Rattle.std.proofs.lemmas.List.{length_push, length-set, places, append-nil, length-replicate, get_or-replicate, get_or_past}
use Rattle.std.proofs.lemmas.List.Sums.{sum_by-set, sum_by-cons}
use Rattle.std.proofs.lemmas.Bool.{cases_lt}
use Rattle.pool.specs.declared.pool_allocator.PoolAllocator.{PoolAllocator}
use Rattle.rules.specs.Laws.{trues}
use Rattle.rules.proofs.Totals.{marked_within}
use Rattle.pool.specs.Order.{Idle, Apart, Unused, Counted, Listed}

-- the number of taken buckets after one is taken or freed
pub trues_set_true : (bs : List Bool) (i : ℕ) → i < length bs → get_or bs i false ≡ false → trues (set bs i true) ≡ trues bs + 1
trues_set_true bs i h e =
    let s = sum_by-set (λ b. cond b 1 0) bs i true false h in
    let z : ◌≡◌ {A = ℕ} (cond (get_or bs i false) 1 0) (cond false 1 0) = ap (λ b. cond b 1 0) e in omega arith

pub trues_set_false : (bs : List Bool) (i : ℕ) → i < length bs → get_or bs i false ≡ true → trues (set bs i false) + 1 ≡ trues bs
trues_set_false bs i h e = grind (arith, sum_by-set (λ b. cond b 1 0) bs i false false h)

-- a taken bucket was once fresh
pub taken_below : (bs : List Bool) (fresh i : ℕ) → Unused bs fresh → get_or bs i false ≡ true → i < fresh
taken_below bs fresh i u e = search rules

-- giving back the taken bucket b
pub counted_give : (taken : List Bool) (freed : List ℕ) (fresh room b : ℕ) → Counted taken freed fresh room → get_or taken b false ≡ true
    → Counted (set taken b false) (freed ++ b ∷ []) fresh room
counted_give taken freed fresh room b k e = grind (arith, trues_set_false, marked_within, length-set, length_push)

pub listed_give : (taken : List Bool) (freed : List ℕ) (fresh b : ℕ) → Listed taken freed fresh → get_or taken b false ≡ true
    → Listed (set taken b false) (freed ++ b ∷ []) fresh
listed_give taken freed fresh b k e = search (rules, marked_within, taken_below, places, length_push)

pub apart_give : (taken : List Bool) (freed : List ℕ) (b : ℕ) → Idle taken freed → Apart freed → get_or taken b false ≡ true
    → Apart (freed ++ b ∷ [])
apart_give taken freed b idle apart e = search (rules, places)

-- taking the last freed bucket b
pub counted_again : (taken : List Bool) (freed : List ℕ) (fresh room b : ℕ) → Counted taken (freed ++ b ∷ []) fresh room → Listed taken (freed ++ b ∷ []) fresh
    → Counted (set taken b true) freed fresh room
counted_again taken freed fresh room b (few, many, roomy) (old, idle, unused) =
    let t : b < fresh = grind (arith, old (length freed), places, length_push) in
    let i : get_or taken b false ≡ false = grind (arith, idle (length freed), places, length_push) in
    let n = trues_set_true taken b (omega arith) i in
    (simp length-set few, omega (arith, length_push freed b), simp length-set roomy)

pub listed_again : (taken : List Bool) (freed : List ℕ) (fresh b : ℕ) → Listed taken (freed ++ b ∷ []) fresh → Apart (freed ++ b ∷ [])
    → Listed (set taken b true) freed fresh
listed_again taken freed fresh b (old, idle, unused) apart =
    let t : b < fresh = grind (arith, old (length freed), places, length_push) in (
      λ k lt. grind (arith, old k, places, length_push),
      λ k lt. grind (arith, idle k, apart k (length freed), places, length_push),
      λ i le. grind (arith, unused i, places),
    )

pub apart_again : (freed : List ℕ) (b : ℕ) → Apart (freed ++ b ∷ []) → Apart freed
apart_again freed b apart j k lt kn same = grind (arith, apart j k, places, length_push)

-- taking the lowest bucket never taken
pub counted_fresh : (taken : List Bool) (freed : List ℕ) (fresh room : ℕ) → Counted taken freed fresh room → Unused taken fresh → fresh < length taken
    → Counted (set taken fresh true) freed (fresh + 1) room
counted_fresh taken freed fresh room k unused h = grind (arith, trues_set_true, length-set)

pub listed_fresh : (taken : List Bool) (freed : List ℕ) (fresh : ℕ) → Listed taken freed fresh → Listed (set taken fresh true) freed (fresh + 1)
listed_fresh taken freed fresh k = search (rules, places)

-- the three facts of a segment's buckets, as a ghost need asks for them
abbrev pub AllKept : List Bool → List ℕ → ℕ → ℕ → Type 0
AllKept taken freed fresh room = Counted taken freed fresh room × Listed taken freed fresh × Apart freed

-- there is room for one more freed bucket while one is taken
pub room_give : (taken : List Bool) (freed : List ℕ) (fresh room b : ℕ) → Counted taken freed fresh room → get_or taken b false ≡ true → length freed < room
room_give taken freed fresh room b k e = let n = trues_set_false taken b (marked_within taken b e) e in omega arith

-- from here on over the code's own record, whose ghost fields are the facts
pub kept_give : (p : PoolAllocator) (b : ℕ) {freed' : List ℕ} {room' : ℕ} → freed' ≡ vec_items p.freed ++ b ∷ [] → room' ≡ vec_capacity p.freed
    → get_or (vec_items p.taken) b false ≡ true → AllKept (set (vec_items p.taken) b false) freed' p.fresh room'
kept_give p b e r t =
    rw (e, r) (counted_give _ _ _ _ b p.counted t, listed_give _ _ _ b p.listed t, apart_give _ _ b p.listed.1 p.apart t)

-- the last freed bucket is there
pub last_freed : (p : PoolAllocator) (b : ℕ) (freed' : List ℕ) → vec_items p.freed ≡ freed' ++ b ∷ [] → b < length (vec_items p.taken)
last_freed p b freed' e = search (rules, places, length_push)

again_lists : (taken : List Bool) (freed : List ℕ) (fresh room b : ℕ) (freed' : List ℕ) → freed ≡ freed' ++ b ∷ []
    → Counted taken freed fresh room → Listed taken freed fresh → Apart freed → AllKept (set taken b true) freed' fresh room
again_lists taken freed fresh room b freed' e c l a =
    let c' : Counted taken (freed' ++ b ∷ []) fresh room = rw e at c in
    let l' : Listed taken (freed' ++ b ∷ []) fresh = rw e at l in
    let a' : Apart (freed' ++ b ∷ []) = rw e at a in
    (counted_again taken freed' fresh room b c' l', listed_again taken freed' fresh b l' a', apart_again freed' b a')

pub kept_again : (p : PoolAllocator) (b : ℕ) (freed' : List ℕ) {room' : ℕ} → vec_items p.freed ≡ freed' ++ b ∷ [] → room' ≡ vec_capacity p.freed
    → AllKept (set (vec_items p.taken) b true) freed' p.fresh room'
kept_again p b freed' e r = rw r (again_lists _ (vec_items p.freed) _ _ b freed' e p.counted p.listed p.apart)

-- where none was freed: the lowest never taken
pub kept_fresh : (p : PoolAllocator) (freed' : List ℕ) {room' : ℕ} → vec_items p.freed ≡ freed' ++ [] → room' ≡ vec_capacity p.freed → p.fresh < length (vec_items p.taken)
    → AllKept (set (vec_items p.taken) p.fresh true) freed' (p.fresh + 1) room'
kept_fresh p freed' e r h =
    let e' : freed' ≡ vec_items p.freed = sym (append-nil freed') ∙ sym e in
    rw (e', r) (counted_fresh _ _ _ _ p.counted p.listed.2 h, listed_fresh _ _ _ p.listed, p.apart)

-- before the first bucket is taken
trues_none : (n : ℕ) → trues (replicate n false) ≡ 0
trues_none zero = refl
trues_none (suc n) = omega (arith, sum_by-cons (λ b. cond b 1 0) false (replicate n false), trues_none n)

new_lists : (n room : ℕ) → n ≤ room → AllKept (replicate n false) [] 0 room
new_lists n room h = search (rules, trues_none, length-replicate, get_or-replicate, get_or_past, cases_lt)

pub kept_new : (taken : List Bool) (freed : List ℕ) (room n : ℕ) → taken ≡ replicate n false → freed ≡ [] → n ≤ room → AllKept taken freed 0 room
kept_new taken freed room n e f h = rw (e, f) (new_lists n room h)
