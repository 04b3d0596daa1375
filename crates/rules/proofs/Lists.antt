-- Places of lists.
use Rattle.std.proofs.Common.{◌≡◌, ℕ, ◌<◌, ◌⊎◌, List, length, get_or, set, sym, ap, subst, inl, inr, ⊎_elim, arith}
use Rattle.std.proofs.lemmas.List.{get_or-set_same, get_or-set_other, get_or_past, set_past}
use Rattle.std.proofs.lemmas.Bool.{cases_eq, cases_lt}

-- where a list has anything but the default it has a place
pub within : {X : Type 0} (xs : List X) (i : ℕ) (d : X) → (get_or xs i d ≡ d → ⊥) → i < length xs
within xs i d ne = ⊎_elim (λ lt. lt) (λ past. absurd (ne (get_or_past xs i d past))) (cases_lt i (length xs))

-- where one place is set, a place has the new element, or what it had
pub set_cases : {X : Type 0} (xs : List X) (i : ℕ) (y d : X) (j : ℕ)
    → ((j ≡ i) × (get_or (set xs i y) j d ≡ y)) ⊎ ((i < length xs → j ≡ i → ⊥) × (get_or (set xs i y) j d ≡ get_or xs j d))
set_cases xs i y d j =
    ⊎_elim
    (λ same. ⊎_elim
    (λ lt. inl (same, rw same (get_or-set_same xs i y d lt)))
    (λ past. inr (λ lt _. omega arith, ap (λ ys. get_or ys j d) (set_past xs i y past)))
    (cases_lt i (length xs)))
    (λ other. inr (λ _. other, get_or-set_other xs i j y d other))
    (cases_eq j i)

-- so what the new element is to the old one, and each to itself, every element is to the one that was there
pub set_each : {X : Type 0} (R : X → X → Type 0) → ((x : X) → R x x) → (xs : List X) (i : ℕ) (y d : X) → R (get_or xs i d) y
    → (j : ℕ) → R (get_or xs j d) (get_or (set xs i y) j d)
set_each R same xs i y d r j =
    ⊎_elim
    (λ new. subst (R (get_or xs j d)) (sym new.1) (subst (λ k. R (get_or xs k d) y) (sym new.0) r))
    (λ old. subst (R (get_or xs j d)) (sym old.1) (same (get_or xs j d)))
    (set_cases xs i y d j)
