-- Laws of what a queue holds, and what a search through it finds. Assumes nothing.
use Rattle.std.proofs.Common.{◌≡◌, ℕ, ◌+◌, ◌<◌, ◌≤◌, Bool, true, false, List, [], ◌∷◌, ◌++◌, length, get_or, take, drop, sym, ap, ◌∙◌, append_assoc, append-nil, arith, rules, nat_lt, refl, suc, ⊎_elim, Some, None}
use Rattle.std.proofs.lemmas.List.{drop_more, take_more, drop_all, take_all, take_at, length-append}
use Rattle.std.proofs.lemmas.Bool.{ltb-false, cond_both, cases_Bool, ltb-true}
use Rattle.std.proofs.lemmas.Bool.Decides.{nat_tests}
use Rattle.std.specs.List.{remove, position_or_len, position}
use Rattle.container.specs.Queue.{pushed, has, without, Place}

module _ {X : Type 0} where
  -- a list from the place i on, and up to it with that place, where y is what stands there
  at : (xs : List X) (i : ℕ) (y : X) → i < length xs → y ≡ get_or xs i y → drop i xs ≡ y ∷ drop (i + 1) xs
  at xs i y h e = grind (arith, drop_more xs i y h)

  upto : (xs : List X) (i : ℕ) (y : X) → i < length xs → y ≡ get_or xs i y → take (i + 1) xs ≡ take i xs ++ y ∷ []
  upto xs i y h e = grind (arith, take_more xs i y h)

  -- whether x finds room or not, the front of n entries is as if x stood there, whatever comes after it
  pub front_push : (n : ℕ) (xs : List X) (x : X) (ys : List X) → length xs ≤ n → take n (pushed n xs x ++ ys) ≡ take n (xs ++ x ∷ ys)
  front_push n xs x ys h = grind (arith, nat_tests, take_at, append_assoc)

  -- what is at most n long is its own front of n entries
  pub front_whole : (n : ℕ) (xs ys : List X) → length xs + length ys ≤ n → take n (xs ++ ys) ≡ xs ++ ys
  front_whole n xs ys h = grind (arith, take_all, length-append)

module _ {X : Type 0} (like : X → X → Bool) where
  -- what a search that has come to the place i has left to do gives the whole answer
  pub record Left (xs : List X) (x : X) (i : ℕ) : Type 0 where
    pub found : has like (drop i xs) x ≡ has like xs x
    pub rest : take i xs ++ without like (drop i xs) x ≡ without like xs x

  -- one entry that is not like x, where t is the test's answer
  pub next : (xs : List X) (x : X) (i : ℕ) (y : X) (t : Bool) → i < length xs → y ≡ get_or xs i y → t ≡ like y x → t ≡ false → Left xs x i → Left xs x (i + 1)
  next xs x i y t h e is out l = grind (arith, at xs i y h e, upto xs i y h e, append_assoc)

  -- one entry that is
  pub here : (xs : List X) (x : X) (i : ℕ) (y : X) (t : Bool) → i < length xs → y ≡ get_or xs i y → t ≡ like y x → t ≡ true → Left xs x i
      → (i < length xs) × (has like xs x ≡ true) × (without like xs x ≡ remove xs i)
  here xs x i y t h e is found l = grind (arith, at xs i y h e)

  -- no entry is left
  pub nowhere : (xs : List X) (x : X) (i : ℕ) → length xs ≤ i → Left xs x i → (has like xs x ≡ false) × (without like xs x ≡ xs)
  nowhere xs x i h l = grind (arith, drop_all, take_all, append-nil)

module _ {X : Type 0} (like : X → X → Bool) (x : X) where
  abbrev first : List X → ℕ
  first xs = position_or_len (λ y. like y x) xs

  -- the first place of an entry like x is below the length exactly where there is one, and it is the place of the entry that `without` leaves out
  places : (xs : List X) → (nat_lt (first xs) (length xs) ≡ has like xs x) × (without like xs x ≡ remove xs (first xs))
  places [] = (refl, refl)
  places (y ∷ ys) = let i = places ys in ⊎_elim (λ e. rw e (grind rules)) (λ e. rw e (grind rules)) (cases_Bool (like y x))

  pub placed : (xs : List X) → Place like xs x (position (λ y. like y x) xs)
  placed xs =
      let i = places xs in
      cond_both (nat_lt (first xs) (length xs)) (Some (first xs)) None (Place like xs x)
      (λ e. (ltb-true _ _ e, sym i.0 ∙ e, i.1))
      (λ e.
      let past = ltb-false _ _ e in
      (sym i.0 ∙ e, i.1 ∙ (ap (λ ys. take (first xs) xs ++ ys) (drop_all (suc (first xs)) xs (omega (arith, past))) ∙ (append-nil _ ∙ take_all (first xs) xs past))))
