-- What a queue holds, and what each call makes of it. Assumes nothing.
use Rattle.std.specs.Prelude.{◌≡◌, ℕ, ◌<◌, Bool, true, false, cond, ◌||◌, List, [], ◌∷◌, ◌++◌, length, Some, None, Ok, Err, Option, Result, nat_lt}
use Rattle.std.specs.VecDeque.{deque_items}
use Rattle.std.specs.List.{remove}
use Rattle.container.specs.declared.queue.Queue.{Queue}

module _ {X : Type 0} {N : ℕ} where
  -- the entries, oldest first
  abbrev pub entries : Queue X N → List X
  entries q = deque_items q.items

  -- how many entries it may hold
  abbrev pub bound : Queue X N → ℕ
  bound q = q.limit

module _ {X : Type 0} where
  -- the first of the entries
  abbrev pub oldest : List X → Option X
  oldest [] = None
  oldest (x ∷ xs) = Some x

  -- the entries without the oldest
  abbrev pub later : List X → List X
  later [] = []
  later (x ∷ xs) = xs

  -- whether one entry more would stay within the bound n
  abbrev pub roomy : ℕ → List X → Bool
  roomy n xs = nat_lt (length xs) n

  -- x comes last where there is room
  abbrev pub pushed : ℕ → List X → X → List X
  pushed n xs x = cond (roomy n xs) (xs ++ x ∷ []) xs

  -- what a push answers: x itself where there is no room
  abbrev pub handed_back : ℕ → List X → X → Result (Unit {0}) X
  handed_back n xs x = cond (roomy n xs) (Ok tt) (Err x)

  -- x comes last in any case, and where there is no room the oldest of all leaves
  abbrev pub overflowed : ℕ → List X → X → List X
  overflowed n xs x = cond (roomy n xs) (xs ++ x ∷ []) (later (xs ++ x ∷ []))

  -- the entry that leaves
  abbrev pub evicted : ℕ → List X → X → Option X
  evicted n xs x = cond (roomy n xs) None (oldest (xs ++ x ∷ []))

  -- whether some entry is like x
  abbrev pub has : (X → X → Bool) → List X → X → Bool
  has like [] x = false
  has like (y ∷ ys) x = like y x || has like ys x

  -- the entries without the oldest that is like x: all of them where none is
  abbrev pub without : (X → X → Bool) → List X → X → List X
  without like [] x = []
  without like (y ∷ ys) x = cond (like y x) ys (y ∷ without like ys x)

  -- what a search for x may answer: nothing, where no entry is like x, or the place of the entry that `without` leaves out
  abbrev pub Place : (X → X → Bool) → List X → X → Option ℕ → Type 0
  Place like xs x None = (has like xs x ≡ false) × (without like xs x ≡ xs)
  Place like xs x (Some i) = (i < length xs) × (has like xs x ≡ true) × (without like xs x ≡ remove xs i)
