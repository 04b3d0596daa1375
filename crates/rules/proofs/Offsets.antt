-- How often a list of offsets has one.
use Rattle.std.proofs.Common.{rules, arith, true, false, cond, ◌≡◌, ℕ, ◌+◌, ◌≤◌, eqb, List, [], ◌∷◌, ◌++◌, length, refl}
use Rattle.std.specs.Option.{option_to_list}
use Rattle.std.proofs.lemmas.Bool.Decides.{nat_tests}
use Rattle.std.proofs.lemmas.List.{length_push}
use Rattle.std.proofs.lemmas.List.Sums.{sum_by-cons, sum_by-append}
use Rattle.std.proofs.lemmas.Bool.{false≢true}
use Rattle.container.specs.Queue.{oldest, later, overflowed, has, without}
use Rattle.elementary.specs.Ids.{same_chunk}
use Rattle.elementary.specs.declared.pointer_offset.PointerOffset.{PointerOffset}
use Rattle.rules.specs.Links.{times}

-- one entry's part
abbrev pub one : PointerOffset → ℕ → ℕ
one x o = cond (eqb x.value o) 1 0

pub one_self : (x : PointerOffset) → one x x.value ≡ 1
one_self x = search rules

pub times_cons : (x : PointerOffset) (xs : List PointerOffset) (o : ℕ) → times (x ∷ xs) o ≡ one x o + times xs o
times_cons x xs o = sum_by-cons (λ (y : PointerOffset). cond (eqb y.value o) 1 0) x xs

pub times_append : (xs ys : List PointerOffset) (o : ℕ) → times (xs ++ ys) o ≡ times xs o + times ys o
times_append xs ys o = sum_by-append (λ (y : PointerOffset). cond (eqb y.value o) 1 0) xs ys

pub times_push : (xs : List PointerOffset) (x : PointerOffset) (o : ℕ) → times (xs ++ x ∷ []) o ≡ times xs o + one x o
times_push xs x o = omega (arith, times_append xs (x ∷ []) o, times_cons x [] o)

-- the oldest and the later ones
pub times_split : (xs : List PointerOffset) (o : ℕ) → times (option_to_list (oldest xs)) o + times (later xs) o ≡ times xs o
times_split [] o = refl
times_split (x ∷ xs) o = omega (arith, times_cons x xs o, times_cons x [] o)

pub later_short : (xs : List PointerOffset) (n : ℕ) → length xs ≤ n + 1 → length (later xs) ≤ n
later_short xs n h = search rules

-- a list that has no such entry has it no time
pub absent_times : (xs : List PointerOffset) (x : PointerOffset) → has same_chunk xs x ≡ false → times xs x.value ≡ 0
absent_times [] x h = refl
absent_times (y ∷ ys) x h =
    grind (arith, times_cons y ys x.value, absent_times ys x)

-- the list without one that it has
pub without_times : (xs : List PointerOffset) (x : PointerOffset) (o : ℕ) → has same_chunk xs x ≡ true → times (without same_chunk xs x) o + one x o ≡ times xs o
without_times [] x o h = absurd (false≢true h)
without_times (y ∷ ys) x o h =
    grind (arith, nat_tests, times_cons y ys o, times_cons y (without same_chunk ys x) o, without_times ys x o)

pub without_length : (xs : List PointerOffset) (x : PointerOffset) (n : ℕ) → length xs ≤ n → length (without same_chunk xs x) ≤ n
without_length [] x n h = h
without_length (y ∷ ys) x n h = grind (arith, without_length ys x (length ys))

-- what a push with overflow leaves
pub overflowed_length : (n : ℕ) (xs : List PointerOffset) (x : PointerOffset) → length xs ≤ n → length (overflowed n xs x) ≤ n
overflowed_length n xs x h = grind (arith, length_push, later_short)

pub overflowed_times : (n : ℕ) (xs : List PointerOffset) (x : PointerOffset) (o : ℕ) → times (overflowed n xs x) o ≤ times xs o + one x o
overflowed_times n xs x o =
    grind (arith, times_push xs x o, times_split (xs ++ x ∷ []) o)
