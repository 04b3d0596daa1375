-- The code's counts, read and changed at one segment.
use Rattle.std.proofs.Common.{arith, ◌≡◌, ℕ, ◌<◌, ◌≤◌, List, [], get_or, set, replicate, vec_items, vec_len, Vec, ap, ◌∙◌}
use Rattle.std.specs.declared.alloc.Global.{Global}
use Rattle.std.proofs.lemmas.List.{get_or_read_under, get_or_past, get_or-replicate, length-replicate, set-get_or}
use Rattle.std.proofs.lemmas.Bool.{cases_lt}
use Rattle.std.proofs.lemmas.Bool.Decides.{nat_tests}
use Rattle.rules.specs.Counts.{counts_of, raised}

-- one row changed as `f` says, to `w`
pub rows_changed : (v : Vec (List ℕ) Global) (s : ℕ) (x w : List ℕ) (f : List ℕ → List ℕ) → s < vec_len v → x ≡ get_or (vec_items v) s x → w ≡ f x
    → set (vec_items v) s w ≡ set (vec_items v) s (f (counts_of (vec_items v) s))
rows_changed v s x w f lt e c = ap (set (vec_items v) s) (c ∙ ap f (get_or_read_under (vec_items v) s (vec_len v) x [] e lt v.ok.0))

-- counts of nothing
pub zeros_low : (n k : ℕ) → get_or (replicate {A = ℕ} n 0) k 0 ≤ 10
zeros_low n k = grind (arith, get_or-replicate {A = ℕ} n k 0 0, get_or_past (replicate {A = ℕ} n 0) k 0, length-replicate {A = ℕ} n 0, cases_lt k n)

-- a count that is at its cap stays
pub capped : (ns : List ℕ) (b n : ℕ) → n ≡ get_or ns b 0 → 10 ≤ n → ns ≡ set ns b (raised (get_or ns b 0))
capped ns b n e h = grind (arith, nat_tests, set-get_or {A = ℕ} ns b 0)
