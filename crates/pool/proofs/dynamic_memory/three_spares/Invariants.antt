use Rattle.std.proofs.Common.{◌≡◌, ◌≤◌, vec_items, vec_len, vec_capacity}
use Rattle.pool.specs.Layout.{Spares}
use Rattle.pool.proofs.dynamic_memory.three_spares.Given as goal

abbrev pub invariant-loop : goal.invariant-loop
invariant-loop l = (vec_len l.spare ≡ l.counter) × (3 ≤ vec_capacity l.spare) × Spares (vec_items l.spare) l.layout.count
