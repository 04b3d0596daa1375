use Rattle.std.proofs.Common.{ap, refl}
use Rattle.rules.specs.Pools.{gave, with_pools}
use Rattle.pool.specs.Dynamic.{dynamic_of}
use Rattle.pool.proofs.Layouts.{pools_set, layout_changed, alike_gave}
use Rattle.pool.proofs.dynamic_memory.DynamicMemory.give_in.Goals as goal

pub invariant_of-self : goal.invariant_of-self
invariant_of-self c =
    let s = c.args.self.now in
    let b = c.args.bucket in
    let l = layout_changed s c.args.segment _ c.give_back.new.self (λ p. gave p b) (c.in-Some.ensures.variant.0 refl) c.in-Some.ensures.item.1 c.give_back.ensures (λ p. alike_gave p b) in
    record { four = s.four; room = s.room; sized = s.sized; laid = l.laid; rising = l.rising; even = l.even; spares = s.spares }

pub returns-in-Some : goal.returns-in-Some
returns-in-Some c =
    let s = c.args.self.now in
    ap (with_pools (dynamic_of s)) (pools_set s.live c.args.segment _ c.give_back.new.self (λ p. gave p c.args.bucket) (c.in-Some.ensures.variant.0 refl) c.in-Some.ensures.item.1 c.give_back.ensures)
