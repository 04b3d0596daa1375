use Rattle.std.proofs.Common.{ap, refl}
use Rattle.rules.specs.Pools.{took, with_pools}
use Rattle.pool.specs.Dynamic.{dynamic_of}
use Rattle.pool.proofs.Layouts.{pools_set, layout_changed, alike_took}
use Rattle.pool.proofs.dynamic_memory.DynamicMemory.take_in.Goals as goal

pub invariant_of-self-2 : goal.invariant_of-self-2
invariant_of-self-2 c =
    let s = c.args.self.now in
    let l = layout_changed s c.args.segment _ c.take.new.self took (c.in_ok-get_mut.ensures.variant.0 refl) c.in_ok-get_mut.ensures.item.1 c.take.ensures.after alike_took in
    record { four = s.four; room = s.room; sized = s.sized; laid = l.laid; rising = l.rising; even = l.even; spares = s.spares }

pub returns-clause-after : goal.returns-clause-after
returns-clause-after c =
    let s = c.args.self.now in
    ap (with_pools (dynamic_of s)) (pools_set s.live c.args.segment _ c.take.new.self took (c.in_ok-get_mut.ensures.variant.0 refl) c.in_ok-get_mut.ensures.item.1 c.take.ensures.after)
