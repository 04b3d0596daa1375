use Rattle.std.proofs.Common.{◌≡◌, ◌+◌, ◌*◌, ◌<◌, ◌≤◌, true, false, Some, length, vec_items, vec_len, sym, refl, ap, ◌∙◌, subst, mul-le-mul, arith, rules}
use Rattle.std.proofs.lemmas.List.{map_push, length-replicate}
use Rattle.std.proofs.lemmas.Bool.{and_from, lt-ltb, le-leb, cond-true}
use Rattle.rules.specs.Memory.{blank}
use Rattle.rules.specs.Pools.{Pool, new_pool, rounded, segments_of, can_grow, grown}
use Rattle.pool.specs.Model.{pools_in}
use Rattle.pool.specs.Dynamic.{dynamic_of}
use Rattle.pool.specs.Soundness.{pools_length}
use Rattle.pool.proofs.Layouts.{Layout, layout_push, spares_pop}
use Rattle.pool.proofs.Dynamics.{grown_pools, rounded_up}
use Rattle.pool.proofs.dynamic_memory.DynamicMemory.grow.Goals as goal

size : (c : goal.After-push_reserved) → c.next_multiple_of-bucket_size.result ≡ rounded c.args.size
size c =
    let e = c.next_multiple_of-bucket_size.ensures in
    rounded_up c.args.size _ e.lower_bound e.upper_bound e.multiple

pools : (c : goal.After-push_reserved) → pools_in (vec_items c.push_reserved.new.self) ≡ (grown (dynamic_of c.args.self.now) c.args.size).pools
pools c =
    let s = c.args.self.now in
    let p = c.lay.ensures ∙ ap (λ z. new_pool s.end z c.in_ok-spare.spare) (size c) in
    grown_pools s c.args.size _ _ _ _ c.push_reserved.ensures.items c.in_ok-spare.ensures.items p

pub invariant_of-self-2 : goal.invariant_of-self-2
invariant_of-self-2 c =
    let s = c.args.self.now in
    let ps = pools_in (vec_items s.live) in
    let g = blank s.end (rounded c.args.size) s.count in
    let l = layout_push (segments_of ps) g s.end s.count refl (length-replicate s.count false) (record { laid = s.laid; rising = s.rising; even = s.even }) in
    let m = subst (λ gs. Layout gs (s.end + rounded c.args.size * s.count) s.count)
    (sym (ap segments_of (pools c) ∙ map_push (λ (q : Pool). q.buckets) ps (new_pool s.end (rounded c.args.size) s.count))) l in
    let n = subst (λ z. Layout (segments_of (pools_in (vec_items c.push_reserved.new.self))) (s.end + z * s.count) s.count) (sym (size c)) m in
    let z : rounded c.args.size ≤ 65536 = omega (arith, c.requires) in
    let span : rounded c.args.size * s.count ≤ 65536 * 256 = mul-le-mul z s.sized.4 in
    let e = ap (λ z. z * s.count) (size c) in
    let t : vec_len c.push_reserved.new.self ≡ vec_len s.live + 1 = c.push_reserved.ensures.len in
    record {
      four = search rules;
      room = search rules;
      sized = (omega arith, omega (arith, c.if-span-self.false, s.sized.1), omega (arith, s.sized.2), s.sized.3, s.sized.4);
      laid = n.laid;
      rising = n.rising;
      even = n.even;
      spares = (spares_pop _ _ _ _ c.in_ok-spare.ensures.items s.spares).0;
    }

pub returns : goal.returns
returns c =
    let s = c.args.self.now in
    let e = c.next_multiple_of-bucket_size.ensures in
    let z = rounded_up c.args.size _ e.lower_bound e.upper_bound e.multiple in
    let p = c.lay.ensures ∙ ap (λ b. new_pool s.end b c.in_ok-spare.spare) z in
    let n = ap (λ b. b * s.count) z in
    let few : length (pools_in (vec_items s.live)) < 4 = omega (arith, s.four, c.in_ok-spare.ensures.len, pools_length s.live) in
    let fits : s.end + rounded c.args.size * s.count ≤ s.capacity = omega (arith, c.if-span-self.false, s.sized.1) in
    let yes : can_grow (dynamic_of s) c.args.size ≡ true = and_from _ _ (lt-ltb _ _ few) (le-leb _ _ fits) in
    record {
      value = ap Some (c.len-segment.ensures ∙ sym (pools_length s.live)) ∙ sym (cond-true _ _ _ yes);
      after = ap (λ ps. record { pools = ps; count = s.count; end = s.end + c.next_multiple_of-bucket_size.result * s.count; capacity = s.capacity }) (grown_pools s c.args.size _ _ _ _ c.push_reserved.ensures.items c.in_ok-spare.ensures.items p)
          ∙ (ap (λ m. record { pools = (grown (dynamic_of s) c.args.size).pools; count = s.count; end = s.end + m; capacity = s.capacity }) n ∙ sym (cond-true _ _ _ yes));
    }
