use Rattle.std.proofs.Common.{set, sym, ap, ◌∙◌}
use Rattle.std.proofs.lemmas.Bool.{cond-true}
use Rattle.elementary.specs.Ids.{segment}
use Rattle.rules.specs.Pools.{pool_at, gave, with_pools, dynamic_mem}
use Rattle.pool.specs.Dynamic.{dynamic_of}
use Rattle.pool.proofs.Dynamics.{taken_bucket, dynamic_frees}
use Rattle.pool.proofs.dynamic_memory.DynamicMemoryMemory.deallocate_bucket.Goals as goal

pub returns : goal.returns
returns c =
    let d = dynamic_of c.args.self.now in
    let ps = d.pools in
    let o = c.args.offset.value in
    let b = c.in_ok-bucket.bucket in
    let t = taken_bucket ps o b (sym c.in_ok-bucket.ensures.ok_part ∙ c.taken_bucket.ensures) in
    let gone = c.give_in.ensures
    ∙ (ap (λ k. with_pools d (set ps k (gave (pool_at ps k) b))) (c.from.ensures ∙ c.segment_id.ensures)
    ∙ (ap (λ x. with_pools d (set ps (segment o) (gave (pool_at ps (segment o)) x))) t.1 ∙ sym (cond-true _ _ _ t.0))) in
    record { fault = sym (cond-true _ _ _ t.0); after = ap dynamic_mem gone ∙ dynamic_frees d o; pools = gone }
