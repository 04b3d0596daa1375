use Rattle.std.proofs.Common.{◌*◌, ◌≤◌, vec_items, sym, ap, subst, ◌∙◌, arith}
use Rattle.rules.specs.Memory.{Segment}
use Rattle.pool.specs.Dynamic.{dynamic_of}
use Rattle.pool.specs.Soundness.{segments_at}
use Rattle.pool.proofs.Dynamics.{Ready, ready, ready_small}
use Rattle.pool.proofs.dynamic_memory.DynamicMemory.take_at.Goals as goal

taking : (c : goal.In_ok-bucket) → Ready (vec_items c.args.self.now.live) c.args.segment c.in_ok-bucket.bucket
taking c =
    ready (vec_items c.args.self.now.live) c.args.segment c.in_ok-bucket.bucket (sym c.take_in.ensures.value ∙ c.in_ok-bucket.ensures.ok_part)

small : (c : goal.In_ok-bucket) → c.in_ok-bucket.bucket * c.bucket_size-size.result ≤ 256 * 65536
small c =
    let e = c.bucket_size-size.ensures ∙ ap (λ (g : Segment). g.size) (segments_at (dynamic_of c.args.self.now).pools c.args.segment) in
    subst (λ z. c.in_ok-bucket.bucket * z ≤ 256 * 65536) (sym e) (ready_small (vec_items c.args.self.now.live) c.args.segment c.in_ok-bucket.bucket (taking c))

pub overflow_mul-bucket : goal.overflow_mul-bucket
overflow_mul-bucket c = omega (arith, small c)

pub from_offset_and_segment_id-requires : goal.from_offset_and_segment_id-requires
from_offset_and_segment_id-requires c = omega (arith, small c)
