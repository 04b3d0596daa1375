-- What backpressure handlers answer.
use Rattle.std.specs.Prelude.{Some, None, Option}
use Rattle.elementary.specs.declared.backpressure.BackpressureAction.{BackpressureAction}
use Rattle.elementary.specs.declared.backpressure.BackpressureAction.TheVariants.{FollowBackpressureStrategy}
use Rattle.elementary.specs.declared.backpressure.BackpressureInfo.{BackpressureInfo}

abbrev pub always : BackpressureAction → BackpressureInfo → BackpressureAction
always a info = a

-- an absent handler follows the strategy
abbrev pub optional : {H : Type 0} → (H → BackpressureInfo → BackpressureAction) → Option H → BackpressureInfo → BackpressureAction
optional f None info = FollowBackpressureStrategy
optional f (Some h) info = f h info
