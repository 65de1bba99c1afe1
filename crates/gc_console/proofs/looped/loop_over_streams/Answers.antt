use Rattle.gc_console.proofs.Common.{inr, IfOk-weaker}
use Rattle.gc_console.proofs.looped.loop_over_streams.Goals as goal

pub returns-in-Ok-Plain-clause-told : goal.returns-in-Ok-Plain-clause-told
returns-in-Ok-Plain-clause-told g c = IfOk-weaker c.loop_on.result _ _ (λ status told. inr told) c.loop_on.ensures.told

pub returns-in-Ok-Ruled-clause-told : goal.returns-in-Ok-Ruled-clause-told
returns-in-Ok-Ruled-clause-told g c = IfOk-weaker c.loop_on-in-Ok-Ruled.result _ _ (λ status told. inr told) c.loop_on-in-Ok-Ruled.ensures.told
